-- The length of a request's body: RFC 9112, section 6.
use Rattle.std.specs.Prelude.{ℕ, List, [], ◌∷◌, nat_le, codes, Option, Some, None, Result, Ok, Err, if◌then◌else◌}
use Rattle.std.specs.Str.Parse.{digits_value}
use Rattle.definitions.specs.Limits.{max_body}
use Rattle.definitions.specs.SmallText.{is_decimal}
use Rattle.http1.specs.Fields.{Header, values_named}
use Rattle.webhook_sessions.specs.declared.fault.Fault.{Fault}
use Rattle.webhook_sessions.specs.declared.fault.Fault.TheVariants.{NoLength, BadLength, TooLong}

-- The length that a field states: one to nine digits, and no more than the longest body. RFC 9110, section 8.6, allows any number of digits.
abbrev pub length_of : List ℕ → Result ℕ Fault
length_of text = if is_decimal text then (if nat_le (digits_value 10 text) max_body then Ok (digits_value 10 text) else Err TooLong) else Err BadLength

abbrev pub just : Result ℕ Fault → Result (Option ℕ) Fault
just (Ok n) = Ok (Some n)
just (Err fault) = Err fault

-- what the `Content-Length` fields state; `None` if there is none
abbrev pub stated_by : List (List ℕ) → Result (Option ℕ) Fault
stated_by [] = Ok None
stated_by (value ∷ []) = just (length_of value)
stated_by (value ∷ other ∷ others) = Err BadLength

-- a body in a transfer coding is not read; this is defined by this project
abbrev pub unless_coded : List (List ℕ) → Result (Option ℕ) Fault → Result (Option ℕ) Fault
unless_coded [] stated = stated
unless_coded (coding ∷ codings) stated = Err NoLength

abbrev pub stated_length : List Header → Result (Option ℕ) Fault
stated_length fields = unless_coded (values_named (codes "transfer-encoding") fields) (stated_by (values_named (codes "content-length") fields))
