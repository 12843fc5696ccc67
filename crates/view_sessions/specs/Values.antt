-- The forms of the values of parameters. They are defined by this project.
use Rattle.std.specs.Prelude.{ℕ, ◌+◌, ◌==◌, List, [], ◌∷◌, drop, length, nat_le, nat_lt, slice_index, take, codes, Bool, true, not, ◌&&◌, ◌||◌, Option, Some, None, option_map, option_and_then, if◌then◌else◌}
use Rattle.std.specs.Char.{is_ascii_hexdigit}
use Rattle.std.specs.List.{position}
use Rattle.std.specs.Option.{option_map_or}
use Rattle.std.specs.Str.{bytes_eq, is_utf8}
use Rattle.percent_encoding.specs.Percent.{percent_decode}
use Rattle.group_name.specs.Group.{group_of}
use Rattle.group_name.specs.KeyTexts.{name_bytes}
use Rattle.definitions.specs.SmallText.{found_if, number_of}

-- the bytes before the first of a byte, or all
abbrev pub before_byte : ℕ → List ℕ → List ℕ
before_byte byte bytes = option_map_or (λ n. take n bytes) (position (λ b. b == byte) bytes) bytes

-- the bytes after the first of a byte, if there is one
abbrev pub after_byte : ℕ → List ℕ → Option (List ℕ)
after_byte byte bytes = option_map (λ n. drop (n + 1) bytes) (position (λ b. b == byte) bytes)

-- ---- the text of a value: RFC 3986, section 2.1

-- whether bytes begin with two hexadecimal digits
abbrev pub begins_with_digits : List ℕ → Bool
begins_with_digits bytes = nat_lt 1 (length bytes) && (is_ascii_hexdigit (slice_index bytes 0) && is_ascii_hexdigit (slice_index bytes 1))

-- whether each `%` is followed by two hexadecimal digits
abbrev pub are_escapes : List ℕ → Bool
are_escapes [] = true
are_escapes (b ∷ bytes) = (not (b == 37) || begins_with_digits bytes) && are_escapes bytes

-- the text of bytes whose escapes are read, if it is UTF-8
abbrev pub unescaped : List ℕ → Option (List ℕ)
unescaped value = found_if (is_utf8 (percent_decode value)) (percent_decode value)

-- the text that a value stands for, if each `%` begins an escape
abbrev pub decoded : List ℕ → Option (List ℕ)
decoded value = if are_escapes value then unescaped value else None

-- the name of a group without its case, as groups compare; empty for the empty name, which no group has
abbrev pub folded_text : List ℕ → List ℕ
folded_text name = option_map_or name_bytes (group_of [] name) []

-- ---- forms

abbrev pub at_most : ℕ → ℕ → Option ℕ
at_most most n = found_if (nat_le n most) n

-- a number from 0 to `most`, without leading zeros
abbrev pub small_number : ℕ → List ℕ → Option ℕ
small_number most text = if bytes_eq text (codes "0") then Some 0 else option_and_then (at_most most) (number_of text)

-- a number of rows, from 1 to 100
abbrev pub limit_of : List ℕ → Option ℕ
limit_of text = option_and_then (at_most 100) (number_of text)

abbrev pub is_status : List ℕ → Bool
is_status text = bytes_eq text (codes "pending") || (bytes_eq text (codes "queued") || (bytes_eq text (codes "in_progress") || bytes_eq text (codes "completed")))

abbrev pub is_conclusion : List ℕ → Bool
is_conclusion text = bytes_eq text (codes "success") || (bytes_eq text (codes "failure") || bytes_eq text (codes "cancelled"))
