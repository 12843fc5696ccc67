-- The delivery id and the event name in the head of a posted event. GitHub Docs, "Webhook events and payloads", Delivery headers.
use Rattle.std.specs.Prelude.{ℕ, List, [], ◌∷◌, Bool, codes, Result, Ok, Err, if◌then◌else◌}
use Rattle.http1.specs.Fields.{Header, values_named}
use Rattle.definitions.specs.SmallText.{is_short, is_delivery_byte, is_event_byte}
use Rattle.webhook_sessions.specs.declared.fault.Fault.{Fault}
use Rattle.webhook_sessions.specs.declared.fault.Fault.TheVariants.{EventHeader}

-- the only value, if it is a small text of this form
abbrev pub one_of_form : (ℕ → Bool) → List (List ℕ) → Result (List ℕ) Fault
one_of_form kind [] = Err EventHeader
one_of_form kind (value ∷ []) = if is_short kind value then Ok value else Err EventHeader
one_of_form kind (value ∷ other ∷ others) = Err EventHeader

abbrev pub delivery_in : List Header → Result (List ℕ) Fault
delivery_in fields = one_of_form is_delivery_byte (values_named (codes "x-github-delivery") fields)

abbrev pub event_in : List Header → Result (List ℕ) Fault
event_in fields = one_of_form is_event_byte (values_named (codes "x-github-event") fields)

abbrev pub both : Result (List ℕ) Fault → Result (List ℕ) Fault → Result (List ℕ × List ℕ) Fault
both (Err fault) event = Err fault
both (Ok delivery) (Err fault) = Err fault
both (Ok delivery) (Ok event) = Ok (delivery, event)

-- the delivery id first
abbrev pub event_headers : List Header → Result (List ℕ × List ℕ) Fault
event_headers fields = both (delivery_in fields) (event_in fields)
