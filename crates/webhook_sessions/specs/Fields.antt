-- What is read from the fields of a head, a list of names and values. Names are compared without ASCII case: RFC 9110, section 5.1.
use Rattle.std.specs.Prelude.{◌≡◌, ℕ, List, [], ◌∷◌, Bool, codes}
use Rattle.http1.specs.Fields.{Header, elements_named, has_option}
use Rattle.webhook_sessions.specs.declared.occurrence.Occurrence.{Occurrence}
use Rattle.webhook_sessions.specs.declared.occurrence.Occurrence.TheVariants.{Missing, Once, Repeated}

-- there is no value, exactly this one, or more than one
abbrev pub OccursAs : List (List ℕ) → Occurrence → Type 0
OccursAs values Missing = values ≡ []
OccursAs values (Once value) = values ≡ value.now ∷ []
OccursAs values Repeated = (first : List ℕ) × (second : List ℕ) × (others : List (List ℕ)) × (values ≡ first ∷ second ∷ others)

-- one of the `Connection` fields lists `close`, in any case, separated by commas: RFC 9110, section 7.6.1
abbrev pub lists_close : List Header → Bool
lists_close fields = has_option (codes "close") (elements_named (codes "connection") fields)
