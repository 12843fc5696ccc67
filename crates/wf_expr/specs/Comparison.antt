-- Comparing texts with or without ASCII case. RFC 4790, section 9.2.1 (i;ascii-casemap).
use Rattle.std.specs.Prelude.{◌≡◌, ◌↔◌, ℕ, List, ◌++◌, Option, map}
use Rattle.std.specs.Char.{to_ascii_lowercase}
use Rattle.std.specs.Option.{MatchOption}
use Rattle.wf_expr.specs.declared.case.Case.{Case}
use Rattle.wf_expr.specs.declared.case.Case.TheVariants.{Sensitive, Insensitive}

-- the text with ASCII capital letters in lower case
abbrev pub lowered : List ℕ → List ℕ
lowered = map to_ascii_lowercase

-- the form of a text in which it is compared
abbrev pub folded : Case → List ℕ → List ℕ
folded Sensitive text = text
folded Insensitive text = lowered text

-- the rest of a text after a prefix; None if the text does not begin with the prefix
abbrev pub IsRestAfter : Case → List ℕ → List ℕ → Option (List ℕ) → Type 0
IsRestAfter case prefix text rest =
    (more : List ℕ) → (folded case (prefix ++ more) ≡ folded case text)
    ↔ MatchOption rest ⊥ (λ r. folded case more ≡ folded case r)
