-- The value under a name.
use Rattle.std.specs.Prelude.{◌≡◌, ℕ, List, [], ◌∷◌, find, Bool, true, false, Some, None, option_map, if◌then◌else◌, refl}
use Rattle.std.specs.List.{AllByRecursion}
use Rattle.std.specs.Str.{bytes_eq}
use Rattle.std.proofs.Common.{ap, sym, ◌∙◌}
use Rattle.std.proofs.lemmas.Slice.Eq.{bytes_eq-Decides}
use Rattle.table_model.specs.LegContext.{under}

not_first : {X : Type 0} (name a : List ℕ) (x : X) (rest : List (List ℕ × X)) (b : Bool) → bytes_eq a name ≡ b → (name ≡ a → ⊥)
    → under name ((a, x) ∷ rest) ≡ under name rest
not_first {X} name a x rest true is other = absurd (other (sym ((bytes_eq-Decides a name).0 is)))
not_first {X} name a x rest false is other =
    ap (λ c. option_map (λ p. p.1) (if c then Some (a, x) else find (λ p. bytes_eq p.0 name) rest)) is

-- a name that no pair has gives no value
pub nothing_under : {X : Type 0} (name : List ℕ) (pairs : List (List ℕ × X)) → AllByRecursion (λ p. name ≡ p.0 → ⊥) pairs
    → under name pairs ≡ None
nothing_under name [] others = refl
nothing_under name (p ∷ pairs) others =
    not_first name p.0 p.1 pairs (bytes_eq p.0 name) refl others.0 ∙ nothing_under name pairs others.1
