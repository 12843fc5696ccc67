-- Paths and their names.
use Rattle.std.proofs.Common.{◌≡◌, ◌↔◌, ℕ, ◌<◌, ◌≤◌, Bool, true, IsTrue, List, [], ◌∷◌, length, get_or, arith, refl, sym, ap, ◌∙◌}
use Rattle.std.specs.Str.{bytes_eq}
use Rattle.std.proofs.lemmas.Slice.Eq.{bytes_eq-Decides}

-- a list of one element is that element
pub single-iff : (r : Bool) (xs : List (List ℕ)) (x word : List ℕ) → 1 ≤ length xs → length xs < 2 → x ≡ get_or xs 0 x
    → (IsTrue r ↔ (x ≡ word)) → IsTrue r ↔ (xs ≡ word ∷ [])
single-iff r [] x word low high at h = absurd (omega arith)
single-iff r (y ∷ []) x word low high at h = (λ t. ap (λ z. z ∷ []) (sym at ∙ h.0 t), λ e. h.1 (cc))
single-iff r (y ∷ z ∷ zs) x word low high at h = absurd (omega arith)

pub same_name-self : (n : List ℕ) → bytes_eq n n ≡ true
same_name-self n = (bytes_eq-Decides n n).1 refl
