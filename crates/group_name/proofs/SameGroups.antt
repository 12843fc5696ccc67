-- The test for equal groups decides whether they are the same.
use Rattle.std.proofs.Common.{◌≡◌, Bool, true, false, refl, ap, ap₂, sym, ◌∙◌, true≢false}
use Rattle.std.specs.Prelude.{IsTrue}
use Rattle.std.specs.Str.{bytes_eq}
use Rattle.std.proofs.lemmas.Bool.{and_from, and_parts}
use Rattle.std.proofs.lemmas.Slice.Eq.{bytes_eq-Decides}
use Rattle.group_name.specs.Group.{Group, same_group}

pub same_is_one : (g h : Group) → same_group g h ≡ true → g ≡ h
same_is_one g h is =
    let both = and_parts (bytes_eq g.repository h.repository) (bytes_eq g.folded h.folded) is in
    ap₂ (λ r f. record { repository = r; folded = f }) ((bytes_eq-Decides g.repository h.repository).0 both.0)
    ((bytes_eq-Decides g.folded h.folded).0 both.1)

pub own_group : (g : Group) → same_group g g ≡ true
own_group g = and_from _ _ ((bytes_eq-Decides g.repository g.repository).1 refl) ((bytes_eq-Decides g.folded g.folded).1 refl)

-- a test that is true exactly of the same groups is that test
pub tells_same : (test : Bool) (g h : Group) → (IsTrue test → g ≡ h) → (g ≡ h → IsTrue test) → test ≡ same_group g h
tells_same true g h is has = sym (ap (λ k. same_group g k) (sym (is refl)) ∙ own_group g)
tells_same false g h is has = by (same_group g h) refl
  where
    by : (b : Bool) → same_group g h ≡ b → false ≡ same_group g h
    by true same = absurd (true≢false (sym (has (same_is_one g h same))))
    by false same = sym same
