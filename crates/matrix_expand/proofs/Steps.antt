-- One iteration of the loops over variables, members and numbers.
use Rattle.std.proofs.Common.{◌≡◌, ℕ, zero, suc, ◌+◌, ◌-◌, ◌*◌, ◌/◌, ◌<◌, ◌≤◌, min, true, not, cond, List, [], ◌∷◌, ◌++◌}
use Rattle.std.proofs.Common.{length, get_or, drop, Some, None, refl, sym, ap, ◌∙◌, inl, inr, arith}
use Rattle.std.specs.List.{list_any, slice_get}
use Rattle.std.specs.Option.{option_map}
use Rattle.std.proofs.lemmas.Bool.{cases_lt}
use Rattle.std.proofs.lemmas.List.{at_drop_more, append_assoc}
use Rattle.std.proofs.lemmas.Nat.{div-mul-add}
use Rattle.std.proofs.lemmas.Option.{slice_get_read}
use Rattle.std.proofs.Math.Nat.{mul_comm, mul-le-mul_right}
use Rattle.wf_value.specs.ScalarValue.{NamedValues}
use Rattle.wf_value.specs.declared.scalar.Scalar.{Scalar}
use Rattle.matrix_expand.specs.Combinations.{Combination, choice_count}
use Rattle.matrix_expand.specs.inner.Numbered.{choice_of, wanted_of, has_other, kept_from, pattern_removes, pattern_agrees, new_objects}
use Rattle.matrix_expand.specs.inner.Values.{AxisValue, PatternValue}

pub factors : (s a b : ℕ) → s ≡ a * b → 0 < s → (0 < a) × ((0 < b) × (s / a ≡ b))
factors s zero b e h = absurd (omega arith)
factors s (suc a) zero e h = absurd (omega arith)
factors s (suc a) (suc b) e h = (
  omega arith,
  (omega arith, ap (λ n. n / suc a) (e ∙ mul_comm (suc a) (suc b) ∙ omega arith) ∙ div-mul-add (suc b) (suc a) 0 (omega arith)),
)

-- the remaining number of choices, after one more variable
pub choices_more : (vs : List NamedValues) (i s : ℕ) (v : NamedValues) → i < length vs → v ≡ get_or vs i v → s ≡ choice_count (drop i vs)
    → 0 < s → (0 < length v.1) × ((0 < choice_count (drop (i + 1) vs)) × (s / length v.1 ≡ choice_count (drop (i + 1) vs)))
choices_more vs i s v l is e h =
    factors s (length v.1) _ (e ∙ at_drop_more choice_count vs i v l ∙ ap (λ w. length w.1 * choice_count (drop (i + 1) vs)) (sym is)) h

-- a product of capped numbers
pub min_mul : (most a b : ℕ) → min most (min most a * b) ≡ min most (a * b)
min_mul most a zero = omega arith
min_mul most a (suc b) = elim (cases_lt a most) [
  | inl below ↦ let e : min most a ≡ a = omega arith in ap (λ n. min most (n * suc b)) e
  | inr above ↦
      let e : min most a ≡ most = omega arith in
      let big : most * suc b ≤ a * suc b = mul-le-mul_right (suc b) above in
      let p : most ≤ most * suc b = omega arith in
      ap (λ n. min most (n * suc b)) e ∙ omega arith
]

pub capped_more : (most c l r : ℕ) → min most (min (c * min l most) most * r) ≡ min most (c * (l * r))
capped_more most c l r =
    let turned : min (c * min l most) most ≡ min most (c * min l most) = omega arith in
    let inner : min l most ≡ min most l = omega arith in
    ap (λ n. min most (n * r)) turned ∙ min_mul most (c * min l most) r
    ∙ ap (λ n. min most (c * n * r)) inner ∙ ap (min most) (regroup c (min most l) r) ∙ min_mul most l (c * r)
    ∙ ap (min most) (regroup' c l r)
  where
    regroup : (c m r : ℕ) → c * m * r ≡ m * (c * r)
    regroup c m r = omega arith

    regroup' : (c l r : ℕ) → l * (c * r) ≡ c * (l * r)
    regroup' c l r = omega arith

module _ (axes : List AxisValue) (items : Combination) (i : ℕ) (item : List ℕ × Scalar) (l : i < length items)
    (is : item ≡ get_or items i item) where
  wanted_at : wanted_of axes (drop i items) ≡ wanted_of axes (item ∷ drop (i + 1) items)
  wanted_at = at_drop_more (wanted_of axes) items i item l ∙ ap (λ p. wanted_of axes (p ∷ drop (i + 1) items)) (sym is)

  others_at : has_other axes (drop i items) ≡ has_other axes (item ∷ drop (i + 1) items)
  others_at = at_drop_more (has_other axes) items i item l ∙ ap (λ p. has_other axes (p ∷ drop (i + 1) items)) (sym is)

  -- the name is a variable
  module _ (index : ℕ) (axis : AxisValue) (m : index < length axes) (at : axis ≡ get_or axes index axis)
      (found : option_map (λ a. a.1) (slice_get axes index) ≡ choice_of axes item.0) where
    its_choice : choice_of axes item.0 ≡ Some axis.1
    its_choice = sym found ∙ ap (option_map (λ a. a.1)) (slice_get_read axes (length axes) index axis refl m at)

    pub wanted_more : wanted_of axes (drop i items) ≡ (axis.1, item.1) ∷ wanted_of axes (drop (i + 1) items)
    wanted_more = wanted_at ∙ rw its_choice refl

    pub others_more : has_other axes (drop i items) ≡ has_other axes (drop (i + 1) items)
    others_more = others_at ∙ rw its_choice refl

  -- the name is not a variable
  pub wanted_skips : None ≡ choice_of axes item.0 → wanted_of axes (drop i items) ≡ wanted_of axes (drop (i + 1) items)
  wanted_skips none = wanted_at ∙ rw (← none) refl

  pub others_found : None ≡ choice_of axes item.0 → has_other axes (drop i items) ≡ true
  others_found none = others_at ∙ rw (← none) refl

-- the remaining numbers, after one more
pub kept_more : (excludes : List PatternValue) (number count : ℕ) → number < count
    → kept_from excludes number (count - number) ≡ cond (not (list_any (pattern_removes number) excludes))
    (number ∷ kept_from excludes (number + 1) (count - (number + 1))) (kept_from excludes (number + 1) (count - (number + 1)))
kept_more excludes number count l =
    let e : count - number ≡ suc (count - (number + 1)) = omega arith in
    ap (kept_from excludes number) e

-- one more item done, and one fewer remaining
pub pushed : {X : Type 0} (old now before rest total : List X) (x : X) → now ≡ old ++ x ∷ [] → before ≡ x ∷ rest → old ++ before ≡ total
    → now ++ rest ≡ total
pushed old now before rest total x p q r = ap (λ xs. xs ++ rest) p ∙ append_assoc old (x ∷ []) rest ∙ ap (λ ys. old ++ ys) (sym q) ∙ r

pub new_more : (ps : List PatternValue) (kept : List ℕ) (i : ℕ) (p : PatternValue) → i < length ps → p ≡ get_or ps i p
    → new_objects (drop i ps) kept ≡ cond (list_any (λ number. pattern_agrees number p) kept) (new_objects (drop (i + 1) ps) kept)
    (p.0 ∷ new_objects (drop (i + 1) ps) kept)
new_more ps kept i p l is = at_drop_more (λ qs. new_objects qs kept) ps i p l ∙ ap (λ q. new_objects (q ∷ drop (i + 1) ps) kept) (sym is)
