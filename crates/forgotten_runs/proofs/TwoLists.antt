-- Deliveries in two lists, one after the other: no two are the same exactly if that is so in each list, and none is in both.
use Rattle.std.specs.Prelude.{◌≡◌, ◌⊎◌, ℕ, zero, suc, ◌+◌, ◌<◌, List, [], ◌∷◌, ◌++◌, length, slice_get, Option, Some, None}
use Rattle.std.proofs.Common.{arith, ap, sym, ◌∙◌, inl, inr}
use Rattle.std.proofs.lemmas.Option.{slice_get_within}
use Rattle.table_model.specs.Sound.{DeliveriesDiffer}

-- ---- where an element is

in_first : {X : Type 0} (xs ys : List X) (k : ℕ) (x : X) → slice_get xs k ≡ Some x → slice_get (xs ++ ys) k ≡ Some x
in_first [] ys k x at = cc
in_first (z ∷ xs) ys zero x at = at
in_first (z ∷ xs) ys (suc k) x at = in_first xs ys k x at

in_second : {X : Type 0} (xs ys : List X) (k : ℕ) (x : X) → slice_get ys k ≡ Some x → slice_get (xs ++ ys) (length xs + k) ≡ Some x
in_second [] ys k x at = let same : 0 + k ≡ k = omega arith in ap (slice_get ys) same ∙ at
in_second (z ∷ xs) ys k x at =
    let next : length (z ∷ xs) + k ≡ suc (length xs + k) = omega arith in
    ap (slice_get (z ∷ xs ++ ys)) next ∙ in_second xs ys k x at

-- it is in the first list, or in the second
where_it_is : {X : Type 0} (xs ys : List X) (k : ℕ) (x : X) → slice_get (xs ++ ys) k ≡ Some x
    → (slice_get xs k ≡ Some x) ⊎ ((j : ℕ) × (k ≡ length xs + j) × (slice_get ys j ≡ Some x))
where_it_is [] ys k x at = inr (k, omega arith, at)
where_it_is (z ∷ xs) ys zero x at = inl at
where_it_is (z ∷ xs) ys (suc k) x at =
    elim (where_it_is xs ys k x at) [
      | inl h ↦ inl h
      | inr h ↦ inr (h.0, omega (arith, h.1), h.2)
    ]

-- ---- deliveries

abbrev pub NoneInBoth : List (List ℕ) → List (List ℕ) → Type 0
NoneInBoth first second = (i j : ℕ) (d : List ℕ) → slice_get first i ≡ Some d → slice_get second j ≡ Some d → ⊥

pub differ_together : (first second : List (List ℕ)) → DeliveriesDiffer first → DeliveriesDiffer second → NoneInBoth first second
    → DeliveriesDiffer (first ++ second)
differ_together first second one two none a b d at_a at_b =
    elim (where_it_is first second a d at_a) [
      | inl here ↦ elim (where_it_is first second b d at_b) [
        | inl there ↦ one a b d here there
        | inr there ↦ absurd (none a there.0 d here there.2)
      ]
      | inr here ↦ elim (where_it_is first second b d at_b) [
        | inl there ↦ absurd (none b here.0 d there here.2)
        | inr there ↦ let same = two here.0 there.0 d here.2 there.2 in omega (arith, here.1, there.1, same)
      ]
    ]

pub differ_first : (first second : List (List ℕ)) → DeliveriesDiffer (first ++ second) → DeliveriesDiffer first
differ_first first second differ a b d at_a at_b = differ a b d (in_first first second a d at_a) (in_first first second b d at_b)

pub differ_second : (first second : List (List ℕ)) → DeliveriesDiffer (first ++ second) → DeliveriesDiffer second
differ_second first second differ a b d at_a at_b =
    let same = differ (length first + a) (length first + b) d (in_second first second a d at_a) (in_second first second b d at_b) in
    omega (arith, same)

pub none_in_both : (first second : List (List ℕ)) → DeliveriesDiffer (first ++ second) → NoneInBoth first second
none_in_both first second differ i j d at_i at_j =
    let same = differ i (length first + j) d (in_first first second i d at_i) (in_second first second j d at_j) in
    let within = slice_get_within first i d at_i in
    absurd (omega (arith, same, within))
