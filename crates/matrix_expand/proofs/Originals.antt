-- The originals in the order of their numbers are the choices in order.
use Rattle.std.proofs.Common.{◌≡◌, ℕ, zero, suc, ◌+◌, ◌*◌, ◌/◌, ◌%◌, ◌<◌, List, [], ◌∷◌, ◌++◌, map, length, get_or, refl, sym, ap, ◌∙◌, ◌⊎◌}
use Rattle.std.proofs.Common.{inl, inr, arith, length-append}
use Rattle.std.specs.List.{flat_map, range_with_len}
use Rattle.std.proofs.lemmas.List.{map-append, append_assoc, nil_from_length}
use Rattle.std.proofs.lemmas.Nat.{div-mul-add}
use Rattle.std.proofs.lemmas.Simd.{map-map}
use Rattle.std.proofs.Math.Nat.{mul-add-div_right, mul-add-mod_self_right, mod-eq_of_lt}
use Rattle.wf_value.specs.ScalarValue.{NamedValues}
use Rattle.wf_value.specs.declared.scalar.Scalar.{Scalar}
use Rattle.wf_value.specs.declared.scalar.Scalar.TheVariants.{Null}
use Rattle.matrix_expand.specs.Combinations.{choices, choice_count}
use Rattle.matrix_expand.specs.inner.Numbered.{chosen, axes_of, original_at}

range-append : (a n m : ℕ) → range_with_len a (n + m) ≡ range_with_len a n ++ range_with_len (a + n) m
range-append a zero m =
    let e : 0 + m ≡ m = omega arith in
    let f : a + 0 ≡ a = omega arith in
    ap (range_with_len a) e ∙ ap (λ b. range_with_len b m) (sym f)
range-append a (suc n) m =
    let e : suc n + m ≡ suc (n + m) = omega arith in
    let f : a + 1 + n ≡ a + suc n = omega arith in
    ap (range_with_len a) e ∙ ap (λ ns. a ∷ ns) (range-append (a + 1) n m ∙ ap (λ b. range_with_len (a + 1) n ++ range_with_len b m) f)

-- functions that agree on two ranges
map_ranges : {X : Type 0} (f g : ℕ → X) (a b n : ℕ) → ((r : ℕ) → r < n → f (a + r) ≡ g (b + r))
    → map f (range_with_len a n) ≡ map g (range_with_len b n)
map_ranges f g a b zero h = refl
map_ranges f g a b (suc n) h =
    let e : a + 0 ≡ a = omega arith in
    let k : b + 0 ≡ b = omega arith in
    ap (λ x. x ∷ map f (range_with_len (a + 1) n)) (ap f (sym e) ∙ h 0 (omega arith) ∙ ap g k)
    ∙ ap (λ xs. g b ∷ xs) (map_ranges f g (a + 1) (b + 1) n (λ r l.
    let p : a + 1 + r ≡ a + suc r = omega arith in
    let q : b + suc r ≡ b + 1 + r = omega arith in
    ap f p ∙ h (suc r) (omega arith) ∙ ap g q))

positive_right : (a b : ℕ) → 0 < a * b → 0 < b
positive_right a zero h = absurd (omega arith)
positive_right a (suc b) h = omega arith

regroup : (k l c r : ℕ) → k * (l * c) + r ≡ (k * l) * c + r
regroup k l c r = omega arith

-- the choices repeat with a period equal to their number
periodic : (vs : List NamedValues) (k r : ℕ) → 0 < choice_count vs
    → original_at (axes_of vs) (k * choice_count vs + r) ≡ original_at (axes_of vs) r
periodic [] k r h = refl
periodic (v ∷ vs) k r h =
    let l = length v.1 in
    let c = choice_count vs in
    let some : 0 < c = positive_right l c h in
    let number : k * (l * c) + r ≡ (k * l) * c + r = regroup k l c r in
    let index : ((k * l) * c + r) / c % l ≡ r / c % l = ap (λ n. n % l) (mul-add-div_right some (k * l) r)
    ∙ mul-add-mod_self_right k l (r / c) in
    ap (original_at (axes_of (v ∷ vs))) number
    ∙ ap (λ i. (v.0, get_or v.1 i Null) ∷ original_at (axes_of vs) ((k * l) * c + r)) index
    ∙ ap (λ o. (v.0, chosen (v.1, c) r) ∷ o) (periodic vs (k * l) r some)

-- the originals that begin with the value at an index
with_value : (v : NamedValues) (vs : List NamedValues) (j : ℕ) → j < length v.1 → 0 < choice_count vs
    → choices vs ≡ map (original_at (axes_of vs)) (range_with_len 0 (choice_count vs))
    → map (λ c. (v.0, get_or v.1 j Null) ∷ c) (choices vs) ≡ map (original_at (axes_of (v ∷ vs)))
    (range_with_len (j * choice_count vs) (choice_count vs))
with_value v vs j l some all =
    ap (map (λ c. (v.0, get_or v.1 j Null) ∷ c)) all
    ∙ map-map (λ c. (v.0, get_or v.1 j Null) ∷ c) (original_at (axes_of vs)) (range_with_len 0 (choice_count vs))
    ∙ map_ranges (λ n. (v.0, get_or v.1 j Null) ∷ original_at (axes_of vs) n) (original_at (axes_of (v ∷ vs))) 0 (j * choice_count vs)
    (choice_count vs) (λ r below.
    let c = choice_count vs in
    let start : 0 + r ≡ r = omega arith in
    let index : (j * c + r) / c % length v.1 ≡ j = ap (λ n. n % length v.1) (div-mul-add j c r below) ∙ mod-eq_of_lt l in
    ap (λ n. (v.0, get_or v.1 j Null) ∷ original_at (axes_of vs) n) start
    ∙ ap (λ o. (v.0, get_or v.1 j Null) ∷ o) (sym (periodic vs j r some))
    ∙ ap (λ i. (v.0, get_or v.1 i Null) ∷ original_at (axes_of vs) (j * c + r)) (sym index))

-- the element after a prefix
get_or-suffix : (front rest : List Scalar) (x : Scalar) → get_or (front ++ x ∷ rest) (length front) Null ≡ x
get_or-suffix [] rest x = refl
get_or-suffix (y ∷ front) rest x = get_or-suffix front rest x

-- the originals that begin with one of the last values
from_values : (name : List ℕ) (vs : List NamedValues) (front rest : List Scalar) → (0 < choice_count vs)
    → choices vs ≡ map (original_at (axes_of vs)) (range_with_len 0 (choice_count vs))
    → flat_map (λ value. map (λ c. (name, value) ∷ c) (choices vs)) rest ≡ map (original_at (axes_of ((name, front ++ rest) ∷ vs)))
    (range_with_len (length front * choice_count vs) (length rest * choice_count vs))
from_values name vs front [] some all =
    let e : 0 * choice_count vs ≡ 0 = omega arith in
    ap (λ n. map (original_at (axes_of ((name, front ++ []) ∷ vs))) (range_with_len (length front * choice_count vs) n)) (sym e)
from_values name vs front (x ∷ rest) some all =
    let c = choice_count vs in
    let j = length front in
    let at = original_at (axes_of ((name, front ++ x ∷ rest) ∷ vs)) in
    let long : length (front ++ x ∷ rest) ≡ j + suc (length rest) = length-append front (x ∷ rest) in
    let here : map (λ o. (name, x) ∷ o) (choices vs) ≡ map at (range_with_len (j * c) c) =
    ap (λ v. map (λ o. (name, v) ∷ o) (choices vs)) (sym (get_or-suffix front rest x))
    ∙ with_value (name, front ++ x ∷ rest) vs j (omega arith) some all in
    let moved : (front ++ x ∷ []) ++ rest ≡ front ++ x ∷ rest = append_assoc front (x ∷ []) rest in
    let next : length (front ++ x ∷ []) ≡ j + 1 = length-append front (x ∷ []) in
    let start : (j + 1) * c ≡ j * c + c = omega arith in
    let both : c + length rest * c ≡ suc (length rest) * c = omega arith in
    let others : flat_map (λ value. map (λ o. (name, value) ∷ o) (choices vs)) rest ≡ map at (range_with_len (j * c + c) (length rest * c))
    =
    from_values name vs (front ++ x ∷ []) rest some all
    ∙ ap (λ xs. map (original_at (axes_of ((name, xs) ∷ vs))) (range_with_len (length (front ++ x ∷ []) * c) (length rest * c))) moved
    ∙ ap (λ n. map at (range_with_len n (length rest * c))) (ap (λ n. n * c) next ∙ start) in
    ap (λ os. os ++ flat_map (λ value. map (λ o. (name, value) ∷ o) (choices vs)) rest) here
    ∙ ap (λ os. map at (range_with_len (j * c) c) ++ os) others
    ∙ sym (map-append at (range_with_len (j * c) c) (range_with_len (j * c + c) (length rest * c)))
    ∙ ap (map at) (sym (range-append (j * c) c (length rest * c)) ∙ ap (range_with_len (j * c)) both)

pub choices_are_numbered : (vs : List NamedValues) → 0 < choice_count vs
    → choices vs ≡ map (original_at (axes_of vs)) (range_with_len 0 (choice_count vs))
choices_are_numbered [] h = refl
choices_are_numbered (v ∷ vs) h =
    let some = positive_right (length v.1) (choice_count vs) h in
    let none : 0 * choice_count vs ≡ 0 = omega arith in
    from_values v.0 vs [] v.1 some (choices_are_numbered vs some)
    ∙ ap (λ n. map (original_at (axes_of (v ∷ vs))) (range_with_len n (length v.1 * choice_count vs))) none

-- a variable without values leaves no choice
none_each : {X Y : Type 0} (xs : List X) → flat_map {A = Y} (λ (x : X). []) xs ≡ []
none_each [] = refl
none_each (x ∷ xs) = none_each xs

zero_product : (a b : ℕ) → a * b ≡ 0 → (a ≡ 0) ⊎ (b ≡ 0)
zero_product zero b h = inl refl
zero_product (suc a) zero h = inr refl
zero_product (suc a) (suc b) h = absurd (omega arith)

pub choices_none : (vs : List NamedValues) → choice_count vs ≡ 0 → choices vs ≡ []
choices_none [] h = absurd (omega arith)
choices_none (v ∷ vs) h = elim (zero_product (length v.1) (choice_count vs) h) [
  | inl e ↦ ap (flat_map (λ value. map (λ c. (v.0, value) ∷ c) (choices vs))) (nil_from_length v.1 e)
  | inr e ↦ ap (λ cs. flat_map (λ value. map (λ c. (v.0, value) ∷ c) cs) v.1) (choices_none vs e) ∙ none_each v.1
]
