-- A pattern and its object agree on every original.
use Rattle.std.proofs.Common.{◌≡◌, ℕ, zero, suc, Bool, true, false, ◌&&◌, ◌||◌, not, cond, List, [], ◌∷◌, map, Option, Some, None, refl}
use Rattle.std.proofs.Common.{sym, ap, ◌∙◌, arith}
use Rattle.std.specs.Prelude.{is_some, is_none}
use Rattle.std.specs.Cmp.Lexicographic.{texts_ties}
use Rattle.std.specs.Str.{bytes_eq}
use Rattle.std.specs.List.{filter, list_any, list_all, range_with_len, cons_option}
use Rattle.std.specs.Option.{option_map}
use Rattle.std.specs.Ordering.{is_eq}
use Rattle.wf_value.specs.ScalarValue.{NamedValues, MatrixLists}
use Rattle.matrix_expand.specs.Combinations.{Combination, value_at, has_pair, is_value, removes, agrees, kept, new_combinations, originals}
use Rattle.matrix_expand.specs.Combinations.{choice_count}
use Rattle.matrix_expand.specs.inner.Numbered.{chosen, axes_of, axes_where, numbered_axes, original_at, original_count, choice_of, wanted_of}
use Rattle.matrix_expand.specs.inner.Numbered.{has_other, pattern_of, wanted_holds, pattern_agrees, pattern_removes, kept_from, kept_numbers}
use Rattle.matrix_expand.specs.inner.Numbered.{new_objects, kept_of, added_of}
use Rattle.matrix_expand.specs.inner.Values.{AxisValue, ChoiceValue}
use Rattle.wf_value.proofs.Rising.{name_cmp}
use Rattle.matrix_expand.proofs.Originals.{choices_are_numbered, choices_none}

value_at-original : (axes : List AxisValue) (number : ℕ) (name : List ℕ)
    → value_at (original_at axes number) name ≡ option_map (λ c. chosen c number) (choice_of axes name)
value_at-original [] number name = refl
value_at-original (a ∷ axes) number name =
    elim (is_eq (name_cmp name a.0)) as
    (λ b. cond b (Some (chosen a.1 number)) (value_at (original_at axes number) name) ≡ option_map (λ c. chosen c number)
    (cond b (Some a.1) (choice_of axes name))) [
      | true ↦ refl
      | false ↦ value_at-original axes number name
    ]

is_some-choice : (vs : List NamedValues) (name : List ℕ) → is_some (choice_of (axes_of vs) name) ≡ list_any (λ v. bytes_eq name v.0) vs
is_some-choice [] name = refl
is_some-choice (v ∷ vs) name =
    elim (is_eq (name_cmp name v.0)) as
    (λ b. is_some (cond b (Some (v.1, choice_count vs)) (choice_of (axes_of vs) name)) ≡ (b || list_any (λ v. bytes_eq name v.0) vs)) [
      | true ↦ refl
      | false ↦ is_some-choice vs name
    ]
    ∙ ap (λ b. b || list_any (λ v. bytes_eq name v.0) vs) (sym (texts_ties name v.0))

later : (a b c : Bool) → (a && (not b && c)) ≡ (not b && (a && c))
later true b c = refl
later false true c = refl
later false false c = refl

module _ (axes : List AxisValue) (number : ℕ) where
  pub removes_numbered : (object : Combination) → removes object (original_at axes number) ≡ pattern_removes number (pattern_of axes object)
  removes_numbered [] = refl
  removes_numbered (p ∷ ps) =
      ap (λ o. is_value o p.1 && removes ps (original_at axes number)) (value_at-original axes number p.0)
      ∙ ap (λ b. is_value (option_map (λ c. chosen c number) (choice_of axes p.0)) p.1 && b) (removes_numbered ps)
      ∙ go (choice_of axes p.0)
    where
      go : (found : Option ChoiceValue)
          → (is_value (option_map (λ c. chosen c number) found) p.1 && pattern_removes number (pattern_of axes ps)) ≡
          (not (is_none found || has_other axes ps) && list_all (wanted_holds number)
          (cons_option (option_map (λ choice. (choice, p.1)) found) (wanted_of axes ps)))
      go None = refl
      go (Some c) = later (wanted_holds number (c, p.1)) (has_other axes ps) (list_all (wanted_holds number) (wanted_of axes ps))

module _ (m : MatrixLists) (number : ℕ) where
  abbrev axes : List AxisValue
  axes = axes_of m.variables

  pub agrees_numbered : (object : Combination) → agrees m (original_at axes number) object ≡ pattern_agrees number (pattern_of axes object)
  agrees_numbered [] = refl
  agrees_numbered (p ∷ ps) =
      ap (λ b. (not b || has_pair (original_at axes number) p) && agrees m (original_at axes number) ps)
      (sym (is_some-choice m.variables p.0))
      ∙ ap (λ o. (not (is_some (choice_of axes p.0)) || is_value o p.1) && agrees m (original_at axes number) ps)
      (value_at-original axes number p.0)
      ∙ ap (λ b. (not (is_some (choice_of axes p.0)) || is_value (option_map (λ c. chosen c number) (choice_of axes p.0)) p.1) && b)
      (agrees_numbered ps)
      ∙ go (choice_of axes p.0)
    where
      go : (found : Option ChoiceValue)
          → ((not (is_some found) || is_value (option_map (λ c. chosen c number) found) p.1) && pattern_agrees number (pattern_of axes ps))
          ≡ list_all (wanted_holds number) (cons_option (option_map (λ choice. (choice, p.1)) found) (wanted_of axes ps))
      go None = refl
      go (Some c) = refl

list_any-map : {X Y : Type 0} (f : X → Y) (p : Y → Bool) (q : X → Bool) → ((x : X) → p (f x) ≡ q x) → (xs : List X)
    → list_any p (map f xs) ≡ list_any q xs
list_any-map f p q h [] = refl
list_any-map f p q h (x ∷ xs) = ap (λ b. b || list_any p (map f xs)) (h x) ∙ ap (λ b. q x || b) (list_any-map f p q h xs)

filter-map : {X Y : Type 0} (f : X → Y) (p : Y → Bool) (q : X → Bool) → ((x : X) → p (f x) ≡ q x) → (xs : List X)
    → filter p (map f xs) ≡ map f (filter q xs)
filter-map f p q h [] = refl
filter-map f p q h (x ∷ xs) =
    ap (λ b. cond b (f x ∷ filter p (map f xs)) (filter p (map f xs))) (h x)
    ∙ elim (q x) as (λ b. cond b (f x ∷ filter p (map f xs)) (filter p (map f xs)) ≡ map f (cond b (x ∷ filter q xs) (filter q xs))) [
      | true ↦ ap (λ ys. f x ∷ ys) (filter-map f p q h xs)
      | false ↦ filter-map f p q h xs
    ]

-- the kept originals are those with the kept numbers
kept_where : (m : MatrixLists) (n : ℕ) → original_count m.variables ≡ n
    → kept m ≡ map (original_at (axes_where n m.variables)) (kept_numbers (map (pattern_of (axes_where n m.variables)) m.exclude) n)
kept_where m zero e = ap (filter (λ original. not (list_any (λ object. removes object original) m.exclude))) (none m.variables e)
  where
    none : (vs : List NamedValues) → original_count vs ≡ 0 → originals vs ≡ []
    none [] h = refl
    none (v ∷ vs) h = choices_none (v ∷ vs) h
kept_where m (suc n) e =
    let axes = axes_of m.variables in
    ap (filter (λ original. not (list_any (λ object. removes object original) m.exclude))) (some m.variables e)
    ∙ filter-map (original_at axes) (λ original. not (list_any (λ object. removes object original) m.exclude))
    (λ number. not (list_any (pattern_removes number) (map (pattern_of axes) m.exclude)))
    (λ number. ap not
    (sym (list_any-map (pattern_of axes) (pattern_removes number) (λ object. removes object (original_at axes number))
    (λ object. sym (removes_numbered axes number object)) m.exclude)))
    (range_with_len 0 (suc n))
  where
    some : (vs : List NamedValues) → original_count vs ≡ suc n → originals vs ≡ map (original_at (axes_of vs)) (range_with_len 0 (suc n))
    some [] h = absurd (omega arith)
    some (v ∷ vs) h = choices_are_numbered (v ∷ vs) (omega arith) ∙ ap (λ k. map (original_at (axes_of (v ∷ vs))) (range_with_len 0 k)) h

pub kept_is : (m : MatrixLists) → kept m ≡ map (original_at (numbered_axes m.variables)) (kept_of m)
kept_is m = kept_where m (original_count m.variables) refl

-- the new combinations are the objects that agree with no kept number
new_where : (m : MatrixLists) (n : ℕ) → (numbers : List ℕ) → (n ≡ 0 → numbers ≡ []) → (objects : List Combination)
    → filter (λ object. not (list_any (λ original. agrees m original object) (map (original_at (axes_where n m.variables)) numbers)))
    objects ≡ new_objects (map (pattern_of (axes_where n m.variables)) objects) numbers
new_where m n numbers none [] = refl
new_where m n numbers none (object ∷ objects) =
    let rest = new_where m n numbers none objects in
    let kept_ones = map (original_at (axes_where n m.variables)) numbers in
    let p = pattern_of (axes_where n m.variables) object in
    ap (λ b. cond (not b) (object ∷ filter (λ object. not (list_any (λ original. agrees m original object) kept_ones)) objects)
    (filter (λ object. not (list_any (λ original. agrees m original object) kept_ones)) objects)) (same n none)
    ∙ elim (list_any (λ number. pattern_agrees number p) numbers) as
    (λ b. cond (not b) (object ∷ filter (λ object. not (list_any (λ original. agrees m original object) kept_ones)) objects)
    (filter (λ object. not (list_any (λ original. agrees m original object) kept_ones)) objects) ≡ cond b
    (new_objects (map (pattern_of (axes_where n m.variables)) objects) numbers)
    (object ∷ new_objects (map (pattern_of (axes_where n m.variables)) objects) numbers)) [
      | true ↦ rest
      | false ↦ ap (λ os. object ∷ os) rest
    ]
  where
    same : (n : ℕ) → (n ≡ 0 → numbers ≡ [])
        → list_any (λ original. agrees m original object) (map (original_at (axes_where n m.variables)) numbers) ≡ list_any
        (λ number. pattern_agrees number (pattern_of (axes_where n m.variables) object)) numbers
    same zero h = ap (λ ns. list_any (λ original. agrees m original object) (map (original_at []) ns)) (h refl)
        ∙ ap (λ ns. list_any (λ number. pattern_agrees number (pattern_of [] object)) ns) (sym (h refl))
    same (suc k) h = list_any-map (original_at (axes_of m.variables)) (λ original. agrees m original object)
        (λ number. pattern_agrees number (pattern_of (axes_of m.variables) object)) (λ number. agrees_numbered m number object) numbers

pub new_is : (m : MatrixLists) → new_combinations m ≡ added_of m
new_is m =
    ap (λ ks. filter (λ object. not (list_any (λ original. agrees m original object) ks)) m.include) (kept_is m)
    ∙ new_where m (original_count m.variables) (kept_of m)
    (λ e. ap (λ n. kept_from (map (pattern_of (numbered_axes m.variables)) m.exclude) 0 n) e) m.include
