-- Lists with increasing names: the order of any two positions, and the result of comparing neighbours.
use Rattle.std.proofs.Common.{◌≡◌, ℕ, zero, suc, ◌+◌, ◌<◌, List, [], ◌∷◌, Bool, true, false, ◌&&◌, length, get_or, map, ⊎_elim, sym}
use Rattle.std.proofs.Common.{refl, subst, ap, ◌∙◌, arith}
use Rattle.std.specs.declared.cmp.Ordering.{Ordering}
use Rattle.std.specs.declared.cmp.Ordering.TheVariants.{Less, Equal, Greater}
use Rattle.std.specs.Cmp.Lexicographic.{slice_cmp, nat_list_cmp_total}
use Rattle.std.specs.List.{IsAllAdjacentAnswer}
use Rattle.std.specs.Ordering.{nat_cmp, is_lt, is_eq, ordering_reverse}
use Rattle.std.proofs.lemmas.Bool.{and_parts, and_from, and_right, cases_lt, cases_eq, false≢true}
use Rattle.std.proofs.lemmas.Cmp.{tied_itself}
use Rattle.definitions.specs.Rising.{rises_by}

abbrev pub name_cmp : List ℕ → List ℕ → Ordering
name_cmp = slice_cmp nat_cmp

pub Less-from_is_lt : (o : Ordering) → is_lt o ≡ true → o ≡ Less
Less-from_is_lt Less h = refl
Less-from_is_lt Equal h = absurd (false≢true h)
Less-from_is_lt Greater h = absurd (false≢true h)

pub Equal-from_is_eq : (o : Ordering) → is_eq o ≡ true → o ≡ Equal
Equal-from_is_eq Less h = absurd (false≢true h)
Equal-from_is_eq Equal h = refl
Equal-from_is_eq Greater h = absurd (false≢true h)

pub Equal-from_same : (x y : List ℕ) → x ≡ y → name_cmp x y ≡ Equal
Equal-from_same x y same = ap (name_cmp x) (sym same) ∙ tied_itself nat_list_cmp_total x

pub after_less : (x y : List ℕ) → name_cmp x y ≡ Less → name_cmp y x ≡ Greater
after_less x y h = nat_list_cmp_total.antisymm y x ∙ ap ordering_reverse h

-- the names of a mapped list
pub rises_over : {X Y : Type 0} (name : Y → List ℕ) (f : X → Y) (xs : List X) → rises_by name (map f xs) ≡ rises_by (λ x. name (f x)) xs
rises_over name f [] = refl
rises_over name f (x ∷ []) = refl
rises_over name f (x ∷ y ∷ ys) = ap (λ b. is_lt (name_cmp (name (f x)) (name (f y))) && b) (rises_over name f (y ∷ ys))

module _ {X : Type 0} (name : X → List ℕ) where
  -- ---- a list with increasing names

  pub rises_next : (x y : X) (ys : List X) → rises_by name (x ∷ y ∷ ys) ≡ true → name_cmp (name x) (name y) ≡ Less
  rises_next x y ys rises = Less-from_is_lt _ (and_parts (is_lt (name_cmp (name x) (name y))) (rises_by name (y ∷ ys)) rises).0

  pub rises_rest : (x : X) (xs : List X) → rises_by name (x ∷ xs) ≡ true → rises_by name xs ≡ true
  rises_rest x [] rises = refl
  rises_rest x (y ∷ ys) rises = (and_parts (is_lt (name_cmp (name x) (name y))) (rises_by name (y ∷ ys)) rises).1

  -- the first name is below each later one
  pub first_below : (x : X) (xs : List X) (j : ℕ) (d : X) → rises_by name (x ∷ xs) ≡ true → j < length xs
      → name_cmp (name x) (name (get_or xs j d)) ≡ Less
  first_below x [] j d rises within = absurd (omega arith)
  first_below x (y ∷ ys) zero d rises within = rises_next x y ys rises
  first_below x (y ∷ ys) (suc j) d rises within =
      nat_list_cmp_total.trans (name x) (name y) (name (get_or ys j d)) (rises_next x y ys rises)
      (first_below y ys j d (rises_rest x (y ∷ ys) rises) (omega arith))

  -- each name is below every later one
  pub earlier_below : (xs : List X) (i j : ℕ) (d : X) → rises_by name xs ≡ true → i < j → j < length xs
      → name_cmp (name (get_or xs i d)) (name (get_or xs j d)) ≡ Less
  earlier_below [] i j d rises before within = absurd (omega arith)
  earlier_below (x ∷ xs) i zero d rises before within = absurd (omega arith)
  earlier_below (x ∷ xs) zero (suc j) d rises before within = first_below x xs j d rises (omega arith)
  earlier_below (x ∷ xs) (suc i) (suc j) d rises before within = earlier_below xs i j d (rises_rest x xs rises) (omega arith) (omega arith)

  -- different positions have different names
  pub names_apart : (xs : List X) (i j : ℕ) (d : X) → rises_by name xs ≡ true → i < length xs → j < length xs
      → name (get_or xs i d) ≡ name (get_or xs j d) → i ≡ j
  names_apart xs i j d rises in_i in_j same =
      ⊎_elim
      (λ before.
      let below = earlier_below xs i j d rises before in_j in
      let equal = Equal-from_same _ _ same in
      cc)
      (λ not_before.
      ⊎_elim
      (λ e. e)
      (λ apart.
      let after : j < i = omega arith in
      let below = earlier_below xs j i d rises after in_i in
      let equal = Equal-from_same _ _ (sym same) in
      cc)
      (cases_eq i j))
      (cases_lt i j)

  -- ---- the result of comparing neighbours

  abbrev pub below : X → X → Bool
  below x y = is_lt (name_cmp (name x) (name y))

  all_rise : (xs : List X) → ((k : ℕ) (d : X) → suc k < length xs → below (get_or xs k d) (get_or xs (suc k) d) ≡ true)
      → rises_by name xs ≡ true
  all_rise [] each = refl
  all_rise (x ∷ []) each = refl
  all_rise (x ∷ y ∷ ys) each = and_from _ _ (each zero x (omega arith)) (all_rise (y ∷ ys) (λ k d within. each (suc k) d (omega arith)))

  one_falls : (xs : List X) (k : ℕ) → suc k < length xs → ((d : X) → below (get_or xs k d) (get_or xs (suc k) d) ≡ false)
      → rises_by name xs ≡ false
  one_falls [] k within falls = absurd (omega arith)
  one_falls (x ∷ []) k within falls = absurd (omega arith)
  one_falls (x ∷ y ∷ ys) zero within falls = ap (λ b. b && rises_by name (y ∷ ys)) (falls x)
  one_falls (x ∷ y ∷ ys) (suc k) within falls = ap (λ b. below x y && b) (one_falls (y ∷ ys) k (omega arith) falls)
      ∙ and_right (below x y) false refl

  pub rise_told : (xs : List X) (r : Bool) → IsAllAdjacentAnswer (λ x y b. b ≡ below x y) xs r → r ≡ rises_by name xs
  rise_told xs true each =
      sym (all_rise xs (λ k d within. let next : k + 1 ≡ suc k = omega arith in subst
      (λ n. below (get_or xs k d) (get_or xs n d) ≡ true) next (sym (each k d (omega arith)))))
  rise_told xs false some =
      let next : some.0 + 1 ≡ suc some.0 = omega arith in
      sym (one_falls xs some.0 (omega (arith, some.1))
      (λ d. subst (λ n. below (get_or xs some.0 d) (get_or xs n d) ≡ false) next (sym (some.2 d))))
