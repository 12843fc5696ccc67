-- Lists of labels are equal as map keys if and only if they are the same.
use Rattle.std.proofs.Common.{◌≡◌, ◌↔◌, ℕ, zero, suc, Option, None, Some, IfNone, IfSome, slice_get, get_or, List, [], ◌∷◌, Bool, true, false, IsTrue, ◌&&◌, ◌||◌, is_some, true≢false, refl, sym, ap, subst, ◌∙◌}
use Rattle.std.specs.List.{AllByRecursion, IsDistinct, list_any, position}
use Rattle.std.proofs.lemmas.List.Quantifiers.{position-Some}
use Rattle.std.proofs.lemmas.Option.{slice_get-get_or}
use Rattle.std.proofs.lemmas.Map.Keys.{IsDistinct-head, IsDistinct-tail}
use Rattle.std.specs.Cmp.{first_so, second_so}
use Rattle.std.specs.Cmp.Lexicographic.{bytes_decides}
use Rattle.std.specs.Str.{bytes_eq}
use Rattle.label_lists.specs.inner.Known.{HasEachOnce}
use Rattle.label_lists.specs.inner.Labels.{labels_eq}

same : (xs ys : List (List ℕ)) → labels_eq xs ys ≡ true → xs ≡ ys
same [] [] h = refl
same [] (y ∷ ys) h = absurd (true≢false (sym h))
same (x ∷ xs) [] h = absurd (true≢false (sym h))
same (x ∷ xs) (y ∷ ys) h = λ i. (bytes_decides x y).0 (first_so (bytes_eq x y) (labels_eq xs ys) h) i ∷ same xs ys (second_so (bytes_eq x y) (labels_eq xs ys) h) i

own : (xs : List (List ℕ)) → labels_eq xs xs ≡ true
own [] = refl
own (x ∷ xs) = ap (λ b. b && labels_eq xs xs) ((bytes_decides x x).1 refl) ∙ own xs

pub one_list : (xs ys : List (List ℕ)) → IsTrue (labels_eq xs ys) ↔ (xs ≡ ys)
one_list xs ys = (same xs ys, λ is. subst (λ zs. labels_eq xs zs ≡ true) is (own xs))

-- a test that holds if and only if the lists are the same is equality
pub told : (b : Bool) (xs ys : List (List ℕ)) → (IsTrue b ↔ (xs ≡ ys)) → b ≡ labels_eq xs ys
told true xs ys is = sym ((one_list xs ys).1 (is.0 refl))
told false xs ys is = by (labels_eq xs ys) refl
  where
    by : (t : Bool) → labels_eq xs ys ≡ t → false ≡ labels_eq xs ys
    by true e = absurd (true≢false (sym (is.1 (same xs ys e))))
    by false e = sym e

-- ---- each list occurs once

pub each_passes : (P : List (List ℕ) → Type 0) (lists : List (List (List ℕ))) (n : ℕ) (labels : List (List ℕ)) → AllByRecursion P lists → slice_get lists n ≡ Some labels → P labels
each_passes P [] n labels all at = cc
each_passes P (l ∷ ls) zero labels all at = subst P (one at) all.0
  where
    one : Some l ≡ Some labels → l ≡ labels
    one h = cc
each_passes P (l ∷ ls) (suc n) labels all at = each_passes P ls n labels all.1 at

not_later : (l : List (List ℕ)) (ls : List (List (List ℕ))) (n : ℕ) (labels : List (List ℕ)) → IsDistinct labels_eq (l ∷ ls) → Some l ≡ Some labels
    → slice_get ls n ≡ Some labels → ⊥
not_later l ls n labels distinct first later =
    let apart = each_passes (λ y. labels_eq l y ≡ false) ls n labels (IsDistinct-head labels_eq l ls distinct) later in
    true≢false (sym (own labels) ∙ subst (λ k. labels_eq k labels ≡ false) (one first) apart)
  where
    one : Some l ≡ Some labels → l ≡ labels
    one h = cc

pub each_once : (lists : List (List (List ℕ))) → IsDistinct labels_eq lists → HasEachOnce lists
each_once [] distinct m n labels at also = cc
each_once (l ∷ ls) distinct zero zero labels at also = refl
each_once (l ∷ ls) distinct zero (suc n) labels at also = absurd (not_later l ls n labels distinct at also)
each_once (l ∷ ls) distinct (suc m) zero labels at also = absurd (not_later l ls m labels distinct also at)
each_once (l ∷ ls) distinct (suc m) (suc n) labels at also = ap suc (each_once ls (IsDistinct-tail labels_eq l ls distinct) m n labels at also)

-- ---- the number of a list

-- a list that is among the others is found
among : (lists : List (List (List ℕ))) (labels : List (List ℕ)) (k : ℕ) → slice_get lists k ≡ Some labels → list_any (labels_eq labels) lists ≡ true
among [] labels k at = cc
among (l ∷ ls) labels zero at = ap (λ b. b || list_any (labels_eq labels) ls) ((one_list labels l).1 (one at))
  where
    one : Some l ≡ Some labels → labels ≡ l
    one h = cc
among (l ∷ ls) labels (suc k) at = by (labels_eq labels l) (among ls labels k at)
  where
    by : (b : Bool) → list_any (labels_eq labels) ls ≡ true → (b || list_any (labels_eq labels) ls) ≡ true
    by true later = refl
    by false later = later

-- one that is not is not found
pub nowhere : (lists : List (List (List ℕ))) (labels : List (List ℕ)) → ((k : ℕ) → slice_get lists k ≡ Some labels → ⊥)
    → list_any (labels_eq labels) lists ≡ false
nowhere [] labels never = refl
nowhere (l ∷ ls) labels never = by (labels_eq labels l) refl (nowhere ls labels (λ k. never (suc k)))
  where
    by : (b : Bool) → labels_eq labels l ≡ b → list_any (labels_eq labels) ls ≡ false → (b || list_any (labels_eq labels) ls) ≡ false
    by true e later = absurd (never zero (ap Some (sym (same labels l e))))
    by false e later = later

module _ (lists : List (List (List ℕ))) (labels : List (List ℕ)) where
  pub number_there : (found : Option ℕ) → found ≡ position (labels_eq labels) lists → IfSome found (λ n. slice_get lists n ≡ Some labels)
  number_there None is = tt
  number_there (Some n) is =
      let there = position-Some (labels_eq labels) lists n labels (sym is) in
      slice_get-get_or lists n labels there.0 ∙ ap Some (sym (same labels (get_or lists n labels) there.1))

  pub number_once : (found : Option ℕ) → found ≡ position (labels_eq labels) lists → IsDistinct labels_eq lists
      → IfSome found (λ n. (k : ℕ) → slice_get lists k ≡ Some labels → n ≡ k)
  number_once None is distinct = tt
  number_once (Some n) is distinct = λ k at. each_once lists distinct n k labels (number_there (Some n) is) at

  pub number_none : (found : Option ℕ) → is_some found ≡ list_any (labels_eq labels) lists
      → IfNone found ((k : ℕ) → slice_get lists k ≡ Some labels → ⊥)
  number_none None is = λ k at. true≢false (sym (among lists labels k at) ∙ sym is)
  number_none (Some n) is = tt
