-- Whether elements increase, from comparing each with the next.
use Rattle.std.proofs.Common.{◌≡◌, ℕ, zero, suc, ◌+◌, ◌<◌, List, [], ◌∷◌, Bool, true, false, ◌&&◌, length, get_or, sym, refl, subst, ap, ◌∙◌, arith}
use Rattle.std.specs.declared.cmp.Ordering.{Ordering}
use Rattle.std.specs.List.{IsAllAdjacentAnswer}
use Rattle.std.specs.Ordering.{is_lt}
use Rattle.std.proofs.lemmas.Bool.{and_from, and_right}
use Rattle.table_model.specs.Forgotten.{increases}

module _ {X : Type 0} (order : X → X → Ordering) where
  abbrev pub below : X → X → Bool
  below x y = is_lt (order x y)

  all_increase : (xs : List X) → ((k : ℕ) (d : X) → suc k < length xs → below (get_or xs k d) (get_or xs (suc k) d) ≡ true)
      → increases order xs ≡ true
  all_increase [] each = refl
  all_increase (x ∷ []) each = refl
  all_increase (x ∷ y ∷ ys) each = and_from _ _ (each zero x (omega arith)) (all_increase (y ∷ ys) (λ k d within. each (suc k) d (omega arith)))

  one_falls : (xs : List X) (k : ℕ) → suc k < length xs → ((d : X) → below (get_or xs k d) (get_or xs (suc k) d) ≡ false)
      → increases order xs ≡ false
  one_falls [] k within falls = absurd (omega arith)
  one_falls (x ∷ []) k within falls = absurd (omega arith)
  one_falls (x ∷ y ∷ ys) zero within falls = ap (λ b. b && increases order (y ∷ ys)) (falls x)
  one_falls (x ∷ y ∷ ys) (suc k) within falls = ap (λ b. below x y && b) (one_falls (y ∷ ys) k (omega arith) falls)
      ∙ and_right (below x y) false refl

  pub increase_told : (xs : List X) (r : Bool) → IsAllAdjacentAnswer (λ x y b. b ≡ below x y) xs r → r ≡ increases order xs
  increase_told xs true each =
      sym (all_increase xs (λ k d within. let next : k + 1 ≡ suc k = omega arith in subst
      (λ n. below (get_or xs k d) (get_or xs n d) ≡ true) next (sym (each k d (omega arith)))))
  increase_told xs false some =
      let next : some.0 + 1 ≡ suc some.0 = omega arith in
      sym (one_falls xs some.0 (omega (arith, some.1))
      (λ d. subst (λ n. below (get_or xs some.0 d) (get_or xs n d) ≡ false) next (sym (some.2 d))))
