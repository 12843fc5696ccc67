-- A list without repetitions, when an element is added at its end.
use Rattle.std.proofs.Common.{◌≡◌, ◌∙◌, List, [], ◌∷◌, ◌++◌, refl, ap}
use Rattle.std.specs.Prelude.{Bool, true, false, ◌||◌, not, cond, if◌then◌else◌}
use Rattle.std.specs.List.{filter, list_any}
use Rattle.std.proofs.lemmas.List.Elements.{filter-append}
use Rattle.table_views.specs.Distinct.{distinct}

abbrev pub one_unless : {X : Type 0} → Bool → X → List X
one_unless there x = if there then [] else x ∷ []

module _ {X : Type 0} (same : X → X → Bool) where
  by_cases : (p : X → Bool) (x : X) (b c : Bool) → p x ≡ not b → filter p (one_unless c x) ≡ one_unless (b || c) x
  by_cases p x true true is = refl
  by_cases p x false true is = refl
  by_cases p x true false is = ap (λ v. cond v (x ∷ []) []) is
  by_cases p x false false is = ap (λ v. cond v (x ∷ []) []) is

  pub distinct_more : (xs : List X) (x : X) → distinct same (xs ++ x ∷ []) ≡ distinct same xs ++ one_unless (list_any (λ y. same y x) xs) x
  distinct_more [] x = refl
  distinct_more (y ∷ ys) x =
      let others = λ (z : X). not (same y z) in
      let there = list_any (λ z. same z x) ys in
      ap (λ zs. y ∷ filter others zs) (distinct_more ys x)
      ∙ ap (λ zs. y ∷ zs) (filter-append others (distinct same ys) (one_unless there x)
      ∙ ap (λ zs. filter others (distinct same ys) ++ zs) (by_cases others x (same y x) there refl))
