-- Counts of a list, when an element is added at its end.
use Rattle.std.proofs.Common.{◌≡◌, ◌∙◌, ◌+◌, ◌-◌, List, [], ◌∷◌, ◌++◌, ap, arith}
use Rattle.std.specs.Prelude.{Bool, true, false, cond}
use Rattle.std.specs.List.{count_by}
use Rattle.std.proofs.lemmas.List.Sums.{sum_by-append}
use Rattle.table_views.specs.MetricLines.{capped}

module _ {X : Type 0} (p : X → Bool) where
  pub count_more : (xs : List X) (x : X) → count_by p (xs ++ x ∷ []) ≡ count_by p xs + cond (p x) 1 0
  count_more xs x = let joined = sum_by-append (λ y. cond (p y) 1 0) xs (x ∷ []) in omega (arith, joined)

  pub counted : (xs : List X) (x : X) → p x ≡ true → capped (count_by p (xs ++ x ∷ [])) ≡ capped (capped (count_by p xs) + 1)
  counted xs x passes = let more = count_more xs x ∙ ap (λ (b : Bool). count_by p xs + cond b 1 0) passes in omega (arith, more)

  pub not_counted : (xs : List X) (x : X) → p x ≡ false → capped (count_by p (xs ++ x ∷ [])) ≡ capped (count_by p xs)
  not_counted xs x fails = let more = count_more xs x ∙ ap (λ (b : Bool). count_by p xs + cond b 1 0) fails in omega (arith, more)
