-- One more index of a page.
use Rattle.std.proofs.Common.{◌≡◌, ℕ, ◌+◌, List, ◌++◌, suc, ap, subst, arith}
use Rattle.std.specs.Prelude.{IfOk, Ok, Err, Result}
use Rattle.wf_value.specs.Gives.{Gives}
use Rattle.wf_value.specs.declared.refusal.Refusal.{Refusal}
use Rattle.table_views.specs.Pages.{rows_from, weight_from}

pub rows_more : {A : Type 0} (rows : ℕ → List A) (from n : ℕ) → rows_from rows from (n + 1) ≡ rows_from rows from n ++ rows (from + n)
rows_more rows from n = let step : n + 1 ≡ suc n = omega arith in ap (λ k. rows_from rows from k) step

pub weight_more : (weigh : ℕ → ℕ) (from n : ℕ) → weight_from weigh from (n + 1) ≡ weight_from weigh from n + weigh (from + n)
weight_more weigh from n = let step : n + 1 ≡ suc n = omega arith in ap (λ k. weight_from weigh from k) step

-- a fact of the value that a call gives, unless it runs out of memory
pub if_gives : {X Y : Type 0} (view : X → Y) (P : Y → Type 0) (result : Result X Refusal) (y : Y) → Gives view result (Ok y) → P y
    → IfOk result (λ x. P (view x))
if_gives {X} {Y} view P (Ok x) y gives p = let same : y ≡ view x = cc in subst P same p
if_gives view P (Err e) y gives p = tt

pub gives_ok : {X Y : Type 0} (view : X → Y) (x : X) (y : Y) → Gives view (Ok x) (Ok y) → y ≡ view x
gives_ok view x y gives = cc
