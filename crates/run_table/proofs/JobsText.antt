-- At the end of the plan or of the jobs, no job is left to print.
use Rattle.std.proofs.Common.{◌≡◌, ℕ, List, [], ◌∷◌, ◌++◌, length, refl, arith, sym, ◌∙◌}
use Rattle.std.proofs.lemmas.List.{append-nil}
use Rattle.run_plan.specs.declared.planned.PlannedJob.{PlannedJob}
use Rattle.table_model.specs.inner.Cells.{JobCells, states}
use Rattle.table_model.specs.ViewText.{jobs_text}

pub no_plan_left : (plan : List PlannedJob) (jobs : List JobCells) → length plan ≡ 0 → jobs_text plan (states jobs) ≡ []
no_plan_left [] jobs e = refl
no_plan_left (p ∷ plan) jobs e = absurd (omega arith)

pub no_jobs_left : (plan : List PlannedJob) (jobs : List JobCells) → length jobs ≡ 0 → jobs_text plan (states jobs) ≡ []
no_jobs_left [] jobs e = refl
no_jobs_left (p ∷ plan) [] e = refl
no_jobs_left (p ∷ plan) (j ∷ jobs) e = absurd (omega arith)

-- a text to which nothing is left to add is whole
pub whole_text : (text rest whole : List ℕ) → rest ≡ [] → text ++ rest ≡ whole → text ≡ whole
whole_text text rest whole none e = sym (append-nil text) ∙ (rw none at e)
