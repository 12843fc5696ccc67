-- At the end of the plan or of the jobs, no job is left to print.
use Rattle.std.proofs.Common.{◌≡◌, ℕ, List, [], ◌∷◌, ◌++◌, length, refl, arith, sym, ap, ◌∙◌, append-nil, Result, Ok}
use Rattle.wf_value.specs.declared.refusal.Refusal.{Refusal}
use Rattle.run_plan.specs.declared.planned.PlannedJob.{PlannedJob}
use Rattle.table_model.specs.inner.Cells.{JobCells, states}
use Rattle.table_views.specs.RunLines.{jobs_json}

pub no_plan_left : (plan : List PlannedJob) (jobs : List JobCells) → length plan ≡ 0 → jobs_json plan (states jobs) ≡ []
no_plan_left [] jobs e = refl
no_plan_left (p ∷ plan) jobs e = absurd (omega (arith, e))

pub no_jobs_left : (plan : List PlannedJob) (jobs : List JobCells) → length jobs ≡ 0 → jobs_json plan (states jobs) ≡ []
no_jobs_left [] jobs e = refl
no_jobs_left (p ∷ plan) [] e = refl
no_jobs_left (p ∷ plan) (j ∷ jobs) e = absurd (omega (arith, e))

-- texts to which nothing is left to add are complete
pub all_there : (texts rest all : List (List ℕ)) → rest ≡ [] → texts ++ rest ≡ all
    → ◌≡◌ {A = Result (List (List ℕ)) Refusal} (Ok all) (Ok texts)
all_there texts rest all none e = ap Ok (sym e ∙ ap (λ r. texts ++ r) none ∙ append-nil texts)
