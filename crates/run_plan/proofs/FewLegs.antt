-- In the plan of any body, a job has at most 256 legs.
use Rattle.std.specs.Prelude.{◌≡◌, ℕ, zero, suc, ◌≤◌, List, [], ◌∷◌, map, length, Bool, true, false, nat_lt, Option, Some, None, Err, Ok}
use Rattle.std.specs.Prelude.{slice_get}
use Rattle.std.specs.Result.{result_unwrap_or}
use Rattle.std.proofs.Common.{arith, sym, subst, inl, inr, cond}
use Rattle.std.proofs.lemmas.Bool.{cases_Bool, ltb-false}
use Rattle.std.proofs.lemmas.List.{length-map}
use Rattle.wf_value.specs.ScalarValue.{MatrixLists}
use Rattle.wf_value.specs.declared.code.Code.TheVariants.{LegCount}
use Rattle.wf_value.specs.declared.refusal.Refusal.TheVariants.{Numbered}
use Rattle.wf_reader.specs.declared.job.Job.{Job}
use Rattle.wf_reader.specs.Event.{event_of}
use Rattle.matrix_expand.specs.Combinations.{Combination, combinations, legs_or_refusal, within_choices}
use Rattle.run_plan.specs.PlanOf.{combinations_where, legs_of_job, matrix_of, plan_of, planned_job}
use Rattle.run_plan.specs.declared.planned.PlannedJob.{PlannedJob}

few_of : (cs : List Combination) → length (result_unwrap_or (legs_or_refusal cs) []) ≤ 256
few_of [] = omega arith
few_of (c ∷ cs) =
    let given = λ (b : Bool). length (result_unwrap_or (cond b (Err (Numbered LegCount)) (Ok (c ∷ cs))) []) ≤ 256 in
    elim (cases_Bool (nat_lt 256 (length (c ∷ cs)))) [
      | inl over ↦ subst given (sym over) (omega arith)
      | inr within ↦ subst given (sym within) (ltb-false 256 (length (c ∷ cs)) within)
    ]

few_within : (b : Bool) (m : MatrixLists) → length (result_unwrap_or (within_choices b m) []) ≤ 256
few_within true m = omega arith
few_within false m = few_of (combinations m)

few_where : (matrix : Option MatrixLists) → length (result_unwrap_or (combinations_where matrix) []) ≤ 256
few_where None = omega arith
few_where (Some m) = few_within _ m

few_legs : (job : Job) → length (legs_of_job job) ≤ 256
few_legs job =
    let of_matrix = few_where (matrix_of job) in
    let same : length (legs_of_job job) ≡ length (result_unwrap_or (combinations_where (matrix_of job)) []) =
    length-map (result_unwrap_or (combinations_where (matrix_of job)) []) (λ c. record { combo = c }) in
    omega (arith, of_matrix, same)

each_made : {X Y : Type 0} (P : Y → Type 0) (f : X → Y) → ((x : X) → P (f x)) → (xs : List X) (j : ℕ) (y : Y)
    → slice_get (map f xs) j ≡ Some y → P y
each_made P f made [] j y e = cc
each_made P f made (x ∷ xs) zero y e = let same : f x ≡ y = cc in subst P same (made x)
each_made P f made (x ∷ xs) (suc j) y e = each_made P f made xs j y e

pub few_planned : (body : List ℕ) (j : ℕ) (planned : PlannedJob) → slice_get (plan_of body) j ≡ Some planned → length planned.legs ≤ 256
few_planned body j planned e = each_made (λ p. length p.legs ≤ 256) planned_job few_legs (event_of body).workflow.jobs j planned e
