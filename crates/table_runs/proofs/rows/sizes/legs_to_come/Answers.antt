use Rattle.std.proofs.Common.{◌≡◌, ◌-◌, ◌≤◌, arith, ap, length, rules, sym, ◌∙◌}
use Rattle.std.specs.Prelude.{List, Some, refl, slice_get}
use Rattle.std.proofs.lemmas.Option.{slice_get_read}
use Rattle.std.proofs.lemmas.List.{length-map}
use Rattle.run_plan.specs.PlanOf.{plan_of}
use Rattle.table_model.specs.inner.Cells.{JobCells}
use Rattle.table_model.specs.Runs.{JobState, LegState}
use Rattle.table_runs.proofs.StoredSizes.{few_opened, room_is, size_of_one, size_past}
use Rattle.table_runs.proofs.rows.sizes.legs_to_come.Goals as goal

pub overflow_sub-result : goal.overflow_sub-result
overflow_sub-result c =
    let jobs = c.planned_jobs.result.now in
    let x = c.in-Some.job.now in
    let at : slice_get jobs c.args.j ≡ Some x =
    slice_get_read jobs (length jobs) c.args.j x refl c.in-Some.ensures.lookup.3.0 c.in-Some.ensures.lookup.1 in
    let room = room_is (plan_of c.args.run.now.admitted.body) jobs c.args.j x c.planned_jobs.ensures.rooms at in
    omega (arith, room, c.legs_planned.ensures, c.planned_legs.ensures.most)

pub returns-in-Some-clause-added : goal.returns-in-Some-clause-added
returns-in-Some-clause-added c =
    let jobs = c.planned_jobs.result.now in
    let x = c.in-Some.job.now in
    let at : slice_get jobs c.args.j ≡ Some x =
    slice_get_read jobs (length jobs) c.args.j x refl c.in-Some.ensures.lookup.3.0 c.in-Some.ensures.lookup.1 in
    let room = room_is (plan_of c.args.run.now.admitted.body) jobs c.args.j x c.planned_jobs.ensures.rooms at in
    let legs = ap (λ (ls : List LegState). length ls) c.planned_legs.ensures.legs in
    size_of_one c.args.run.now jobs c.args.j x (c.legs_planned.result - length c.planned_legs.result.now) c.planned_jobs.ensures.jobs c.planned_jobs.ensures.rooms at
    (omega (arith, room, c.legs_planned.ensures, c.planned_legs.ensures.most, legs))

pub returns-in-Some-clause-few : goal.returns-in-Some-clause-few
returns-in-Some-clause-few c = omega (arith, c.legs_planned.ensures, few_opened c.args.run.now.admitted.body c.args.j)

pub returns-in-None-clause-added : goal.returns-in-None-clause-added
returns-in-None-clause-added c =
    let jobs = c.planned_jobs.result.now in
    let past : length jobs ≤ c.args.j = search rules in
    let many : length jobs ≡ length c.args.run.now.jobs =
    sym (length-map jobs (λ (x : JobCells). x.state)) ∙ ap (λ (js : List JobState). length js) c.planned_jobs.ensures.jobs in
    let same = size_past c.args.run.now c.args.j (omega (arith, past, many)) in
    omega (arith, same)
