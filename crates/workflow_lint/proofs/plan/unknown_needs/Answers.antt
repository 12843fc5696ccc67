use Rattle.std.proofs.Common.{◌≡◌, ◌∙◌, map, sym, arith}
use Rattle.std.specs.List.{flat_map}
use Rattle.std.proofs.lemmas.Grind.{common_steps}
use Rattle.std.proofs.lemmas.List.Folds.{flat_map-map}
use Rattle.run_plan.specs.PlanOf.{needs_of_job}
use Rattle.workflow_lint.specs.Plans.{unknown_in}
use Rattle.workflow_lint.proofs.plan.unknown_needs.Goals as goal

pub returns : goal.returns
returns c =
    let jobs = c.args.jobs.now in
    let each : c.loop-job.found.items ≡ flat_map (λ job. unknown_in (map needs_of_job jobs) (needs_of_job job)) jobs =
    grind (arith, common_steps, c.loop-job.invariant) in
    each ∙ sym (flat_map-map (unknown_in (map needs_of_job jobs)) needs_of_job jobs)
