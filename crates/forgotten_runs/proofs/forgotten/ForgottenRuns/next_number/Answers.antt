use Rattle.std.specs.Prelude.{◌≡◌, sum_by}
use Rattle.std.proofs.Common.{arith, ap}
use Rattle.table_model.specs.Forgotten.{ForgottenRuns, WorkflowCount}
use Rattle.table_model.proofs.Counts.{all_runs, at_most_all}
use Rattle.forgotten_runs.proofs.forgotten.ForgottenRuns.next_number.Goals as goal

-- a workflow has no more forgotten runs than there are
pub new-requires-clause-high : goal.new-requires-clause-high
new-requires-clause-high c =
    let counts = c.self.inside.counts in
    let all : all_runs counts ≡ c.self.inside.through = c.self.invariant.0.all_counted in
    let most = at_most_all c.args.event.now counts in
    let through = ap (λ (f : ForgottenRuns). f.through) c.self.view_is in
    omega (arith, c.of_workflow.ensures.count, c.get.ensures.value, all, most, through, c.requires)
