use Rattle.std.proofs.Common.{◌≡◌, ◌<◌, ◌≤◌, ap, get_or, length, rules, sym, ◌∙◌}
use Rattle.run_plan.specs.PlanOf.{plan_graph, plan_of}
use Rattle.table_model.specs.Runs.{RunState}
use Rattle.table_model.specs.inner.WithinRun.{needs_finished_in}
use Rattle.table_model.proofs.NeedsLeft.{left_read, none_past, settled_by_count}
use Rattle.table_model.proofs.run.Run.needs_have_finished.Goals as goal

pub returns-in-Some : goal.returns-in-Some
returns-in-Some c =
    let xs = c.self.inside.jobs.items in
    let x = c.in-Some.job.now in
    let within : c.args.j < length xs = search rules in
    let is : x ≡ get_or xs c.args.j x = search rules in
    let count = left_read xs c.args.j x within is ∙ sym c.needs_left.ensures in
    settled_by_count (plan_graph (plan_of c.self.inside.prepared.body)) xs c.args.j c.needs_left.result c.self.invariant.1 count
    ∙ ap (λ (r : RunState). needs_finished_in r c.args.j) c.self.view_is

pub returns-in-None : goal.returns-in-None
returns-in-None c =
    let xs = c.self.inside.jobs.items in
    let past : length xs ≤ c.args.j = search rules in
    settled_by_count (plan_graph (plan_of c.self.inside.prepared.body)) xs c.args.j 0 c.self.invariant.1 (none_past xs c.args.j past)
    ∙ ap (λ (r : RunState). needs_finished_in r c.args.j) c.self.view_is
