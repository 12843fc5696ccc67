use Rattle.std.proofs.Common.{◌≡◌, ap, false, rules, sym, ◌∙◌}
use Rattle.std.specs.Prelude.{is_none, is_some}
use Rattle.run_plan.specs.PlanOf.{plan_of}
use Rattle.table_model.specs.inner.Cells.{JobCells}
use Rattle.table_model.specs.Runs.{finished_result}
use Rattle.table_model.proofs.NeedsLeft.{none_where, still_planned}
use Rattle.table_model.proofs.run.Run.open_job.Goals as goal

pub invariant_of-self-else-had_finished : goal.invariant_of-self-else-had_finished
invariant_of-self-else-had_finished c =
    let x = c.index_mut-job.result.now in
    let not_yet : is_some (finished_result x.state.phase) ≡ false = search rules in
    still_planned (plan_of c.self.inside.prepared.body) c.self.inside.jobs.items c.args.j x c.open.new.self c.self.invariant (search rules)
    (search rules) (search rules)
    (ap (λ (v : JobCells). is_none (finished_result v.state.phase)) c.open.ensures
    ∙ sym (none_where (finished_result x.state.phase) false not_yet))
