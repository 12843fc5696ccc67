use Rattle.std.specs.Prelude.{◌≡◌, true}
use Rattle.std.proofs.Common.{ap, sym, ◌∙◌}
use Rattle.table_model.specs.TableState.{TableState, holds_this, runner_named}
use Rattle.run_table.proofs.HeldAtWork.{this_at_work}
use Rattle.run_table.proofs.table_data.TableData.beat.Goals as goal

pub leg_held-requires-clause-work : goal.leg_held-requires-clause-work
leg_held-requires-clause-work c =
    let t = c.args.self.now in
    let beat = c.args.beat.now in
    let holds : holds_this beat.lease (runner_named t.runners beat.runner) ≡ true =
    ap (λ (s : TableState). holds_this beat.lease (runner_named s.runners beat.runner)) (sym c.self.view_is)
    ∙ ap (holds_this beat.lease) (sym c.at-runner.ensures) ∙ sym c.holds_this.ensures ∙ c.if-not-holds_this.false in
    this_at_work t beat.runner beat.lease c.requires holds
