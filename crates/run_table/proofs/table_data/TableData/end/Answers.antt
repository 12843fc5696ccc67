use Rattle.std.specs.Prelude.{◌≡◌, IfSome, List, Option, true}
use Rattle.std.proofs.Common.{ap, subst, sym, ◌∙◌}
use Rattle.table_model.specs.TableState.{RunnerState, TableState}
use Rattle.run_table.specs.inner.IndexNamed.{index_named}
use Rattle.table_model.specs.Fitting.{is_at_work}
use Rattle.table_model.specs.Runs.{leg_at, RunState}
use Rattle.table_model.specs.Stops.{with_ended}
use Rattle.table_model.specs.declared.sites.LegSite.{LegSite}
use Rattle.run_table.proofs.BeforeSettling.{reported_may_settle, so_settles, sound_as_they_are}
use Rattle.run_table.proofs.HeldAtWork.{this_at_work}
use Rattle.run_table.proofs.LegHeld.{ended_at, held_is_at_work}
use Rattle.run_table.proofs.ReportKeeps.{held_for_report}
use Rattle.run_table.proofs.table_data.TableData.end.Goals as goal
use Rattle.wf_value.proofs.PassedOn.{same_Ok}

pub leg_held-leg-requires-clause-work : goal.leg_held-leg-requires-clause-work
leg_held-leg-requires-clause-work c =
    let t = c.args.self.now in
    let report = c.args.report.now in
    this_at_work t report.runner report.lease c.requires.sound (held_for_report t report c.requires.due)

pub put-requires : goal.put-requires
put-requires c =
    c.requires.index ∙ ap (λ (t : TableState). index_named t.runners c.args.report.now.runner) (sym c.self.view_is)
    ∙ ap (λ (r : RunnerState). index_named c.self.inside.runners r.name) (same_Ok _ _ c.in_ok-runner.ensures)

pub settle-requires : goal.settle-requires
settle-requires c =
    let t = c.args.self.now in
    let report = c.args.report.now in
    let may =
    so_settles (with_ended report.lease report.result t.runs) c.end.new.self
    (ended_at report.lease report.result t c.self.inside.runs c.end.new.self c.leg_held-leg.result
    (ap (λ (s : TableState). s.runs) c.self.view_is) c.leg_held-leg.ensures.found c.end.ensures)
    (reported_may_settle t report c.requires.sound c.requires.due) in
    may.sound

pub end-requires-clause-sound : goal.end-requires-clause-sound
end-requires-clause-sound c =
    sound_as_they_are c.args.self.now c.self.inside.runs c.requires.sound (ap (λ (t : TableState). t.runs) c.self.view_is)

pub end-requires-clause-work : goal.end-requires-clause-work
end-requires-clause-work c =
    let t = c.args.self.now in
    let report = c.args.report.now in
    let work = held_is_at_work t.runs report.lease
    (this_at_work t report.runner report.lease c.requires.sound (held_for_report t report c.requires.due)) in
    subst (λ (runs : List RunState). IfSome c.leg_held-leg.result (λ p. IfSome (leg_at runs p) (λ z. is_at_work z.phase ≡ true)))
    (sym (ap (λ (s : TableState). s.runs) c.self.view_is))
    (subst (λ (o : Option LegSite). IfSome o (λ p. IfSome (leg_at t.runs p) (λ z. is_at_work z.phase ≡ true)))
    (sym c.leg_held-leg.ensures.found) work)
