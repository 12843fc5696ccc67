use Rattle.std.proofs.Common.{List, subst, sym, ◌∙◌}
use Rattle.table_model.specs.Runs.{RunState}
use Rattle.table_model.specs.Sound.{RunsAreSound}
use Rattle.table_model.specs.Stops.{stopped}
use Rattle.table_model.specs.declared.holder.Holder.TheVariants.{Leg}
use Rattle.table_model.proofs.Transitions.{with_leg_none}
use Rattle.table_runs.specs.inner.HolderChanges.{ChangesNobody, EndsOnly}
use Rattle.table_runs.proofs.HoldersThere.{leg_within_there}
use Rattle.table_runs.proofs.OneChange.{leg_written}
use Rattle.table_runs.proofs.OneHolder.{leg_is_stopped}
use Rattle.table_runs.proofs.Stopping.{holds_no_more, stop_nobody, stop_sound, waits_no_more}
use Rattle.table_runs.proofs.runs.Runs.stop_one.Goals as goal

pub change_within-requires-clause-within : goal.change_within-requires-clause-within
change_within-requires-clause-within c = leg_within_there c.args.self.now c.args.site c.in-Some.leg.now (sym c.in-Some.ensures)

pub change_within-requires-clause-nobody : goal.change_within-requires-clause-nobody
change_within-requires-clause-nobody c =
    subst (ChangesNobody c.args.self.now) (sym (leg_written c.args.self.now c.args.site c.in-Some.leg.now c.stopped.result stopped (sym c.in-Some.ensures) c.stopped.ensures))
    (stop_nobody c.args.self.now c.args.site c.in-Some.leg.now c.requires (sym c.in-Some.ensures)
    (sym c.is_at_work.ensures ∙ c.if-is_at_work.true))

pub change_ending-requires : goal.change_ending-requires
change_ending-requires c =
    subst (EndsOnly (Leg c.args.site) c.args.self.now) (sym (leg_written c.args.self.now c.args.site c.in-Some.leg.now c.stopped.result stopped (sym c.in-Some.ensures) c.stopped.ensures))
    (leg_is_stopped c.args.self.now c.args.site c.in-Some.leg.now c.requires (sym c.in-Some.ensures)
    (waits_no_more c.in-Some.leg.now.phase)
    (holds_no_more c.in-Some.leg.now.phase (sym c.is_at_work.ensures ∙ c.if-is_at_work.false)))

pub returns-then-is_at_work : goal.returns-then-is_at_work
returns-then-is_at_work c =
    let runs = c.args.self.now in
    let is = c.change_within.ensures ∙ leg_written c.args.self.now c.args.site c.in-Some.leg.now c.stopped.result stopped (sym c.in-Some.ensures) c.stopped.ensures in
    record { stopped = is; sound = subst (λ (xs : List RunState). RunsAreSound xs) (sym is) (stop_sound runs c.args.site c.requires) }

pub returns-else-is_at_work : goal.returns-else-is_at_work
returns-else-is_at_work c =
    let runs = c.args.self.now in
    let is = c.change_ending.ensures ∙ leg_written c.args.self.now c.args.site c.in-Some.leg.now c.stopped.result stopped (sym c.in-Some.ensures) c.stopped.ensures in
    record { stopped = is; sound = subst (λ (xs : List RunState). RunsAreSound xs) (sym is) (stop_sound runs c.args.site c.requires) }

pub returns-in_default : goal.returns-in_default
returns-in_default c =
    record { stopped = with_leg_none c.args.self.now c.args.site stopped (sym c.in_default.ensures); sound = c.requires }
