use Rattle.std.specs.Prelude.{IfSome, Option, true}
use Rattle.std.proofs.Common.{◌≡◌, subst, sym, ◌∙◌}
use Rattle.table_model.specs.Fitting.{is_at_work}
use Rattle.table_model.specs.Runs.{LegState, leg_in_phase}
use Rattle.table_model.specs.Sound.{RunsAreSound}
use Rattle.table_model.specs.declared.holder.Holder.TheVariants.{Leg}
use Rattle.table_model.specs.declared.phases.LegPhase.TheVariants as leg
use Rattle.table_runs.specs.inner.HolderChanges.{EndsOnly}
use Rattle.table_runs.proofs.LegEnds.{leg_end, leg_end_sound}
use Rattle.table_model.proofs.Transitions.{with_leg_none}
use Rattle.table_runs.proofs.OneChange.{leg_written}
use Rattle.table_runs.proofs.runs.Runs.end_leg.Goals as goal

pub change_ending-requires : goal.change_ending-requires
change_ending-requires c =
    subst (EndsOnly (Leg c.args.site) c.args.self.now)
    (sym (leg_written c.args.self.now c.args.site c.in-Some.leg.now c.in_phase-ended.result (leg_in_phase (leg.Ended c.args.outcome))
    (sym c.in-Some.ensures) c.in_phase-ended.ensures))
    (leg_end c.args.self.now c.args.site c.in-Some.leg.now c.args.outcome c.requires.sound (sym c.in-Some.ensures)
    (subst (λ (o : Option LegState). IfSome o (λ z. is_at_work z.phase ≡ true)) (sym c.in-Some.ensures) c.requires.work))

pub returns-in-Some-clause-ended : goal.returns-in-Some-clause-ended
returns-in-Some-clause-ended c =
    c.change_ending.ensures
    ∙ leg_written c.args.self.now c.args.site c.in-Some.leg.now c.in_phase-ended.result (leg_in_phase (leg.Ended c.args.outcome))
    (sym c.in-Some.ensures) c.in_phase-ended.ensures

pub returns-in-Some-clause-sound : goal.returns-in-Some-clause-sound
returns-in-Some-clause-sound c =
    subst RunsAreSound
    (sym (c.change_ending.ensures
    ∙ leg_written c.args.self.now c.args.site c.in-Some.leg.now c.in_phase-ended.result (leg_in_phase (leg.Ended c.args.outcome))
    (sym c.in-Some.ensures) c.in_phase-ended.ensures))
    (leg_end_sound c.args.self.now c.args.site c.in-Some.leg.now c.args.outcome c.requires.sound (sym c.in-Some.ensures)
    (subst (λ (o : Option LegState). IfSome o (λ z. is_at_work z.phase ≡ true)) (sym c.in-Some.ensures) c.requires.work))

pub returns-in_default-clause-ended : goal.returns-in_default-clause-ended
returns-in_default-clause-ended c = with_leg_none c.args.self.now c.args.site (leg_in_phase (leg.Ended c.args.outcome)) (sym c.in_default.ensures)
