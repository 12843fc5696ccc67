use Rattle.std.proofs.Common.{subst, sym, ◌∙◌}
use Rattle.table_model.specs.Runs.{leg_in_phase}
use Rattle.table_model.specs.declared.holder.Holder.TheVariants.{Leg}
use Rattle.table_model.specs.declared.phases.LegPhase.TheVariants as leg
use Rattle.table_runs.specs.inner.HolderChanges.{StartsOnly}
use Rattle.table_runs.proofs.OneHolder.{leg_starts}
use Rattle.table_runs.proofs.OneChange.{leg_written}
use Rattle.table_runs.proofs.runs.Runs.start_leg.Goals as goal

pub change_starting-requires : goal.change_starting-requires
change_starting-requires c =
    subst (StartsOnly (Leg c.args.site) c.args.self.now)
    (sym (leg_written c.args.self.now c.args.site c.in-Some.leg.now c.in_phase.result (leg_in_phase leg.Ready) (sym c.in-Some.ensures)
    c.in_phase.ensures))
    (leg_starts c.args.self.now c.args.site c.requires.sound c.requires.waits c.requires.may)

pub returns-in-Some : goal.returns-in-Some
returns-in-Some c =
    c.change_starting.ensures
    ∙ leg_written c.args.self.now c.args.site c.in-Some.leg.now c.in_phase.result (leg_in_phase leg.Ready) (sym c.in-Some.ensures)
    c.in_phase.ensures
