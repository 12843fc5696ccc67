use Rattle.std.specs.Prelude.{◌≡◌, Some, option_map}
use Rattle.std.proofs.Common.{rules}
use Rattle.table_model.specs.Runs.{leg_at, LegState}
use Rattle.table_model.specs.declared.phases.LegPhase.TheVariants as leg
use Rattle.table_model.proofs.Optional.{from_map}
use Rattle.table_runs.proofs.FirstRules.{leg_may_start}
use Rattle.table_runs.proofs.runs.Runs.move_leg.Goals as goal

pub start_leg-requires-clause-may : goal.start_leg-requires-clause-may
start_leg-requires-clause-may c =
    let is : option_map (λ (z : LegState). z.phase) (leg_at c.args.self.now c.args.site) ≡ Some leg.Waiting = search rules in
    let at = from_map (λ (z : LegState). z.phase) (leg_at c.args.self.now c.args.site) leg.Waiting is in
    leg_may_start c.args.self.now c.args.site at.value c.requires.first at.is at.gives
