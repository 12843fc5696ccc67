-- A new leg that arrives: it waits then, and at most one other holder of its group is pending and at most one is in progress.
use Rattle.std.specs.Prelude.{◌≡◌, List, true, false, Option, Some, None, refl}
use Rattle.std.specs.Option.{option_map_or}
use Rattle.std.proofs.Common.{ap}
use Rattle.table_model.specs.Groups.{leg_waits, waits}
use Rattle.table_model.specs.inner.Resuming.{is_new_at}
use Rattle.table_model.specs.Runs.{leg_at, LegState, RunState, is_new, leg_in_phase}
use Rattle.table_model.specs.declared.sites.LegSite.{LegSite}
use Rattle.table_model.specs.Settling.{with_leg_in}
use Rattle.table_model.specs.Sound.{RunsAreSound}
use Rattle.table_model.specs.declared.phases.LegPhase.{LegPhase}
use Rattle.table_model.specs.declared.phases.LegPhase.TheVariants as leg
use Rattle.settling_laws.proofs.HoldersFade.{leg_passes, passes}
use Rattle.settling_laws.proofs.OneEachRules.{set_itself}
use Rattle.settling_laws.proofs.RuleKeeps.{newcomer_waits}
use Rattle.settling_laws.proofs.SoundRuns.{runs_that_fit, sound_runs}
use Rattle.table_model.specs.declared.holder.Holder.TheVariants.{Leg}

-- ---- the leg

record NewLeg (o : Option LegState) : Type 0 where
  state : LegState
  is : o ≡ Some state
  new : state.phase ≡ leg.New

new_phase : (phase : LegPhase) → is_new phase ≡ true → phase ≡ leg.New
new_phase leg.New e = refl
new_phase leg.Waiting e = cc
new_phase leg.Ready e = cc
new_phase leg.Running e = cc
new_phase leg.Stopping e = cc
new_phase (leg.Ended o) e = cc

new_leg_there : (o : Option LegState) → option_map_or (λ l. is_new l.phase) o false ≡ true → NewLeg o
new_leg_there None e = cc
new_leg_there (Some z) e = record { state = z; is = refl; new = new_phase z.phase e }

module _ (runs : List RunState) (p : LegSite) (new : is_new_at runs p ≡ true) where
  there : NewLeg (leg_at runs p)
  there = new_leg_there (leg_at runs p) new

  pub arriving_waits : waits (with_leg_in leg.Waiting p runs) (Leg p) ≡ true
  arriving_waits = ap (passes (leg_passes leg_waits)) (set_itself runs p there.state there.is (leg_in_phase leg.Waiting))

  pub arriving_sound : RunsAreSound runs → RunsAreSound (with_leg_in leg.Waiting p runs)
  arriving_sound sound =
      sound_runs (with_leg_in leg.Waiting p runs)
      (newcomer_waits runs p there.state (runs_that_fit runs sound) there.is there.new).stay.fit
