-- A leg on which a runner is at work ends, and a leg that holds its group is given to a runner.
use Rattle.std.specs.Prelude.{◌≡◌, ◌<◌, ℕ, List, length, true, false, Option, Some, is_some, refl}
use Rattle.std.specs.Option.{option_map_or}
use Rattle.std.proofs.Common.{ap, sym, ◌∙◌}
use Rattle.std.proofs.lemmas.Bool.{true≢false}
use Rattle.wf_value.specs.declared.outcome.Outcome.{Outcome}
use Rattle.wf_value.specs.declared.outcome.Outcome.TheVariants as outcome
use Rattle.table_model.specs.Groups.{holds, leg_holds, leg_waits}
use Rattle.table_model.specs.Runs.{leased_leg, leg_at, with_leg, LegState, RunState, leg_in_phase, outcome_of}
use Rattle.table_model.specs.Fitting.{is_at_work}
use Rattle.table_model.specs.Sound.{LeaseFits, RunsAreSound}
use Rattle.table_model.specs.declared.holder.Holder.TheVariants.{Leg}
use Rattle.table_model.specs.declared.phases.LegPhase.{LegPhase}
use Rattle.table_model.specs.declared.phases.LegPhase.TheVariants as leg
use Rattle.table_model.specs.declared.sites.LegSite.{LegSite}
use Rattle.table_model.proofs.JobKeeps.{leg_in, leg_stays}
use Rattle.table_model.proofs.Optional.{some_of}
use Rattle.table_model.proofs.Settles.{StayFit}
use Rattle.settling_laws.proofs.SoundRuns.{runs_that_fit, sound_runs}
use Rattle.table_runs.specs.inner.HolderChanges.{ChangesNobody, EndsOnly}
use Rattle.table_runs.proofs.HoldersThere.{there_if_holds, within_there}
use Rattle.table_runs.proofs.OneHolder.{leg_ends, leg_within}

-- it has not ended, and it has a lease, with which it ends
not_ended : (phase : LegPhase) → is_at_work phase ≡ true → is_some (outcome_of phase) ≡ false
not_ended leg.New e = absurd (true≢false (sym e))
not_ended leg.Waiting e = absurd (true≢false (sym e))
not_ended leg.Ready e = absurd (true≢false (sym e))
not_ended leg.Running e = refl
not_ended leg.Stopping e = refl
not_ended (leg.Ended r) e = absurd (true≢false (sym e))

ends_with_lease : (o : Outcome) (phase : LegPhase) (lease : Option ℕ) → is_at_work phase ≡ true → LeaseFits phase lease → LeaseFits (leg.Ended o) lease
ends_with_lease outcome.Success leg.New lease e fits = absurd (true≢false (sym e))
ends_with_lease outcome.Success leg.Waiting lease e fits = absurd (true≢false (sym e))
ends_with_lease outcome.Success leg.Ready lease e fits = absurd (true≢false (sym e))
ends_with_lease outcome.Success leg.Running lease e fits = fits
ends_with_lease outcome.Success leg.Stopping lease e fits = fits
ends_with_lease outcome.Success (leg.Ended r) lease e fits = absurd (true≢false (sym e))
ends_with_lease outcome.Failure leg.New lease e fits = absurd (true≢false (sym e))
ends_with_lease outcome.Failure leg.Waiting lease e fits = absurd (true≢false (sym e))
ends_with_lease outcome.Failure leg.Ready lease e fits = absurd (true≢false (sym e))
ends_with_lease outcome.Failure leg.Running lease e fits = fits
ends_with_lease outcome.Failure leg.Stopping lease e fits = fits
ends_with_lease outcome.Failure (leg.Ended r) lease e fits = absurd (true≢false (sym e))
ends_with_lease outcome.Cancelled phase lease e fits = tt

held_not_ended : (phase : LegPhase) → leg_holds phase ≡ true → is_some (outcome_of phase) ≡ false
held_not_ended leg.New e = absurd (true≢false (sym e))
held_not_ended leg.Waiting e = absurd (true≢false (sym e))
held_not_ended leg.Ready e = refl
held_not_ended leg.Running e = refl
held_not_ended leg.Stopping e = refl
held_not_ended (leg.Ended r) e = absurd (true≢false (sym e))

held_waits_not : (phase : LegPhase) → leg_holds phase ≡ true → leg_waits phase ≡ false
held_waits_not leg.New e = refl
held_waits_not leg.Waiting e = absurd (true≢false (sym e))
held_waits_not leg.Ready e = refl
held_waits_not leg.Running e = refl
held_waits_not leg.Stopping e = refl
held_waits_not (leg.Ended r) e = refl

module _ (runs : List RunState) (p : LegSite) (z : LegState) (o : Outcome) (sound : RunsAreSound runs) (at : leg_at runs p ≡ Some z)
    (work : is_at_work z.phase ≡ true) where
  stays : StayFit runs (with_leg p (leg_in_phase (leg.Ended o)) runs)
  stays =
      leg_stays runs (runs_that_fit runs sound) p z (leg_in_phase (leg.Ended o)) (leg_in runs p z at) (not_ended z.phase work)
      (ends_with_lease o z.phase z.lease work (sound.leases_fit p z at))

  pub leg_end_sound : RunsAreSound (with_leg p (leg_in_phase (leg.Ended o)) runs)
  leg_end_sound = sound_runs (with_leg p (leg_in_phase (leg.Ended o)) runs) stays.fit

  pub leg_end : EndsOnly (Leg p) runs (with_leg p (leg_in_phase (leg.Ended o)) runs)
  leg_end = leg_ends runs p z (leg_in_phase (leg.Ended o)) sound at stays refl refl (λ y e. absurd (true≢false (sym e)))

-- ---- a leg is given to a runner

module _ (runs : List RunState) (p : LegSite) (lease : ℕ) (sound : RunsAreSound runs) (holding : holds runs (Leg p) ≡ true) where
  held_leg : (z : LegState) × (leg_at runs p ≡ Some z)
  held_leg = some_of (leg_at runs p) (there_if_holds runs (Leg p) holding)

  its_phase : leg_holds (held_leg.0).phase ≡ true
  its_phase = sym (ap (λ o. option_map_or (λ (z : LegState). leg_holds z.phase) o false) held_leg.1) ∙ holding

  pub leg_is_leased : ChangesNobody runs (with_leg p (λ _. leased_leg lease) runs)
  leg_is_leased =
      let z = held_leg.0 in
      let f : LegState → LegState = λ _. leased_leg lease in
      leg_within runs p z f sound held_leg.1
      (leg_stays runs (runs_that_fit runs sound) p z f (leg_in runs p z held_leg.1) (held_not_ended z.phase its_phase) refl)
      (sym (held_waits_not z.phase its_phase)) (sym its_phase) (λ y e. absurd (true≢false (sym e)))

  pub leased_within : p.run < length runs
  leased_within = within_there runs (Leg p) (there_if_holds runs (Leg p) holding)
