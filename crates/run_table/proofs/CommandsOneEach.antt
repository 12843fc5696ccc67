-- A command's change of legs and runs preserves that a group has at most one holder pending and at most one in progress.
use Rattle.std.specs.Prelude.{◌≡◌, ℕ, List, true, false, Some, None, if◌then◌else◌, refl}
use Rattle.std.specs.Option.{option_map_or}
use Rattle.std.proofs.Common.{ap, inl, inr, ◌∙◌}
use Rattle.std.proofs.lemmas.Bool.{false≢true}
use Rattle.wf_value.specs.declared.outcome.Outcome.{Outcome}
use Rattle.table_model.specs.Fitting.{first_fit, site_of_lease}
use Rattle.table_model.specs.Groups.{HasOneEach, holds, leg_holds}
use Rattle.table_model.specs.Runs.{leased_leg, with_job, with_leg, with_run, RunState, leg_has_ended, leg_in_phase}
use Rattle.table_model.specs.declared.sites.LegSite.{LegSite}
use Rattle.table_model.specs.Stops.{with_ended, after_end, stopped_run, stops_others, with_stopped_legs}
use Rattle.table_model.specs.declared.phases.LegPhase.{LegPhase}
use Rattle.table_model.specs.declared.phases.LegPhase.TheVariants as leg
use Rattle.run_table.proofs.ClaimKeeps.{fitting_leg}
use Rattle.table_model.proofs.JobKeeps.{leg_in, leg_stays}
use Rattle.table_model.proofs.RunFits.{RunsFit}
use Rattle.table_model.proofs.Settles.{StayFit}
use Rattle.settling_laws.proofs.HoldersFade.{leg_fades, leg_passes, legs_stop_fades, passes, run_stop_fades, waits_before_leg}
use Rattle.settling_laws.proofs.HoldersKeep.{run_stop_settles}
use Rattle.settling_laws.proofs.OneEach.{Fades, fades_not, fades_on, fading_keeps, groups_stay}
use Rattle.settling_laws.proofs.OneEachRules.{set_holds}
use Rattle.table_model.specs.declared.holder.Holder.TheVariants.{Leg}

-- ---- a leg is leased: it held its group already

module _ (runs : List RunState) (fit : RunsFit runs) (labels : List (List ℕ)) (p : LegSite) (lease : ℕ)
    (fits : first_fit labels runs ≡ Some p) where
  ready_held : holds runs (Leg p) ≡ true
  ready_held =
      let ready = fitting_leg labels runs p fits in
      ap (passes (leg_passes leg_holds)) ready.is ∙ ap leg_holds ready.ready

  pub leased_fades : Fades runs (with_leg p (λ _. leased_leg lease) runs)
  leased_fades =
      let ready = fitting_leg labels runs p fits in
      record {
        waited = waits_before_leg (λ _. leased_leg lease) p runs (λ z e. absurd (false≢true e));
        held = (λ h e.
            elim (set_holds runs p ready.leg_of ready.is (λ _. leased_leg lease) h e) [
              | inl same ↦ ap (holds runs) same ∙ ready_held
              | inr before ↦ before
            ]);
      }

  pub leased_one_each : HasOneEach runs → HasOneEach (with_leg p (λ _. leased_leg lease) runs)
  leased_one_each each =
      let ready = fitting_leg labels runs p fits in
      let z = ready.leg_of in
      let unended : leg_has_ended z ≡ false = ap (λ (phase : LegPhase). leg_has_ended (record z { phase = phase })) ready.ready in
      let next = with_leg p (λ _. leased_leg lease) runs in
      fading_keeps runs next
      (groups_stay runs next fit (leg_stays runs fit p z (λ _. leased_leg lease) (leg_in runs p z ready.is) unended refl)) leased_fades each

-- ---- a leg ends

after_end_fades : (p : LegSite) (o : Outcome) (runs : List RunState) → Fades runs (after_end p o runs)
after_end_fades p o runs =
    let ended = with_leg p (leg_in_phase (leg.Ended o)) runs in
    let first = leg_fades (leg_in_phase (leg.Ended o)) p runs (λ z e. absurd (false≢true e)) (λ z e. absurd (false≢true e)) in
    elim (stops_others runs p o) as (λ b. Fades runs (if b then with_job p.run p.job with_stopped_legs ended else ended)) [
      | true ↦ fades_on runs ended (with_job p.run p.job with_stopped_legs ended) first (legs_stop_fades p.run p.job ended)
      | false ↦ first
    ]

with_ended_fades : (lease : ℕ) (o : Outcome) (runs : List RunState) → Fades runs (with_ended lease o runs)
with_ended_fades lease o runs =
    elim (site_of_lease runs lease) as (λ place. Fades runs (option_map_or (λ p. after_end p o runs) place runs)) [
      | None ↦ fades_not runs
      | Some p ↦ after_end_fades p o runs
    ]

pub ended_one_each : (lease : ℕ) (o : Outcome) (runs : List RunState) → RunsFit runs → StayFit runs (with_ended lease o runs)
    → HasOneEach runs → HasOneEach (with_ended lease o runs)
ended_one_each lease o runs fit stay each =
    fading_keeps runs (with_ended lease o runs) (groups_stay runs (with_ended lease o runs) fit stay) (with_ended_fades lease o runs) each

-- ---- a run is stopped

pub stopped_one_each : (r : ℕ) (runs : List RunState) → RunsFit runs → HasOneEach runs → HasOneEach (with_run r stopped_run runs)
stopped_one_each r runs fit each =
    let next = with_run r stopped_run runs in
    fading_keeps runs next (groups_stay runs next fit (run_stop_settles runs r fit).stay) (run_stop_fades r runs) each
