-- A holder that waits is cancelled: that is what its stop does.
use Rattle.std.specs.Prelude.{◌≡◌, ℕ, List, true, Option, None}
use Rattle.std.proofs.Common.{ap, sym, ◌∙◌}
use Rattle.table_model.specs.Groups.{waits}
use Rattle.table_model.specs.Runs.{with_leg, with_run, LegState, RunState, leg_in_phase, new_leg}
use Rattle.table_model.specs.Sound.{LeaseFits, RunsAreSound}
use Rattle.table_model.specs.Stops.{cancelled, stopped, stopped_phase, stopped_run}
use Rattle.table_model.specs.declared.holder.Holder.TheVariants.{Leg, Run}
use Rattle.table_model.specs.declared.phases.LegPhase.{LegPhase}
use Rattle.table_model.specs.declared.phases.LegPhase.TheVariants as leg
use Rattle.table_model.specs.declared.sites.LegSite.{LegSite}
use Rattle.wf_value.specs.declared.outcome.Outcome.TheVariants as outcome
use Rattle.table_runs.proofs.OneChange.{leg_written}
use Rattle.table_runs.proofs.OneHolder.{leg_that_waits, run_that_waits, stop_cancels}

pub run_cancelled : (runs : List RunState) (r : ℕ) → waits runs (Run r) ≡ true → with_run r cancelled runs ≡ with_run r stopped_run runs
run_cancelled runs r waiting = let x = run_that_waits runs r waiting in sym (stop_cancels runs r x.state x.there x.is)

no_lease : (phase : LegPhase) (lease : Option ℕ) → phase ≡ leg.Waiting → LeaseFits phase lease → lease ≡ None
no_lease leg.New lease e fits = cc
no_lease leg.Waiting lease e fits = fits
no_lease leg.Ready lease e fits = cc
no_lease leg.Running lease e fits = cc
no_lease leg.Stopping lease e fits = cc
no_lease (leg.Ended o) lease e fits = cc

pub leg_cancelled : (runs : List RunState) (p : LegSite) (fresh ended : LegState) → RunsAreSound runs → waits runs (Leg p) ≡ true
    → fresh ≡ new_leg → ended ≡ leg_in_phase (leg.Ended outcome.Cancelled) fresh → with_leg p (λ _. ended) runs ≡ with_leg p stopped runs
leg_cancelled runs p fresh ended sound waiting is_new is_ended =
    let z = leg_that_waits runs p waiting in
    let lease : z.state.lease ≡ None = no_lease z.state.phase z.state.lease z.is (sound.leases_fit p z.state z.there) in
    leg_written runs p z.state ended stopped z.there
    (is_ended ∙ ap (leg_in_phase (leg.Ended outcome.Cancelled)) is_new
    ∙ sym (ap (λ (l : Option ℕ). record { phase = stopped_phase z.state.phase; lease = l }) lease
    ∙ ap (λ (phase : LegPhase). record { phase = stopped_phase phase; lease = None }) z.is))
