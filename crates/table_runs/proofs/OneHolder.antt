-- The changes by which one holder begins or ends.
use Rattle.std.specs.Prelude.{◌≡◌, ℕ, List, Bool, true, false, Option, None, Some, is_some, option_map, slice_get, refl}
use Rattle.std.specs.List.{list_all}
use Rattle.std.specs.Option.{option_map_or}
use Rattle.std.proofs.Common.{ap, subst, sym, ◌∙◌}
use Rattle.std.proofs.lemmas.Bool.{true≢false}
use Rattle.group_book.proofs.Exact.{pick}
use Rattle.std.proofs.lemmas.Option.{same_Some, slice_get-map}
use Rattle.wf_value.specs.declared.outcome.JobResult.TheVariants as result
use Rattle.table_model.specs.Groups.{holds, leg_holds, leg_waits, may_start, run_waits, waits}
use Rattle.table_model.specs.Runs.{leg_at, run_at, with_leg, with_run, JobState, LegState, RunState}
use Rattle.table_model.specs.Sound.{PhaseFits, RunsAreSound}
use Rattle.table_model.specs.Runs.{is_live, is_new, is_finished, leg_in_phase, run_in_phase, finished_as}
use Rattle.table_model.specs.Stops.{cancelled, stopped, stopped_in, stopped_phase, stopped_run}
use Rattle.table_model.specs.declared.holder.Holder.{Holder}
use Rattle.table_model.specs.declared.holder.Holder.TheVariants.{Run, Leg}
use Rattle.table_model.specs.declared.phases.LegPhase.{LegPhase}
use Rattle.table_model.specs.declared.phases.LegPhase.TheVariants as leg
use Rattle.table_model.specs.declared.phases.RunPhase.{RunPhase}
use Rattle.table_model.specs.declared.phases.RunPhase.TheVariants as run
use Rattle.table_model.specs.declared.sites.LegSite.{LegSite}
use Rattle.table_model.proofs.Changed.{at_another, at_changed}
use Rattle.table_model.proofs.JobKeeps.{leg_in, leg_now, with_job_of, with_leg_of}
use Rattle.table_model.proofs.Optional.{each_passes}
use Rattle.table_model.proofs.Settles.{StayFit}
use Rattle.table_model.proofs.Transitions.{changed_same}
use Rattle.settling_laws.proofs.HoldersFade.{Weakens, by_run, job_passes, leg_passes, passed_map, passes, run_passes}
use Rattle.settling_laws.proofs.HoldersKeep.{leg_stop_settles, run_stop_settles}
use Rattle.settling_laws.proofs.RuleKeeps.{leg_goes, phase_settles, waiting_starts}
use Rattle.settling_laws.proofs.SoundRuns.{runs_that_fit}
use Rattle.table_runs.specs.inner.GroupsKept.{is_unopened}
use Rattle.table_runs.specs.inner.HolderChanges.{ChangesNobody, EndsOnly, StartsOnly, StaysAs}
use Rattle.table_runs.proofs.HoldersThere.{tells, there_if_holds, there_if_waits}
use Rattle.table_runs.proofs.OneChange.{AddsNothing, any_phase, leg_adds, leg_others, phase_adds, phase_others, same_holders, same_reading}

-- ---- a run or a leg in a phase

pub record RunIn (runs : List RunState) (r : ℕ) (phase : RunPhase) : Type 0 where
  pub state : RunState
  pub there : run_at runs r ≡ Some state
  pub is : state.phase ≡ phase

pub record LegIs (runs : List RunState) (p : LegSite) (phase : LegPhase) : Type 0 where
  pub state : LegState
  pub there : leg_at runs p ≡ Some state
  pub is : state.phase ≡ phase

waiting_phase : (phase : RunPhase) → run_waits phase ≡ true → phase ≡ run.Waiting
waiting_phase run.Waiting e = refl
waiting_phase run.Live e = cc
waiting_phase run.Ended e = cc

waiting_leg : (phase : LegPhase) → leg_waits phase ≡ true → phase ≡ leg.Waiting
waiting_leg leg.New e = cc
waiting_leg leg.Waiting e = refl
waiting_leg leg.Ready e = cc
waiting_leg leg.Running e = cc
waiting_leg leg.Stopping e = cc
waiting_leg (leg.Ended o) e = cc

pub run_that_waits : (runs : List RunState) (r : ℕ) → waits runs (Run r) ≡ true → RunIn runs r run.Waiting
run_that_waits runs r e = by (run_at runs r) refl e
  where
    by : (o : Option RunState) → run_at runs r ≡ o → option_map_or (λ (x : RunState). run_waits x.phase) o false ≡ true → RunIn runs r run.Waiting
    by None at e = cc
    by (Some x) at e = record { state = x; there = at; is = waiting_phase x.phase e }

pub leg_that_waits : (runs : List RunState) (p : LegSite) → waits runs (Leg p) ≡ true → LegIs runs p leg.Waiting
leg_that_waits runs p e = by (leg_at runs p) refl e
  where
    by : (o : Option LegState) → leg_at runs p ≡ o → option_map_or (λ (x : LegState). leg_waits x.phase) o false ≡ true → LegIs runs p leg.Waiting
    by None at e = cc
    by (Some x) at e = record { state = x; there = at; is = waiting_leg x.phase e }

-- ---- what the run or the leg that changes is afterwards

run_after : (runs : List RunState) (r : ℕ) (f : RunState → RunState) (x : RunState) → run_at runs r ≡ Some x
    → run_at (with_run r f runs) r ≡ Some (f x)
run_after runs r f x at = at_changed r f runs ∙ ap (option_map f) at

run_test : (runs : List RunState) (r : ℕ) (f : RunState → RunState) (x : RunState) (test : RunState → Bool) → run_at runs r ≡ Some x
    → option_map_or test (run_at (with_run r f runs) r) false ≡ test (f x)
run_test runs r f x test at = ap (λ o. option_map_or test o false) (run_after runs r f x at)

leg_test : (runs : List RunState) (p : LegSite) (f : LegState → LegState) (z : LegState) (test : LegState → Bool) → leg_at runs p ≡ Some z
    → option_map_or test (leg_at (with_leg p f runs) p) false ≡ test (f z)
leg_test runs p f z test at = ap (λ o. option_map_or test o false) (leg_now runs p z f (leg_in runs p z at))

-- ---- a run begins, and ends

pub run_starts : (runs : List RunState) (r : ℕ) → RunsAreSound runs → waits runs (Run r) ≡ true → may_start runs (Run r) ≡ true
    → StartsOnly (Run r) runs (with_run r (run_in_phase run.Live) runs)
run_starts runs r sound waiting may =
    let fit = runs_that_fit runs sound in
    let x = run_that_waits runs r waiting in
    let f = run_in_phase run.Live in
    record {
      same = same_holders runs r f fit (phase_settles runs r x.state run.Live fit x.there tt).stay (phase_adds run.Live);
      waited = waiting;
      may = may;
      waits_not = run_test runs r f x.state (λ (y : RunState). run_waits y.phase) x.there;
      holds_now = run_test runs r f x.state (λ (y : RunState). is_live y.phase) x.there;
      others = phase_others runs r run.Live;
    }

pub run_ends : (runs : List RunState) (r : ℕ) (x : RunState) → RunsAreSound runs → run_at runs r ≡ Some x → x.phase ≡ run.Live
    → list_all is_finished x.jobs ≡ true → EndsOnly (Run r) runs (with_run r (run_in_phase run.Ended) runs)
run_ends runs r x sound at live all =
    let fit = runs_that_fit runs sound in
    let f = run_in_phase run.Ended in
    let held : holds runs (Run r) ≡ true = ap (λ o. option_map_or (λ (y : RunState). is_live y.phase) o false) at ∙ ap is_live live in
    let fits : PhaseFits run.Ended x.stopping x.jobs = λ j y here. each_passes is_finished x.jobs j y all here in
    record {
      same = same_holders runs r f fit (phase_settles runs r x run.Ended fit at fits).stay (phase_adds run.Ended);
      there = there_if_holds runs (Run r) held;
      waits_not = run_test runs r f x (λ (y : RunState). run_waits y.phase) at;
      holds_not = run_test runs r f x (λ (y : RunState). is_live y.phase) at;
      others = phase_others runs r run.Ended;
    }

-- ---- a leg begins

pub leg_starts : (runs : List RunState) (p : LegSite) → RunsAreSound runs → waits runs (Leg p) ≡ true → may_start runs (Leg p) ≡ true
    → StartsOnly (Leg p) runs (with_leg p (leg_in_phase leg.Ready) runs)
leg_starts runs p sound waiting may =
    let fit = runs_that_fit runs sound in
    let z = leg_that_waits runs p waiting in
    let f : LegState → LegState = leg_in_phase leg.Ready in
    record {
      same = same_holders runs p.run (with_job_of p.job (with_leg_of p.leg f)) fit
          (leg_goes runs p z.state leg.Ready fit z.there (waiting_starts z.state.phase z.state.lease z.is (sound.leases_fit p z.state z.there))).stay
          (leg_adds f p.job p.leg (λ y e. cc));
      waited = waiting;
      may = may;
      waits_not = leg_test runs p f z.state (λ (y : LegState). leg_waits y.phase) z.there;
      holds_now = leg_test runs p f z.state (λ (y : LegState). leg_holds y.phase) z.there;
      others = leg_others runs p z.state f z.there;
    }

-- ---- a leg that fits in its new phase, which is not one of those that wait or hold, ends

pub leg_ends : (runs : List RunState) (p : LegSite) (z : LegState) (f : LegState → LegState) → RunsAreSound runs → leg_at runs p ≡ Some z
    → StayFit runs (with_leg p f runs) → leg_waits (f z).phase ≡ false → leg_holds (f z).phase ≡ false → Weakens (leg_passes is_new) f
    → EndsOnly (Leg p) runs (with_leg p f runs)
leg_ends runs p z f sound at stay waits_not holds_not weak = record {
  same = same_holders runs p.run (with_job_of p.job (with_leg_of p.leg f)) (runs_that_fit runs sound) stay (leg_adds f p.job p.leg weak);
  there = ap (λ (o : Option LegState). is_some o) at;
  waits_not = leg_test runs p f z (λ (y : LegState). leg_waits y.phase) at ∙ waits_not;
  holds_not = leg_test runs p f z (λ (y : LegState). leg_holds y.phase) at ∙ holds_not;
  others = leg_others runs p z f at;
}

-- ---- a leg changes and waits and holds as before

pub leg_within : (runs : List RunState) (p : LegSite) (z : LegState) (f : LegState → LegState) → RunsAreSound runs → leg_at runs p ≡ Some z
    → StayFit runs (with_leg p f runs) → leg_waits (f z).phase ≡ leg_waits z.phase → leg_holds (f z).phase ≡ leg_holds z.phase
    → Weakens (leg_passes is_new) f → ChangesNobody runs (with_leg p f runs)
leg_within runs p z f sound at stay waits_same holds_same weak = record {
  same = same_holders runs p.run (with_job_of p.job (with_leg_of p.leg f)) (runs_that_fit runs sound) stay (leg_adds f p.job p.leg weak);
  stay = (λ h.
      pick tells h (Leg p) (StaysAs runs (with_leg p f runs) h)
      (λ is. subst (StaysAs runs (with_leg p f runs)) (sym is) (record {
        waits = leg_test runs p f z (λ (y : LegState). leg_waits y.phase) at ∙ waits_same
            ∙ sym (ap (λ o. option_map_or (λ (y : LegState). leg_waits y.phase) o false) at);
        holds = leg_test runs p f z (λ (y : LegState). leg_holds y.phase) at ∙ holds_same
            ∙ sym (ap (λ o. option_map_or (λ (y : LegState). leg_holds y.phase) o false) at);
      }))
      (leg_others runs p z f at h));
}

-- ---- a waiting run is cancelled

cancelled_legs : (test : LegPhase → Bool) (j l : ℕ) (x : RunState) → run_passes test j l (cancelled x) ≡ run_passes test j l x
cancelled_legs test j l x = ap (passes (job_passes test l)) (slice_get-map (finished_as result.Cancelled) x.jobs j) ∙ by (slice_get x.jobs j)
  where
    by : (o : Option JobState) → passes (job_passes test l) (option_map (finished_as result.Cancelled) o) ≡ passes (job_passes test l) o
    by None = refl
    by (Some y) = refl

cancelled_adds : AddsNothing cancelled
cancelled_adds = record {
  legs = (λ j l x e. sym (cancelled_legs any_phase j l x) ∙ e);
  new_legs = (λ j l x e. sym (cancelled_legs is_new j l x) ∙ e);
  blocked = (λ j x e. passed_map is_unopened (finished_as result.Cancelled) (λ y now. absurd (true≢false (sym now))) x.jobs j e);
}

cancelled_others : (runs : List RunState) (r : ℕ) (h : Holder) → (h ≡ Run r → ⊥) → StaysAs runs (with_run r cancelled runs) h
cancelled_others runs r (Run s) other =
    let same = at_another r cancelled runs s (λ e. other (ap Run e)) in
    record {
      waits = ap (λ o. option_map_or (λ (x : RunState). run_waits x.phase) o false) same;
      holds = ap (λ o. option_map_or (λ (x : RunState). is_live x.phase) o false) same;
    }
cancelled_others runs r (Leg q) other =
    let next = with_run r cancelled runs in
    record {
      waits = by_run leg_waits next q
          ∙ same_reading (run_passes leg_waits q.job q.leg) false cancelled (cancelled_legs leg_waits q.job q.leg) r runs q.run
          ∙ sym (by_run leg_waits runs q);
      holds = by_run leg_holds next q
          ∙ same_reading (run_passes leg_holds q.job q.leg) false cancelled (cancelled_legs leg_holds q.job q.leg) r runs q.run
          ∙ sym (by_run leg_holds runs q);
    }

-- a stop of a waiting run cancels it
pub stop_cancels : (runs : List RunState) (r : ℕ) (x : RunState) → run_at runs r ≡ Some x → x.phase ≡ run.Waiting
    → with_run r stopped_run runs ≡ with_run r cancelled runs
stop_cancels runs r x at waiting =
    changed_same runs r stopped_run cancelled
    (λ y here. ap (λ (phase : RunPhase). stopped_in phase y) (ap (λ (z : RunState). z.phase) (same_Some y x (sym here ∙ at)) ∙ waiting))

pub run_is_cancelled : (runs : List RunState) (r : ℕ) → RunsAreSound runs → waits runs (Run r) ≡ true
    → EndsOnly (Run r) runs (with_run r cancelled runs)
run_is_cancelled runs r sound waiting =
    let fit = runs_that_fit runs sound in
    let x = run_that_waits runs r waiting in
    let stay : StayFit runs (with_run r cancelled runs) =
    subst (StayFit runs) (stop_cancels runs r x.state x.there x.is) (run_stop_settles runs r fit).stay in
    record {
      same = same_holders runs r cancelled fit stay cancelled_adds;
      there = there_if_waits runs (Run r) waiting;
      waits_not = run_test runs r cancelled x.state (λ (y : RunState). run_waits y.phase) x.there;
      holds_not = run_test runs r cancelled x.state (λ (y : RunState). is_live y.phase) x.there;
      others = cancelled_others runs r;
    }

-- ---- a leg is stopped

stopped_not_new : (phase : LegPhase) → is_new (stopped_phase phase) ≡ true → is_new phase ≡ true
stopped_not_new leg.New e = refl
stopped_not_new leg.Waiting e = cc
stopped_not_new leg.Ready e = cc
stopped_not_new leg.Running e = cc
stopped_not_new leg.Stopping e = cc
stopped_not_new (leg.Ended o) e = cc

pub leg_is_stopped : (runs : List RunState) (p : LegSite) (z : LegState) → RunsAreSound runs → leg_at runs p ≡ Some z
    → leg_waits (stopped_phase z.phase) ≡ false → leg_holds (stopped_phase z.phase) ≡ false → EndsOnly (Leg p) runs (with_leg p stopped runs)
leg_is_stopped runs p z sound at waits_not holds_not =
    leg_ends runs p z stopped sound at (leg_stop_settles runs p (runs_that_fit runs sound)).stay waits_not holds_not
    (λ y e. stopped_not_new y.phase e)
