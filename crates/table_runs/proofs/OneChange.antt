-- A change of one run that fits: which runs and legs are there after it, and who waits for a group and holds one.
use Rattle.std.specs.Prelude.{◌≡◌, ◌&&◌, ℕ, zero, suc, List, [], ◌∷◌, nat_eq, Bool, true, false, Option, None, Some, is_some, option_and_then, slice_get, refl}
use Rattle.std.specs.Option.{option_map_or}
use Rattle.std.proofs.Common.{ap, sym, ◌∙◌}
use Rattle.std.proofs.lemmas.Bool.{true≢false}
use Rattle.table_model.specs.Runs.{changed_at, leg_at, run_at, with_leg, with_run, LegState, RunState}
use Rattle.table_model.specs.Groups.{cancels_in_progress, run_cancels, holds, leg_holds, leg_waits, run_waits, waits}
use Rattle.table_model.specs.Runs.{is_blocked, is_live, is_new, run_in_phase, finished_as}
use Rattle.table_model.specs.declared.holder.Holder.{Holder}
use Rattle.table_model.specs.declared.holder.Holder.TheVariants.{Run, Leg}
use Rattle.table_model.specs.declared.phases.LegPhase.{LegPhase}
use Rattle.table_model.specs.declared.phases.RunPhase.{RunPhase}
use Rattle.table_model.specs.declared.sites.LegSite.{LegSite}
use Rattle.table_model.proofs.Changed.{at_another, length-changed_at}
use Rattle.table_model.proofs.JobKeeps.{leg_elsewhere, leg_in, with_job_of, with_leg_of}
use Rattle.table_model.proofs.RunFits.{RunsFit}
use Rattle.table_model.proofs.Settles.{StayFit}
use Rattle.table_model.proofs.Transitions.{with_leg_read}
use Rattle.settling_laws.proofs.GroupStays.{leg_cancels_stays, run_facts_stay}
use Rattle.settling_laws.proofs.HoldersFade.{Weakens, by_run, leg_before, leg_change_weakens, leg_passes, job_passes, passed_changed, passes, run_passes}
use Rattle.settling_laws.proofs.OneEach.{IsOneOf, groups_stay}
use Rattle.wf_value.specs.declared.outcome.JobResult.{JobResult}
use Rattle.table_runs.specs.inner.GroupsKept.{is_blocked_at, is_there, is_unopened}
use Rattle.table_runs.specs.inner.HolderChanges.{ChangesNobody, SameHolders, StaysAs}
use Rattle.table_runs.proofs.HoldersThere.{one_of}

-- ---- a reading that stays the same in the element that changes stays the same at each index

pub same_reading : {X Y : Type 0} (test : X → Y) (d : Y) (f : X → X) → ((x : X) → test (f x) ≡ test x) → (i : ℕ) (xs : List X) (k : ℕ)
    → option_map_or test (slice_get (changed_at i f xs) k) d ≡ option_map_or test (slice_get xs k) d
same_reading test d f same i [] k = refl
same_reading test d f same zero (x ∷ xs) zero = same x
same_reading test d f same zero (x ∷ xs) (suc k) = refl
same_reading test d f same (suc i) (x ∷ xs) zero = refl
same_reading test d f same (suc i) (x ∷ xs) (suc k) = same_reading test d f same i xs k

-- ---- who is there

abbrev pub any_phase : LegPhase → Bool
any_phase phase = true

abbrev pub blocked_in : ℕ → RunState → Bool
blocked_in j x = option_map_or is_unopened (slice_get x.jobs j) false

pub some_is : {X : Type 0} (o : Option X) → is_some o ≡ passes (λ (x : X). true) o
some_is None = refl
some_is (Some x) = refl

leg_is_there : (o : Option LegState) → is_some o ≡ passes (leg_passes any_phase) o
leg_is_there None = refl
leg_is_there (Some x) = refl

pub blocked_by_run : (runs : List RunState) (r j : ℕ) → is_blocked_at runs r j ≡ passes (blocked_in j) (run_at runs r)
blocked_by_run runs r j = by (run_at runs r)
  where
    by : (o : Option RunState)
        → option_map_or is_unopened (option_and_then (λ (x : RunState). slice_get x.jobs j) o) false
        ≡ passes (blocked_in j) o
    by None = refl
    by (Some x) = refl

-- no leg comes, none becomes new, and no job becomes blocked
pub record AddsNothing (f : RunState → RunState) : Type 0 where
  pub legs : (j l : ℕ) → Weakens (run_passes any_phase j l) f
  pub new_legs : (j l : ℕ) → Weakens (run_passes is_new j l) f
  pub blocked : (j : ℕ) → Weakens (blocked_in j) f

there_before : (runs : List RunState) (r : ℕ) (f : RunState → RunState) → AddsNothing f → (h : Holder)
    → is_there (with_run r f runs) h ≡ true → is_there runs h ≡ true
there_before runs r f adds (Run s) e =
    some_is (run_at runs s)
    ∙ passed_changed (λ (x : RunState). true) f (λ x is. refl) r runs s (sym (some_is (run_at (with_run r f runs) s)) ∙ e)
there_before runs r f adds (Leg p) e =
    leg_is_there (leg_at runs p)
    ∙ leg_before any_phase f r runs p (adds.legs p.job p.leg) (sym (leg_is_there (leg_at (with_run r f runs) p)) ∙ e)

pub cancels_stay : (runs next : List RunState) → RunsFit runs → StayFit runs next → (h : Holder) → IsOneOf runs h
    → cancels_in_progress next h ≡ cancels_in_progress runs h
unfolding cancels_in_progress
cancels_stay runs next fit stay (Run r) there =
    ap (λ o. option_map_or run_cancels o false) (run_facts_stay runs next r (stay.same_identity r) (stay.same_attempt r))
cancels_stay runs next fit stay (Leg p) there = leg_cancels_stays runs next fit stay p there.0 there.1

pub same_holders : (runs : List RunState) (r : ℕ) (f : RunState → RunState) → RunsFit runs → StayFit runs (with_run r f runs) → AddsNothing f
    → SameHolders runs (with_run r f runs)
same_holders runs r f fit stay adds =
    let next = with_run r f runs in
    record {
      there = there_before runs r f adds;
      group = (λ h there. groups_stay runs next fit stay h (one_of runs h there));
      cancels = (λ h there. cancels_stay runs next fit stay h (one_of runs h there));
      new_legs = (λ p e. leg_before is_new f r runs p (adds.new_legs p.job p.leg) e);
      blocked = (λ s j e.
          blocked_by_run runs s j
          ∙ passed_changed (blocked_in j) f (adds.blocked j) r runs s (sym (blocked_by_run next s j) ∙ e));
    }

-- ---- a leg is set

-- one that was read is written back as another
pub leg_written : (runs : List RunState) (p : LegSite) (z new : LegState) (f : LegState → LegState) → leg_at runs p ≡ Some z → new ≡ f z
    → with_leg p (λ _. new) runs ≡ with_leg p f runs
leg_written runs p z new f at is = ap (λ (x : LegState). with_leg p (λ _. x) runs) is ∙ with_leg_read runs p z f at

pub leg_adds : (f : LegState → LegState) (j l : ℕ) → Weakens (leg_passes is_new) f → AddsNothing (with_job_of j (with_leg_of l f))
leg_adds f j l weak = record {
  legs = (λ i k. leg_change_weakens any_phase f (λ z e. refl) j l i k);
  new_legs = (λ i k. leg_change_weakens is_new f weak j l i k);
  blocked = (λ i x e.
      passed_changed is_unopened (with_leg_of l f)
      (λ y now. sym (ap (λ n. is_blocked y.phase && nat_eq n 0) (length-changed_at l f y.legs)) ∙ now) j x.jobs i e);
}

module _ (runs : List RunState) (p : LegSite) (z : LegState) (f : LegState → LegState) (was : leg_at runs p ≡ Some z) where
  pub leg_others : (h : Holder) → (h ≡ Leg p → ⊥) → StaysAs runs (with_leg p f runs) h
  leg_others (Run s) other = record {
    waits = same_reading (λ (x : RunState). run_waits x.phase) false (with_job_of p.job (with_leg_of p.leg f)) (λ x. refl) p.run runs s;
    holds = same_reading (λ (x : RunState). is_live x.phase) false (with_job_of p.job (with_leg_of p.leg f)) (λ x. refl) p.run runs s;
  }
  leg_others (Leg q) other =
      let same = leg_elsewhere runs p z f (leg_in runs p z was) q (λ e. other (ap Leg e)) in
      record {
        waits = ap (λ o. option_map_or (λ (x : LegState). leg_waits x.phase) o false) same;
        holds = ap (λ o. option_map_or (λ (x : LegState). leg_holds x.phase) o false) same;
      }

-- ---- a run enters a phase

pub phase_adds : (to : RunPhase) → AddsNothing (run_in_phase to)
phase_adds to = record { legs = (λ j l x e. e); new_legs = (λ j l x e. e); blocked = (λ j x e. e) }

pub phase_others : (runs : List RunState) (r : ℕ) (to : RunPhase) (h : Holder) → (h ≡ Run r → ⊥)
    → StaysAs runs (with_run r (run_in_phase to) runs) h
phase_others runs r to (Run s) other =
    let same = at_another r (run_in_phase to) runs s (λ e. other (ap Run e)) in
    record {
      waits = ap (λ o. option_map_or (λ (x : RunState). run_waits x.phase) o false) same;
      holds = ap (λ o. option_map_or (λ (x : RunState). is_live x.phase) o false) same;
    }
phase_others runs r to (Leg q) other =
    let next = with_run r (run_in_phase to) runs in
    record {
      waits = by_run leg_waits next q
          ∙ same_reading (run_passes leg_waits q.job q.leg) false (run_in_phase to) (λ x. refl) r runs q.run ∙ sym (by_run leg_waits runs q);
      holds = by_run leg_holds next q
          ∙ same_reading (run_passes leg_holds q.job q.leg) false (run_in_phase to) (λ x. refl) r runs q.run ∙ sym (by_run leg_holds runs q);
    }

-- ---- a change after which the run and its legs are in the same phases

pub record KeepsPhases (f : RunState → RunState) : Type 0 where
  pub run : (x : RunState) → (f x).phase ≡ x.phase
  pub legs : (test : LegPhase → Bool) (j l : ℕ) (x : RunState) → run_passes test j l (f x) ≡ run_passes test j l x

module _ (runs : List RunState) (r : ℕ) (f : RunState → RunState) (keeps : KeepsPhases f) where
  all_stay : (h : Holder) → StaysAs runs (with_run r f runs) h
  all_stay (Run s) = record {
    waits = same_reading (λ (x : RunState). run_waits x.phase) false f (λ x. ap run_waits (keeps.run x)) r runs s;
    holds = same_reading (λ (x : RunState). is_live x.phase) false f (λ x. ap is_live (keeps.run x)) r runs s;
  }
  all_stay (Leg q) = record {
    waits = by_run leg_waits (with_run r f runs) q
        ∙ same_reading (run_passes leg_waits q.job q.leg) false f (keeps.legs leg_waits q.job q.leg) r runs q.run
        ∙ sym (by_run leg_waits runs q);
    holds = by_run leg_holds (with_run r f runs) q
        ∙ same_reading (run_passes leg_holds q.job q.leg) false f (keeps.legs leg_holds q.job q.leg) r runs q.run
        ∙ sym (by_run leg_holds runs q);
  }

  pub changes_nobody : RunsFit runs → StayFit runs (with_run r f runs) → AddsNothing f → ChangesNobody runs (with_run r f runs)
  changes_nobody fit stay adds = record { same = same_holders runs r f fit stay adds; stay = all_stay }

-- a job finishes
pub settled_adds : (settled : JobResult) (j : ℕ) → AddsNothing (with_job_of j (finished_as settled))
settled_adds settled j = record {
  legs = (λ i l x e. passed_changed (job_passes any_phase l) (finished_as settled) (λ y now. now) j x.jobs i e);
  new_legs = (λ i l x e. passed_changed (job_passes is_new l) (finished_as settled) (λ y now. now) j x.jobs i e);
  blocked = (λ i x e. passed_changed is_unopened (finished_as settled) (λ y now. absurd (true≢false (sym now))) j x.jobs i e);
}

pub settled_keeps : (settled : JobResult) (j : ℕ) → KeepsPhases (with_job_of j (finished_as settled))
settled_keeps settled j = record {
  run = (λ x. refl);
  legs = (λ test i l x. same_reading (job_passes test l) false (finished_as settled) (λ y. refl) j x.jobs i);
}

-- a run is asked to stop
abbrev pub asked : RunState → RunState
asked x = record x { stopping = true }

pub asked_adds : AddsNothing asked
asked_adds = record { legs = (λ j l x e. e); new_legs = (λ j l x e. e); blocked = (λ j x e. e) }

pub asked_keeps : KeepsPhases asked
asked_keeps = record { run = (λ x. refl); legs = (λ test j l x. refl) }
