-- Which holders wait or hold after a change of runs: only those that did before, and the one that the change makes active.
use Rattle.std.specs.Prelude.{◌≡◌, ℕ, zero, suc, List, [], ◌∷◌, ◌&&◌, map, not, Bool, true, false, Option, Some, None, option_map}
use Rattle.std.specs.Prelude.{option_and_then, slice_get, if◌then◌else◌, refl}
use Rattle.std.specs.Option.{option_map_or}
use Rattle.std.proofs.Common.{ap, sym, ◌∙◌}
use Rattle.std.proofs.lemmas.Bool.{false≢true}
use Rattle.std.proofs.lemmas.Option.{slice_get-map}
use Rattle.wf_value.specs.declared.outcome.JobResult.TheVariants as result
use Rattle.table_model.specs.Runs.{changed_at, placed, job_at, leg_at, run_at, with_job, with_leg, with_run, LegState, JobState, RunState}
use Rattle.table_model.specs.Groups.{holds, leg_holds, leg_waits, run_waits, waits}
use Rattle.table_model.specs.GroupLaw.{Transition, at_each}
use Rattle.table_model.specs.declared.sites.LegSite.{LegSite}
use Rattle.table_model.specs.LegContext.{may_run_in}
use Rattle.table_model.specs.Runs.{is_live, is_open, finished_as}
use Rattle.table_model.specs.Stops.{stop_holder, with_stopped_legs}
use Rattle.table_model.specs.Stops.{cancelled, stopped, stopped_in, stopped_phase, stopped_run, stopped_where, with_stop_requested}
use Rattle.table_model.specs.declared.phases.LegPhase.{LegPhase}
use Rattle.table_model.specs.declared.phases.LegPhase.TheVariants as leg
use Rattle.table_model.specs.declared.phases.RunPhase.{RunPhase}
use Rattle.table_model.specs.declared.phases.RunPhase.TheVariants as run
use Rattle.table_model.proofs.JobKeeps.{with_job_of, with_leg_of}
use Rattle.table_model.proofs.StopKeeps.{get_placed}
use Rattle.settling_laws.proofs.OneEach.{Fades, fades_not, fades_on}
use Rattle.table_model.specs.declared.holder.Holder.{Holder}
use Rattle.table_model.specs.declared.holder.Holder.TheVariants.{Run, Leg}

-- ---- a test of the element at an index, before and after a change

-- whether there is an element and it passes
abbrev pub passes : {X : Type 0} → (X → Bool) → Option X → Bool
passes test o = option_map_or test o false

-- an element that passes after a change passed before it
abbrev pub Weakens : {X : Type 0} → (X → Bool) → (X → X) → Type 0
Weakens {X} test f = (x : X) → test (f x) ≡ true → test x ≡ true

passed_mapped : {X : Type 0} (test : X → Bool) (f : X → X) → Weakens test f → (o : Option X)
    → passes test (option_map f o) ≡ true → passes test o ≡ true
passed_mapped test f weak None e = e
passed_mapped test f weak (Some x) e = weak x e

pub passed_map : {X : Type 0} (test : X → Bool) (f : X → X) → Weakens test f → (xs : List X) (k : ℕ)
    → passes test (slice_get (map f xs) k) ≡ true → passes test (slice_get xs k) ≡ true
passed_map test f weak xs k e = passed_mapped test f weak (slice_get xs k) (ap (passes test) (sym (slice_get-map f xs k)) ∙ e)

pub passed_placed : {X : Type 0} (test : X → Bool) (f : ℕ × X → X) → ((k : ℕ) → Weakens test (λ x. f (k, x))) → (xs : List X) (k : ℕ)
    → passes test (slice_get (map f (placed xs)) k) ≡ true → passes test (slice_get xs k) ≡ true
passed_placed test f weak xs k e =
    passed_mapped test (λ x. f (k, x)) (weak k) (slice_get xs k) (ap (passes test) (sym (get_placed f xs k)) ∙ e)

pub passed_changed : {X : Type 0} (test : X → Bool) (f : X → X) → Weakens test f → (i : ℕ) (xs : List X) (k : ℕ)
    → passes test (slice_get (changed_at i f xs) k) ≡ true → passes test (slice_get xs k) ≡ true
passed_changed test f weak i [] k e = e
passed_changed test f weak zero (x ∷ xs) zero e = weak x e
passed_changed test f weak zero (x ∷ xs) (suc k) e = e
passed_changed test f weak (suc i) (x ∷ xs) zero e = e
passed_changed test f weak (suc i) (x ∷ xs) (suc k) e = passed_changed test f weak i xs k e

-- ---- a test of the phase of a leg, by its job and by its run

abbrev pub leg_passes : (LegPhase → Bool) → LegState → Bool
leg_passes test z = test z.phase

abbrev pub job_passes : (LegPhase → Bool) → ℕ → JobState → Bool
job_passes test l y = passes (leg_passes test) (slice_get y.legs l)

abbrev pub run_passes : (LegPhase → Bool) → ℕ → ℕ → RunState → Bool
run_passes test j l x = passes (job_passes test l) (slice_get x.jobs j)

through : {X Y : Type 0} (test : Y → Bool) (f : X → Option Y) (o : Option X)
    → passes test (option_and_then f o) ≡ passes (λ x. passes test (f x)) o
through test f None = refl
through test f (Some x) = refl

pub by_run : (test : LegPhase → Bool) (runs : List RunState) (p : LegSite)
    → passes (leg_passes test) (leg_at runs p) ≡ passes (run_passes test p.job p.leg) (run_at runs p.run)
by_run test runs p =
    through (leg_passes test) (λ (y : JobState). slice_get y.legs p.leg) (job_at runs p.run p.job)
    ∙ through (job_passes test p.leg) (λ (x : RunState). slice_get x.jobs p.job) (run_at runs p.run)

-- ---- a change of one run after which the run and each of its legs wait or hold only if they did before

pub record RunFades (f : RunState → RunState) : Type 0 where
  pub run_waited : Weakens (λ x. run_waits x.phase) f
  pub run_held : Weakens (λ x. is_live x.phase) f
  pub leg_waited : (j l : ℕ) → Weakens (run_passes leg_waits j l) f
  pub leg_held : (j l : ℕ) → Weakens (run_passes leg_holds j l) f

pub leg_before : (test : LegPhase → Bool) (f : RunState → RunState) (r : ℕ) (runs : List RunState) (p : LegSite)
    → Weakens (run_passes test p.job p.leg) f → passes (leg_passes test) (leg_at (with_run r f runs) p) ≡ true
    → passes (leg_passes test) (leg_at runs p) ≡ true
leg_before test f r runs p weak e =
    by_run test runs p ∙ passed_changed (run_passes test p.job p.leg) f weak r runs p.run (sym (by_run test (with_run r f runs) p) ∙ e)

waited_before : (f : RunState → RunState) (r : ℕ) (runs : List RunState) → RunFades f → (h : Holder) → waits (with_run r f runs) h ≡ true
    → waits runs h ≡ true
waited_before f r runs fades (Run s) e = passed_changed (λ x. run_waits x.phase) f fades.run_waited r runs s e
waited_before f r runs fades (Leg p) e = leg_before leg_waits f r runs p (fades.leg_waited p.job p.leg) e

held_before : (f : RunState → RunState) (r : ℕ) (runs : List RunState) → RunFades f → (h : Holder) → holds (with_run r f runs) h ≡ true
    → holds runs h ≡ true
held_before f r runs fades (Run s) e = passed_changed (λ x. is_live x.phase) f fades.run_held r runs s e
held_before f r runs fades (Leg p) e = leg_before leg_holds f r runs p (fades.leg_held p.job p.leg) e

pub run_fades : (f : RunState → RunState) (r : ℕ) (runs : List RunState) → RunFades f → Fades runs (with_run r f runs)
run_fades f r runs fades = record { waited = waited_before f r runs fades; held = held_before f r runs fades }

-- ---- a change of one job

pub record JobFades (f : JobState → JobState) : Type 0 where
  pub waited : (l : ℕ) → Weakens (job_passes leg_waits l) f
  pub held : (l : ℕ) → Weakens (job_passes leg_holds l) f

pub job_fades : (f : JobState → JobState) (r j : ℕ) (runs : List RunState) → JobFades f → Fades runs (with_job r j f runs)
job_fades f r j runs fades =
    run_fades (with_job_of j f) r runs
    (record {
      run_waited = (λ x e. e);
      run_held = (λ x e. e);
      leg_waited = (λ i l x e. passed_changed (job_passes leg_waits l) f (fades.waited l) j x.jobs i e);
      leg_held = (λ i l x e. passed_changed (job_passes leg_holds l) f (fades.held l) j x.jobs i e);
    })

pub leg_fades : (f : LegState → LegState) (p : LegSite) (runs : List RunState) → Weakens (leg_passes leg_waits) f
    → Weakens (leg_passes leg_holds) f → Fades runs (with_leg p f runs)
leg_fades f p runs waited held =
    job_fades (with_leg_of p.leg f) p.run p.job runs
    (record {
      waited = (λ l y e. passed_changed (leg_passes leg_waits) f waited p.leg y.legs l e);
      held = (λ l y e. passed_changed (leg_passes leg_holds) f held p.leg y.legs l e);
    })

-- ---- which holders wait or hold after a change of one leg

pub leg_change_weakens : (test : LegPhase → Bool) (f : LegState → LegState) → Weakens (leg_passes test) f → (j l i k : ℕ)
    → Weakens (run_passes test i k) (with_job_of j (with_leg_of l f))
leg_change_weakens test f weak j l i k x e =
    passed_changed (job_passes test k) (with_leg_of l f) (λ y now. passed_changed (leg_passes test) f weak l y.legs k now) j x.jobs i e

-- the tests of a run itself are unchanged
pub run_waited_still : (f : LegState → LegState) (p : LegSite) (runs : List RunState) (s : ℕ)
    → waits (with_leg p f runs) (Run s) ≡ true → waits runs (Run s) ≡ true
run_waited_still f p runs s e =
    passed_changed (λ x. run_waits x.phase) (with_job_of p.job (with_leg_of p.leg f)) (λ x now. now) p.run runs s e

pub run_held_still : (f : LegState → LegState) (p : LegSite) (runs : List RunState) (s : ℕ)
    → holds (with_leg p f runs) (Run s) ≡ true → holds runs (Run s) ≡ true
run_held_still f p runs s e =
    passed_changed (λ x. is_live x.phase) (with_job_of p.job (with_leg_of p.leg f)) (λ x now. now) p.run runs s e

pub waits_before_leg : (f : LegState → LegState) (p : LegSite) (runs : List RunState) → Weakens (leg_passes leg_waits) f → (h : Holder)
    → waits (with_leg p f runs) h ≡ true → waits runs h ≡ true
waits_before_leg f p runs weak (Run s) e = run_waited_still f p runs s e
waits_before_leg f p runs weak (Leg q) e =
    leg_before leg_waits (with_job_of p.job (with_leg_of p.leg f)) p.run runs q
    (leg_change_weakens leg_waits f weak p.job p.leg q.job q.leg) e

pub holds_before_leg : (f : LegState → LegState) (p : LegSite) (runs : List RunState) → Weakens (leg_passes leg_holds) f → (h : Holder)
    → holds (with_leg p f runs) h ≡ true → holds runs h ≡ true
holds_before_leg f p runs weak (Run s) e = run_held_still f p runs s e
holds_before_leg f p runs weak (Leg q) e =
    leg_before leg_holds (with_job_of p.job (with_leg_of p.leg f)) p.run runs q
    (leg_change_weakens leg_holds f weak p.job p.leg q.job q.leg) e

-- ---- stops

stopped_waited : (phase : LegPhase) → leg_waits (stopped_phase phase) ≡ true → leg_waits phase ≡ true
stopped_waited leg.New e = cc
stopped_waited leg.Waiting e = refl
stopped_waited leg.Ready e = cc
stopped_waited leg.Running e = cc
stopped_waited leg.Stopping e = cc
stopped_waited (leg.Ended r) e = cc

stopped_held : (phase : LegPhase) → leg_holds (stopped_phase phase) ≡ true → leg_holds phase ≡ true
stopped_held leg.New e = cc
stopped_held leg.Waiting e = cc
stopped_held leg.Ready e = refl
stopped_held leg.Running e = refl
stopped_held leg.Stopping e = refl
stopped_held (leg.Ended r) e = cc

pub leg_stop_fades : (p : LegSite) (runs : List RunState) → Fades runs (with_leg p stopped runs)
leg_stop_fades p runs = leg_fades stopped p runs (λ z e. stopped_waited z.phase e) (λ z e. stopped_held z.phase e)

pub legs_weaken : (test : LegPhase → Bool) → Weakens (leg_passes test) stopped → (l : ℕ) → Weakens (job_passes test l) with_stopped_legs
legs_weaken test weak l y e = passed_map (leg_passes test) stopped weak y.legs l e

pub legs_stop_fades : (r j : ℕ) (runs : List RunState) → Fades runs (with_job r j with_stopped_legs runs)
legs_stop_fades r j runs =
    job_fades with_stopped_legs r j runs
    (record {
      waited = (λ l y e. legs_weaken leg_waits (λ z. stopped_waited z.phase) l y e);
      held = (λ l y e. legs_weaken leg_holds (λ z. stopped_held z.phase) l y e);
    })

where_weakens : (test : LegPhase → Bool) → Weakens (leg_passes test) stopped → (l : ℕ) (b : Bool)
    → Weakens (job_passes test l) (stopped_where b)
where_weakens test weak l b y e =
    elim (is_open y.phase && b) as
    (λ c. job_passes test l (if c then with_stopped_legs y else y) ≡ true → job_passes test l y ≡ true) [
      | true ↦ λ now. legs_weaken test weak l y now
      | false ↦ λ now. now
    ] e

told_weakens : (test : LegPhase → Bool) → Weakens (leg_passes test) stopped → (j l : ℕ) → Weakens (run_passes test j l) with_stop_requested
told_weakens test weak j l x e =
    let leg_facts = record x { stopping = true } in
    passed_placed (job_passes test l) (λ (k : ℕ × JobState). stopped_where (not (may_run_in leg_facts k.0)) k.1)
    (λ k. where_weakens test weak l (not (may_run_in leg_facts k))) x.jobs j e

cancelled_weakens : (test : LegPhase → Bool) (j l : ℕ) → Weakens (run_passes test j l) cancelled
cancelled_weakens test j l x e = passed_map (job_passes test l) (finished_as result.Cancelled) (λ y now. now) x.jobs j e

pub stop_weakens : (test : LegPhase → Bool) → Weakens (leg_passes test) stopped → (j l : ℕ) (phase : RunPhase)
    → Weakens (run_passes test j l) (stopped_in phase)
stop_weakens test weak j l run.Waiting x e = cancelled_weakens test j l x e
stop_weakens test weak j l run.Live x e =
    elim (x.stopping) as (λ b. run_passes test j l (if b then x else with_stop_requested x) ≡ true → run_passes test j l x ≡ true) [
      | true ↦ λ now. now
      | false ↦ λ now. told_weakens test weak j l x now
    ] e
stop_weakens test weak j l run.Ended x e = e

-- the phase of a run after a stop
phase_of_stopped : (phase : RunPhase) (test : RunPhase → Bool) → test run.Ended ≡ false → (x : RunState)
    → test (stopped_in phase x).phase ≡ true → test x.phase ≡ true
phase_of_stopped run.Waiting test not_ended x e = absurd (false≢true (sym not_ended ∙ e))
phase_of_stopped run.Live test not_ended x e =
    elim (x.stopping) as (λ b. test (if b then x else with_stop_requested x).phase ≡ true → test x.phase ≡ true) [
      | true ↦ λ now. now
      | false ↦ λ now. now
    ] e
phase_of_stopped run.Ended test not_ended x e = e

pub run_stop_fades : (r : ℕ) (runs : List RunState) → Fades runs (with_run r stopped_run runs)
run_stop_fades r runs =
    run_fades stopped_run r runs
    (record {
      run_waited = (λ x e. phase_of_stopped x.phase run_waits refl x e);
      run_held = (λ x e. phase_of_stopped x.phase is_live refl x e);
      leg_waited = (λ j l x e. stop_weakens leg_waits (λ z. stopped_waited z.phase) j l x.phase x e);
      leg_held = (λ j l x e. stop_weakens leg_holds (λ z. stopped_held z.phase) j l x.phase x e);
    })

-- ---- one holder, and one after another

pub holder_stop_fades : (h : Holder) (runs : List RunState) → Fades runs (stop_holder h runs).runs
holder_stop_fades (Run r) runs = run_stop_fades r runs
holder_stop_fades (Leg p) runs = leg_stop_fades p runs

pub each_fades : (change : Holder → List RunState → Transition) → ((h : Holder) (runs : List RunState) → Fades runs (change h runs).runs)
    → (hs : List Holder) (runs : List RunState) → Fades runs (at_each change hs runs).runs
each_fades change one [] runs = fades_not runs
each_fades change one (h ∷ hs) runs =
    fades_on runs (change h runs).runs (at_each change hs (change h runs).runs).runs (one h runs)
    (each_fades change one hs (change h runs).runs)

-- ---- a stopped holder does not wait any more

stopped_waits_not : (phase : LegPhase) → leg_waits (stopped_phase phase) ≡ false
stopped_waits_not leg.New = refl
stopped_waits_not leg.Waiting = refl
stopped_waits_not leg.Ready = refl
stopped_waits_not leg.Running = refl
stopped_waits_not leg.Stopping = refl
stopped_waits_not (leg.Ended r) = refl

run_waits_not : (phase : RunPhase) (x : RunState) → x.phase ≡ phase → run_waits (stopped_in phase x).phase ≡ false
run_waits_not run.Waiting x e = refl
run_waits_not run.Live x e =
    elim (x.stopping) as (λ b. run_waits (if b then x else with_stop_requested x).phase ≡ false) [
      | true ↦ ap run_waits e
      | false ↦ ap run_waits e
    ]
run_waits_not run.Ended x e = ap run_waits e

-- a change after which the element at its index does not pass
fails_changed : {X : Type 0} (test : X → Bool) (f : X → X) → ((x : X) → test (f x) ≡ false) → (i : ℕ) (xs : List X)
    → passes test (slice_get (changed_at i f xs) i) ≡ false
fails_changed test f fails i [] = refl
fails_changed test f fails zero (x ∷ xs) = fails x
fails_changed test f fails (suc i) (x ∷ xs) = fails_changed test f fails i xs

pub stop_ends_waiting : (h : Holder) (runs : List RunState) → waits (stop_holder h runs).runs h ≡ false
stop_ends_waiting (Run r) runs =
    fails_changed (λ x. run_waits x.phase) stopped_run (λ x. run_waits_not x.phase x refl) r runs
stop_ends_waiting (Leg p) runs =
    by_run leg_waits (with_leg p stopped runs) p
    ∙ fails_changed (run_passes leg_waits p.job p.leg) (with_job_of p.job (with_leg_of p.leg stopped))
    (λ x. fails_changed (job_passes leg_waits p.leg) (with_leg_of p.leg stopped)
    (λ y. fails_changed (leg_passes leg_waits) stopped (λ z. stopped_waits_not z.phase) p.leg y.legs) p.job x.jobs) p.run runs
