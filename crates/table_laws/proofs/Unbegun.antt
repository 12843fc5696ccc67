-- A holder that has not begun: a run without legs, which ends with all its jobs cancelled, or a leg without a lease, which ends as
-- cancelled.
use Rattle.std.specs.Prelude.{◌≡◌, ℕ, zero, suc, List, [], ◌∷◌, ◌++◌, ◌&&◌, length, map, not, replicate, Bool, true, false, Option}
use Rattle.std.specs.Prelude.{Some, None}
use Rattle.std.specs.Prelude.{option_map, option_and_then, slice_get, if◌then◌else◌, refl}
use Rattle.std.specs.Option.{option_map_or}
use Rattle.std.proofs.Common.{ap, inl, inr, sym, ◌∙◌, subst}
use Rattle.std.proofs.lemmas.Bool.{cases_eq, true≢false}
use Rattle.std.proofs.lemmas.Option.{same_Some, slice_get-map}
use Rattle.wf_value.specs.declared.outcome.JobResult.TheVariants as result
use Rattle.wf_value.specs.declared.outcome.Outcome.{Outcome}
use Rattle.wf_value.specs.declared.outcome.Outcome.TheVariants as outcome
use Rattle.definitions.specs.SmallText.{Admitted}
use Rattle.table_model.specs.Runs.{changed_at, job_at, leg_at, run_at, with_job, with_leg, with_run, LegState, JobState, RunState}
use Rattle.table_model.specs.Groups.{holds, leg_holds, leg_waits, run_waits, waits}
use Rattle.table_model.specs.GroupLaw.{Transition, at_each}
use Rattle.table_model.specs.declared.sites.LegSite.{LegSite}
use Rattle.table_model.specs.Settling.{result_at}
use Rattle.table_model.specs.Forgotten.{ForgottenRuns, next_run}
use Rattle.table_model.specs.LegContext.{may_run_in, planned_legs}
use Rattle.table_model.specs.Sound.{LeaseFits, PhaseFits}
use Rattle.table_model.specs.Runs.{is_live, is_open, new_leg, run_in_phase, finished_as}
use Rattle.table_model.specs.Stops.{stop_holder, with_stopped_legs}
use Rattle.table_model.specs.Stops.{cancelled, stopped, stopped_in, stopped_phase, stopped_run, stopped_where, with_stop_requested}
use Rattle.table_model.specs.declared.phases.JobPhase.TheVariants as job
use Rattle.table_model.specs.declared.phases.LegPhase.{LegPhase}
use Rattle.table_model.specs.declared.phases.LegPhase.TheVariants as leg
use Rattle.table_model.specs.declared.phases.RunPhase.{RunPhase}
use Rattle.table_model.specs.declared.phases.RunPhase.TheVariants as run
use Rattle.table_model.proofs.Changed.{came}
use Rattle.table_model.proofs.Found.{before_the_end}
use Rattle.table_model.proofs.JobKeeps.{with_job_of, with_leg_of}
use Rattle.table_model.proofs.JobPhases.{no_legs}
use Rattle.table_model.proofs.LeaseReads.{place_or_another}
use Rattle.table_model.proofs.Optional.{from_and_then}
use Rattle.table_model.proofs.RunFits.{RunsFit, leases_fit}
use Rattle.table_model.proofs.StopKeeps.{get_placed, where_no_legs}
use Rattle.table_model.specs.declared.holder.Holder.{Holder}
use Rattle.table_model.specs.declared.holder.Holder.TheVariants.{Run, Leg}

-- ---- holders that have not begun

pub record RunUnbegun (x : RunState) : Type 0 where
  pub no_legs : (j : ℕ) (y : JobState) → slice_get x.jobs j ≡ Some y → y.legs ≡ []
  pub cancelled : x.phase ≡ run.Ended → (j : ℕ) (y : JobState) → slice_get x.jobs j ≡ Some y → y.phase ≡ job.Finished result.Cancelled

pub record LegUnbegun (z : LegState) : Type 0 where
  pub no_lease : z.lease ≡ None
  pub cancelled : (o : Outcome) → z.phase ≡ leg.Ended o → o ≡ outcome.Cancelled

-- of the element that exists, if there is one
abbrev pub There : {X : Type 0} → (X → Type 0) → Option X → Type 0
There {X} P o = (x : X) → o ≡ Some x → P x

abbrev pub Unbegun : List RunState → Holder → Type 0
Unbegun runs (Run r) = There RunUnbegun (run_at runs r)
Unbegun runs (Leg p) = There LegUnbegun (leg_at runs p)

-- a change keeps each holder that has not begun so, if it holds its group neither before nor after
abbrev pub Still : List RunState → List RunState → Type 0
Still runs next = (h : Holder) → holds runs h ≡ false → holds next h ≡ false → Unbegun runs h → Unbegun next h

-- a change keeps each holder that has not begun so
abbrev pub AllStill : List RunState → List RunState → Type 0
AllStill runs next = (h : Holder) → Unbegun runs h → Unbegun next h

pub still_of_all : (runs next : List RunState) → AllStill runs next → Still runs next
still_of_all runs next all h before now = all h

-- ---- in lists

changed_there : {X : Type 0} (P Q : X → Type 0) (i : ℕ) (f : X → X) (xs : List X) (k : ℕ)
    → ((x : X) → slice_get xs i ≡ Some x → P x → Q (f x)) → ((x : X) → slice_get xs k ≡ Some x → P x → Q x)
    → There P (slice_get xs k) → There Q (slice_get (changed_at i f xs) k)
changed_there {X} P Q i f xs k at others all y e =
    let c = came i f xs k y e in
    elim (c.how) [
      | inl here ↦ subst Q (sym here.1) (at c.old (ap (slice_get xs) (sym here.0) ∙ c.was) (all c.old c.was))
      | inr apart ↦ subst Q (sym apart.1) (others c.old c.was (all c.old c.was))
    ]

mapped_there : {X : Type 0} (P Q : X → Type 0) (f : X → X) (o : Option X) → ((x : X) → o ≡ Some x → P x → Q (f x)) → There P o
    → There Q (option_map f o)
mapped_there P Q f None so all y e = cc
mapped_there P Q f (Some x) so all y e = subst Q (same_Some (f x) y e) (so x refl (all x refl))

through : {X Y : Type 0} (P : Y → Type 0) (f : X → Option Y) (o : Option X) → There P (option_and_then f o) → There (λ x. There P (f x)) o
through P f o all x is y at = all y (ap (option_and_then f) is ∙ at)

back : {X Y : Type 0} (P : Y → Type 0) (f : X → Option Y) (o : Option X) → There (λ x. There P (f x)) o → There P (option_and_then f o)
back P f o all y e =
    let from = from_and_then f o y e in all from.value from.is y from.gives

-- ---- the leg of a job and of a run

abbrev OfJob : ℕ → JobState → Type 0
OfJob l y = There LegUnbegun (slice_get y.legs l)

abbrev OfRun : ℕ → ℕ → RunState → Type 0
OfRun j l x = There (OfJob l) (slice_get x.jobs j)

by_run : (runs : List RunState) (q : LegSite) → Unbegun runs (Leg q) → There (OfRun q.job q.leg) (run_at runs q.run)
by_run runs q all =
    through (OfJob q.leg) (λ (x : RunState). slice_get x.jobs q.job) (run_at runs q.run)
    (through LegUnbegun (λ (y : JobState). slice_get y.legs q.leg) (job_at runs q.run q.job) all)

of_run : (runs : List RunState) (q : LegSite) → There (OfRun q.job q.leg) (run_at runs q.run) → Unbegun runs (Leg q)
of_run runs q all =
    back LegUnbegun (λ (y : JobState). slice_get y.legs q.leg) (job_at runs q.run q.job)
    (back (OfJob q.leg) (λ (x : RunState). slice_get x.jobs q.job) (run_at runs q.run) all)

-- ---- a change of one run

-- the phase of a run that exists
live_there : (runs : List RunState) (r : ℕ) (x : RunState) → run_at runs r ≡ Some x → holds runs (Run r) ≡ is_live x.phase
live_there runs r x at = ap (λ o. option_map_or (λ (v : RunState). is_live v.phase) o false) at

pub record RunStill (runs : List RunState) (r : ℕ) (f : RunState → RunState) : Type 0 where
  pub of_it : (x : RunState) → run_at runs r ≡ Some x → is_live x.phase ≡ false → is_live (f x).phase ≡ false → RunUnbegun x
      → RunUnbegun (f x)
  pub of_legs : (j l : ℕ) (x : RunState) → run_at runs r ≡ Some x → OfRun j l x → OfRun j l (f x)

-- reading the changed run
now_there : (r : ℕ) (f : RunState → RunState) (runs : List RunState) (x : RunState) → run_at runs r ≡ Some x
    → run_at (with_run r f runs) r ≡ Some (f x)
now_there zero f [] x e = cc
now_there zero f (y ∷ ys) x e = ap (λ v. Some (f v)) (same_Some y x e)
now_there (suc r) f [] x e = cc
now_there (suc r) f (y ∷ ys) x e = now_there r f ys x e

pub run_still : (runs : List RunState) (r : ℕ) (f : RunState → RunState) → RunStill runs r f → Still runs (with_run r f runs)
run_still runs r f still (Run s) before now all =
    elim (cases_eq s r) [
      | inl same ↦
          changed_there RunUnbegun RunUnbegun r f runs s
          (λ x at un. still.of_it x at (sym (live_there runs r x at) ∙ ap (λ k. holds runs (Run k)) (sym same) ∙ before)
          (sym (live_there (with_run r f runs) r (f x) (now_there r f runs x at))
          ∙ ap (λ k. holds (with_run r f runs) (Run k)) (sym same) ∙ now) un)
          (λ x at un. un) all
      | inr other ↦ λ y e.
          let c = came r f runs s y e in
          elim (c.how) [
            | inl here ↦ absurd (other here.0)
            | inr apart ↦ subst RunUnbegun (sym apart.1) (all c.old c.was)
          ]
    ]
run_still runs r f still (Leg q) before now all =
    of_run (with_run r f runs) q
    (changed_there (OfRun q.job q.leg) (OfRun q.job q.leg) r f runs q.run (still.of_legs q.job q.leg) (λ x at un. un) (by_run runs q all))

-- without any condition
pub record RunAllStill (f : RunState → RunState) : Type 0 where
  pub of_it : (x : RunState) → RunUnbegun x → RunUnbegun (f x)
  pub of_legs : (j l : ℕ) (x : RunState) → OfRun j l x → OfRun j l (f x)

pub run_all_still : (runs : List RunState) (r : ℕ) (f : RunState → RunState) → RunAllStill f → AllStill runs (with_run r f runs)
run_all_still runs r f still (Run s) all =
    changed_there RunUnbegun RunUnbegun r f runs s (λ x at. still.of_it x) (λ x at un. un) all
run_all_still runs r f still (Leg q) all =
    of_run (with_run r f runs) q
    (changed_there (OfRun q.job q.leg) (OfRun q.job q.leg) r f runs q.run (λ x at. still.of_legs q.job q.leg x) (λ x at un. un)
    (by_run runs q all))

-- a run enters another phase: it is live before or after
pub phase_still : (runs : List RunState) (r : ℕ) (to : RunPhase)
    → ((x : RunState) → run_at runs r ≡ Some x → is_live x.phase ≡ false → is_live to ≡ false → ⊥)
    → Still runs (with_run r (run_in_phase to) runs)
phase_still runs r to never =
    run_still runs r (run_in_phase to)
    (record { of_it = (λ x at before now un. absurd (never x at before now)); of_legs = (λ j l x at all. all) })

-- ---- a change of one job of a live run

pub live_job_still : (runs : List RunState) (r j : ℕ) (f : JobState → JobState)
    → ((x : RunState) → run_at runs r ≡ Some x → is_live x.phase ≡ true) → ((l : ℕ) (y : JobState) → OfJob l y → OfJob l (f y))
    → Still runs (with_job r j f runs)
live_job_still runs r j f live legs =
    run_still runs r (with_job_of j f)
    (record {
      of_it = (λ x at before now un. absurd (true≢false (sym (live x at) ∙ before)));
      of_legs = (λ k l x at all.
          changed_there (OfJob l) (OfJob l) j f x.jobs k (λ y is. legs l y) (λ y is un. un) all);
    })

pub new_leg_unbegun : (n l : ℕ) → There LegUnbegun (slice_get (replicate n new_leg) l)
new_leg_unbegun zero l z e = cc
new_leg_unbegun (suc n) zero z e =
    subst LegUnbegun (same_Some new_leg z e) (record { no_lease = refl; cancelled = (λ o is. cc) })
new_leg_unbegun (suc n) (suc l) z e = new_leg_unbegun n l z e

-- ---- legs are stopped

stopped_unbegun : (phase : LegPhase) (o : Outcome) → ((u : Outcome) → phase ≡ leg.Ended u → u ≡ outcome.Cancelled)
    → stopped_phase phase ≡ leg.Ended o
    → o ≡ outcome.Cancelled
stopped_unbegun leg.New o was e = cc
stopped_unbegun leg.Waiting o was e = cc
stopped_unbegun leg.Ready o was e = cc
stopped_unbegun leg.Running o was e = cc
stopped_unbegun leg.Stopping o was e = cc
stopped_unbegun (leg.Ended r) o was e = was o e

leg_stopped : (z : LegState) → LegUnbegun z → LegUnbegun (stopped z)
leg_stopped z un = record { no_lease = un.no_lease; cancelled = (λ o e. stopped_unbegun z.phase o un.cancelled e) }

legs_stopped : (l : ℕ) (y : JobState) → OfJob l y → OfJob l (with_stopped_legs y)
legs_stopped l y all =
    subst (There LegUnbegun) (sym (slice_get-map stopped y.legs l))
    (mapped_there LegUnbegun LegUnbegun stopped (slice_get y.legs l) (λ z at. leg_stopped z) all)

where_stopped : (b : Bool) (l : ℕ) (y : JobState) → OfJob l y → OfJob l (stopped_where b y)
where_stopped b l y all =
    elim (is_open y.phase && b) as (λ c. OfJob l (if c then with_stopped_legs y else y)) [
      | true ↦ legs_stopped l y all
      | false ↦ all
    ]

-- ---- a run is stopped

told_unbegun : (x : RunState) → x.phase ≡ run.Live → RunUnbegun x → RunUnbegun (with_stop_requested x)
told_unbegun x is un =
    let told = record x { stopping = true } in
    let change : ℕ × JobState → JobState = λ j. stopped_where (not (may_run_in told j.0)) j.1 in
    record {
      no_legs = (λ j.
          subst (There (λ (y : JobState). y.legs ≡ [])) (sym (get_placed change x.jobs j))
          (mapped_there (λ (y : JobState). y.legs ≡ []) (λ (y : JobState). y.legs ≡ []) (λ y. change (j, y)) (slice_get x.jobs j)
          (λ y at. where_no_legs (not (may_run_in told j)) y) (un.no_legs j)));
      cancelled = (λ e. let wrong : run.Live ≡ run.Ended = sym is ∙ e in cc);
    }

cancelled_unbegun : (x : RunState) → RunUnbegun x → RunUnbegun (cancelled x)
cancelled_unbegun x un = record {
  no_legs = (λ j.
      subst (There (λ (y : JobState). y.legs ≡ [])) (sym (slice_get-map (finished_as result.Cancelled) x.jobs j))
      (mapped_there (λ (y : JobState). y.legs ≡ []) (λ (y : JobState). y.legs ≡ []) (finished_as result.Cancelled) (slice_get x.jobs j)
      (λ y at none. none) (un.no_legs j)));
  cancelled = (λ e j.
      subst (There (λ (y : JobState). y.phase ≡ job.Finished result.Cancelled)) (sym (slice_get-map (finished_as result.Cancelled) x.jobs j))
      (mapped_there (λ (y : JobState). y.legs ≡ []) (λ (y : JobState). y.phase ≡ job.Finished result.Cancelled) (finished_as result.Cancelled)
      (slice_get x.jobs j) (λ y at none. refl) (un.no_legs j)));
}

stop_unbegun : (phase : RunPhase) (x : RunState) → x.phase ≡ phase → RunUnbegun x → RunUnbegun (stopped_in phase x)
stop_unbegun run.Waiting x is un = cancelled_unbegun x un
stop_unbegun run.Live x is un =
    elim (x.stopping) as (λ b. RunUnbegun (if b then x else with_stop_requested x)) [
      | true ↦ un
      | false ↦ told_unbegun x is un
    ]
stop_unbegun run.Ended x is un = un

told_legs : (j l : ℕ) (x : RunState) → OfRun j l x → OfRun j l (with_stop_requested x)
told_legs j l x all =
    let told = record x { stopping = true } in
    let change : ℕ × JobState → JobState = λ k. stopped_where (not (may_run_in told k.0)) k.1 in
    subst (There (OfJob l)) (sym (get_placed change x.jobs j))
    (mapped_there (OfJob l) (OfJob l) (λ y. change (j, y)) (slice_get x.jobs j) (λ y at. where_stopped (not (may_run_in told j)) l y) all)

stop_legs : (phase : RunPhase) (j l : ℕ) (x : RunState) → OfRun j l x → OfRun j l (stopped_in phase x)
stop_legs run.Waiting j l x all =
    subst (There (OfJob l)) (sym (slice_get-map (finished_as result.Cancelled) x.jobs j))
    (mapped_there (OfJob l) (OfJob l) (finished_as result.Cancelled) (slice_get x.jobs j) (λ y at un. un) all)
stop_legs run.Live j l x all =
    elim (x.stopping) as (λ b. OfRun j l (if b then x else with_stop_requested x)) [
      | true ↦ all
      | false ↦ told_legs j l x all
    ]
stop_legs run.Ended j l x all = all

-- ---- one leg

-- a run that has not begun, after a change of the legs of a job
legs_changed : (j : ℕ) (f : List LegState → List LegState) → f [] ≡ [] → (x : RunState) → RunUnbegun x
    → RunUnbegun (with_job_of j (λ y. record y { legs = f y.legs }) x)
legs_changed j f none_stay x un =
    let change : JobState → JobState = λ y. record y { legs = f y.legs } in
    record {
      no_legs = (λ k.
          changed_there (λ (y : JobState). y.legs ≡ []) (λ (y : JobState). y.legs ≡ []) j change x.jobs k
          (λ y at none. ap f none ∙ none_stay) (λ y at none. none) (un.no_legs k));
      cancelled = (λ e k.
          changed_there (λ (y : JobState). y.phase ≡ job.Finished result.Cancelled)
          (λ (y : JobState). y.phase ≡ job.Finished result.Cancelled) j change x.jobs k (λ y at is. is) (λ y at is. is) (un.cancelled e k));
    }

-- if the leg at the place remains one that has not begun
pub leg_all_still : (runs : List RunState) (p : LegSite) (f : LegState → LegState) → ((z : LegState) → LegUnbegun z → LegUnbegun (f z))
    → AllStill runs (with_leg p f runs)
leg_all_still runs p f so =
    run_all_still runs p.run (with_job_of p.job (with_leg_of p.leg f))
    (record {
      of_it = legs_changed p.job (changed_at p.leg f) refl;
      of_legs = (λ j l x all.
          changed_there (OfJob l) (OfJob l) p.job (with_leg_of p.leg f) x.jobs j
          (λ y at un. changed_there LegUnbegun LegUnbegun p.leg f y.legs l (λ z is. so z) (λ z is un. un) un) (λ y at un. un) all);
    })

holds_there : (runs : List RunState) (p : LegSite) (z : LegState) → leg_at runs p ≡ Some z
    → holds runs (Leg p) ≡ leg_holds z.phase
holds_there runs p z at = ap (λ o. option_map_or (λ (v : LegState). leg_holds v.phase) o false) at

-- if the leg at the place holds its group before or after
pub leg_still : (runs : List RunState) (p : LegSite) (z : LegState) (f : LegState → LegState) → leg_at runs p ≡ Some z
    → leg_at (with_leg p f runs) p ≡ Some (f z) → ((q : LegSite) → (q ≡ p → ⊥) → leg_at (with_leg p f runs) q ≡ leg_at runs q)
    → (leg_holds z.phase ≡ false → leg_holds (f z).phase ≡ false → ⊥) → Still runs (with_leg p f runs)
leg_still runs p z f was now elsewhere never (Run r) before after all =
    changed_there RunUnbegun RunUnbegun p.run (with_job_of p.job (with_leg_of p.leg f)) runs r
    (λ x at. legs_changed p.job (changed_at p.leg f) refl x) (λ x at un. un) all
leg_still runs p z f was now elsewhere never (Leg q) before after all =
    elim (place_or_another q p) [
      | inl same ↦
          absurd (never (sym (holds_there runs p z was) ∙ ap (λ k. holds runs (Leg k)) (sym same) ∙ before)
          (sym (holds_there (with_leg p f runs) p (f z) now) ∙ ap (λ k. holds (with_leg p f runs) (Leg k)) (sym same) ∙ after))
      | inr other ↦ subst (There LegUnbegun) (sym (elsewhere q other)) all
    ]

-- ---- all legs of a job are stopped

pub legs_all_still : (runs : List RunState) (r j : ℕ) → AllStill runs (with_job r j with_stopped_legs runs)
legs_all_still runs r j =
    run_all_still runs r (with_job_of j with_stopped_legs)
    (record {
      of_it = legs_changed j (map stopped) refl;
      of_legs = (λ k l x all.
          changed_there (OfJob l) (OfJob l) j with_stopped_legs x.jobs k (λ y at. legs_stopped l y) (λ y at un. un) all);
    })

-- ---- a holder is stopped

pub stop_all_still : (h : Holder) (runs : List RunState) → AllStill runs (stop_holder h runs).runs
stop_all_still (Run r) runs =
    run_all_still runs r stopped_run
    (record { of_it = (λ x. stop_unbegun x.phase x refl); of_legs = (λ j l x. stop_legs x.phase j l x) })
stop_all_still (Leg p) runs = leg_all_still runs p stopped leg_stopped

pub each_all_still : (change : Holder → List RunState → Transition) → ((h : Holder) (runs : List RunState) → AllStill runs (change h runs).runs)
    → (hs : List Holder) (runs : List RunState) → AllStill runs (at_each change hs runs).runs
each_all_still change one [] runs h un = un
each_all_still change one (k ∷ hs) runs h un = each_all_still change one hs (change k runs).runs h (one k runs h un)

-- ---- a waiting holder has not begun

run_waits_waiting : (phase : RunPhase) → run_waits phase ≡ true → phase ≡ run.Waiting
run_waits_waiting run.Waiting e = refl
run_waits_waiting run.Live e = cc
run_waits_waiting run.Ended e = cc

leg_waits_waiting : (phase : LegPhase) → leg_waits phase ≡ true → phase ≡ leg.Waiting
leg_waits_waiting leg.New e = cc
leg_waits_waiting leg.Waiting e = refl
leg_waits_waiting leg.Ready e = cc
leg_waits_waiting leg.Running e = cc
leg_waits_waiting leg.Stopping e = cc
leg_waits_waiting (leg.Ended r) e = cc

pub waiting_unbegun : (runs : List RunState) → RunsFit runs → (h : Holder) → waits runs h ≡ true → Unbegun runs h
waiting_unbegun runs fit (Run r) waiting = λ x at.
    let its : run_waits x.phase ≡ true = sym (ap (λ o. option_map_or (λ (v : RunState). run_waits v.phase) o false) at) ∙ waiting in
    let is = run_waits_waiting x.phase its in
    let fits = fit r x at in
    let unopened = subst (λ (phase : RunPhase). PhaseFits phase x.stopping x.jobs) is fits.phase_fits in
    record {
      no_legs = (λ j y there.
          no_legs (planned_legs runs r j) (result_at runs r j y) y.phase y.legs (fits.jobs_fit j y there).legs_fit (unopened.1 j y there));
      cancelled = (λ e. let clash : run.Waiting ≡ run.Ended = sym is ∙ e in cc);
    }
waiting_unbegun runs fit (Leg p) waiting = λ z at.
    let its : leg_waits z.phase ≡ true = sym (ap (λ o. option_map_or (λ (v : LegState). leg_waits v.phase) o false) at) ∙ waiting in
    let is = leg_waits_waiting z.phase its in
    record {
      no_lease = subst (λ (phase : LegPhase). LeaseFits phase z.lease) is (leases_fit runs fit p z at);
      cancelled = (λ o e. let clash : leg.Waiting ≡ leg.Ended o = sym is ∙ e in cc);
    }

-- ---- a new run

pub new_run_still : (forgotten : ForgottenRuns) (runs : List RunState) (event : Admitted) (fit : RunsFit (runs ++ next_run forgotten runs event ∷ []))
    → waits (runs ++ next_run forgotten runs event ∷ []) (Run (length runs)) ≡ true → AllStill runs (runs ++ next_run forgotten runs event ∷ [])
new_run_still forgotten runs event fit waiting (Run r) all =
    elim (cases_eq r (length runs)) [
      | inl same ↦
          subst (λ (k : ℕ). Unbegun (runs ++ next_run forgotten runs event ∷ []) (Run k)) (sym same)
          (waiting_unbegun (runs ++ next_run forgotten runs event ∷ []) fit (Run (length runs)) waiting)
      | inr other ↦ subst (There RunUnbegun) (sym (before_the_end runs (next_run forgotten runs event) r other)) all
    ]
new_run_still forgotten runs event fit waiting (Leg q) all =
    let next = runs ++ next_run forgotten runs event ∷ [] in
    of_run next q
    (elim (cases_eq q.run (length runs)) [
      | inl same ↦ λ x at y is z e.
          let no_legs = (waiting_unbegun next fit (Run (length runs)) waiting x (ap (run_at next) (sym same)
          ∙ at)).no_legs q.job y is in
          let past : slice_get [] q.leg ≡ Some z = subst (λ (ls : List LegState). slice_get ls q.leg ≡ Some z) no_legs e in cc
      | inr other ↦ subst (There (OfRun q.job q.leg)) (sym (before_the_end runs (next_run forgotten runs event) q.run other)) (by_run runs q all)
    ])
