-- An arrival that stops the holders found one by one: in a group at most one other holder is pending, and at most one is in progress.
use Rattle.std.specs.Prelude.{◌≡◌, ℕ, zero, suc, List, [], ◌∷◌, filter, find, ◌&&◌, not, Bool, true, false, is_some, Some}
use Rattle.std.specs.Prelude.{if◌then◌else◌, refl}
use Rattle.std.specs.List.{AllByRecursion}
use Rattle.std.specs.Option.{option_map_or}
use Rattle.std.proofs.Common.{ap, sym, ◌∙◌}
use Rattle.std.proofs.lemmas.Bool.{and_parts, true≢false}
use Rattle.group_name.specs.Group.{Group}
use Rattle.table_model.specs.Settling.{arrived, displaced, in_progress_stopped, room_made, stopped_where_requested}
use Rattle.table_model.specs.Runs.{changed_at, LegState, JobState, RunState, leg_in_phase}
use Rattle.table_model.specs.Groups.{cancels_in_progress, group_at, HasOneBeside, all_holders, is_pending_in, is_in_progress_in, waits}
use Rattle.table_model.specs.GroupLaw.{same_holder, Transition, at_each, without_moves}
use Rattle.table_model.specs.inner.Holders.{first_conflicting}
use Rattle.table_model.specs.Sound.{RunsAreSound}
use Rattle.table_model.specs.Stops.{displace, stop_holder, stopped, stopped_in, stopped_phase, stopped_run, with_stop_requested}
use Rattle.table_model.specs.declared.holder.HolderFilter.{HolderFilter}
use Rattle.table_model.specs.declared.holder.HolderFilter.TheVariants.{OthersPending, InProgress}
use Rattle.table_model.specs.declared.phases.LegPhase.{LegPhase}
use Rattle.table_model.specs.declared.phases.LegPhase.TheVariants as leg
use Rattle.table_model.specs.declared.phases.RunPhase.{RunPhase}
use Rattle.table_model.specs.declared.phases.RunPhase.TheVariants as run
use Rattle.table_model.proofs.Optional.{some_of}
use Rattle.table_model.proofs.RunFits.{RunsFit, runs_fit}
use Rattle.settling_laws.proofs.ArrivalKeeps.{displaced_one_each, itself, still_its}
use Rattle.table_model.specs.declared.holder.Holder.{Holder}
use Rattle.table_model.specs.declared.holder.Holder.TheVariants.{Run, Leg}

-- ---- stopping twice is the same as stopping once

changed_twice : {X : Type 0} (i : ℕ) (f : X → X) (xs : List X) → ((x : X) → f (f x) ≡ f x)
    → changed_at i f (changed_at i f xs) ≡ changed_at i f xs
changed_twice i f [] same = refl
changed_twice zero f (x ∷ xs) same = ap (λ y. y ∷ xs) (same x)
changed_twice (suc i) f (x ∷ xs) same = ap (λ ys. x ∷ ys) (changed_twice i f xs same)

phase_twice : (phase : LegPhase) → stopped_phase (stopped_phase phase) ≡ stopped_phase phase
phase_twice leg.New = refl
phase_twice leg.Waiting = refl
phase_twice leg.Ready = refl
phase_twice leg.Running = refl
phase_twice leg.Stopping = refl
phase_twice (leg.Ended r) = refl

leg_twice : (z : LegState) → stopped (stopped z) ≡ stopped z
leg_twice z = ap (λ (phase : LegPhase). leg_in_phase phase z) (phase_twice z.phase)

live_twice : (x : RunState) (b : Bool) → x.phase ≡ run.Live → x.stopping ≡ b
    → stopped_run (if b then x else with_stop_requested x) ≡ (if b then x else with_stop_requested x)
live_twice x true live is = ap (λ phase. stopped_in phase x) live ∙ ap (λ b. if b then x else with_stop_requested x) is
live_twice x false live is = ap (λ phase. stopped_in phase (with_stop_requested x)) live

run_twice : (x : RunState) (phase : RunPhase) → x.phase ≡ phase → stopped_run (stopped_in phase x) ≡ stopped_in phase x
run_twice x run.Waiting is = refl
run_twice x run.Live is = live_twice x x.stopping is refl
run_twice x run.Ended is = ap (λ phase. stopped_in phase x) is

stopped_twice : (h : Holder) (runs : List RunState) → (stop_holder h (stop_holder h runs).runs).runs ≡ (stop_holder h runs).runs
stopped_twice (Run r) runs = changed_twice r stopped_run runs (λ x. run_twice x x.phase refl)
stopped_twice (Leg p) runs =
    let in_job : JobState → JobState = λ job. record job { legs = changed_at p.leg stopped job.legs } in
    let in_run : RunState → RunState = λ run. record run { jobs = changed_at p.job in_job run.jobs } in
    changed_twice p.run in_run runs
    (λ run. ap (λ jobs. record run { jobs = jobs })
    (changed_twice p.job in_job run.jobs
    (λ job. ap (λ legs. record job { legs = legs }) (changed_twice p.leg stopped job.legs leg_twice))))

-- ---- if at most one element passes a test, a change at all that pass is a change at the first that does

module _ (change : Holder → List RunState → Transition)
    (twice : (h : Holder) (runs : List RunState) → (change h (change h runs).runs).runs ≡ (change h runs).runs) where
  at_one : (h : Holder) (hs : List Holder) (runs : List RunState) → AllByRecursion (λ k. k ≡ h) hs
      → (at_each change (h ∷ hs) runs).runs ≡ (change h runs).runs
  at_one h [] runs all = refl
  at_one h (k ∷ hs) runs all =
      ap (λ i. (at_each change (i ∷ hs) (change h runs).runs).runs) all.0
      ∙ at_one h hs (change h runs).runs all.1
      ∙ twice h runs

  module _ (test : Holder → Bool) (one : (h k : Holder) → test h ≡ true → test k ≡ true → h ≡ k) where
    all_that_one : (h : Holder) → test h ≡ true → (hs : List Holder) → AllByRecursion (λ k. k ≡ h) (filter test hs)
    all_that_one h is [] = tt
    all_that_one h is (k ∷ hs) =
        elim (test k) as (λ b. test k ≡ b → AllByRecursion (λ i. i ≡ h) (if b then k ∷ filter test hs else filter test hs)) [
          | true ↦ λ passes. (one k h passes is, all_that_one h is hs)
          | false ↦ λ passes. all_that_one h is hs
        ] refl

    pub at_the_first : (hs : List Holder) (runs : List RunState)
        → (at_each change (filter test hs) runs).runs ≡ option_map_or (λ h. (change h runs).runs) (find test hs) runs
    at_the_first [] runs = refl
    at_the_first (h ∷ hs) runs =
        elim (test h) as
        (λ b. test h ≡ b → (at_each change (if b then h ∷ filter test hs else filter test hs) runs).runs
        ≡ option_map_or (λ k. (change k runs).runs) (if b then Some h else find test hs) runs) [
          | true ↦ λ passes. at_one h (filter test hs) runs (all_that_one h passes hs)
          | false ↦ λ passes. at_the_first hs runs
        ] refl

-- ---- the newcomer's group

pub no_other : (h newcomer : Holder) → not (same_holder h newcomer) ≡ true → h ≡ newcomer → ⊥
no_other h newcomer other same =
    true≢false (sym other ∙ ap not (ap (λ k. same_holder k newcomer) same ∙ itself newcomer))

module _ (runs : List RunState) (newcomer : Holder) (g : Group) (its : group_at runs newcomer ≡ Some g)
    (waiting : waits runs newcomer ≡ true) (sound : RunsAreSound runs) (one : HasOneBeside runs newcomer) where
  fit : RunsFit runs
  fit = runs_fit runs sound.jobs_are_the_plans sound.run_phases_fit sound.jobs_fit sound.needs_finished_first sound.leases_fit

  one_other : (h k : Holder) → (is_pending_in runs g h && not (same_holder h newcomer)) ≡ true
      → (is_pending_in runs g k && not (same_holder k newcomer)) ≡ true → h ≡ k
  one_other h k e f =
      let of_h = and_parts (is_pending_in runs g h) (not (same_holder h newcomer)) e in
      let of_k = and_parts (is_pending_in runs g k) (not (same_holder k newcomer)) f in
      one.pending g h k (no_other h newcomer of_h.1) (no_other k newcomer of_k.1) of_h.0 of_k.0

  the_pending_one_stopped : option_map_or (λ h. (stop_holder h runs).runs) (first_conflicting runs newcomer OthersPending) runs
      ≡ (displaced g newcomer runs).runs
  the_pending_one_stopped =
      ap (λ o. option_map_or (λ h. (stop_holder h runs).runs)
      (find (λ k. option_map_or (λ v. is_pending_in runs v k && not (same_holder k newcomer)) o false) (all_holders runs)) runs) its
      ∙ sym (at_the_first displace stopped_twice (λ k. is_pending_in runs g k && not (same_holder k newcomer)) one_other
      (all_holders runs) runs)

  the_one_in_progress_stopped : let mid = (displaced g newcomer runs).runs in
      option_map_or (λ h. (stop_holder h mid).runs) (first_conflicting mid newcomer InProgress) mid ≡ (in_progress_stopped g mid).runs
  the_one_in_progress_stopped =
      let mid = (displaced g newcomer runs).runs in
      ap (λ o. option_map_or (λ h. (stop_holder h mid).runs)
      (find (λ k. option_map_or (λ v. is_in_progress_in mid v k) o false) (all_holders mid)) mid)
      (still_its runs fit newcomer g waiting its one)
      ∙ sym (at_the_first stop_holder stopped_twice (is_in_progress_in mid g)
      ((displaced_one_each runs fit newcomer g waiting its one).in_progress g)
      (all_holders mid) mid)

-- ---- the arrival

arrived_in : (runs : List RunState) (newcomer : Holder) (g : Group) (cancels : Bool) → group_at runs newcomer ≡ Some g
    → cancels ≡ cancels_in_progress runs newcomer
    → (stopped_where_requested cancels g (displaced g newcomer runs).runs).runs ≡ (arrived newcomer runs).runs
arrived_in runs newcomer g cancels its is =
    ap (λ b. (room_made b newcomer runs g).runs) is
    ∙ sym (ap (λ o. (option_map_or (room_made (cancels_in_progress runs newcomer) newcomer runs) o (without_moves runs)).runs) its)

-- ---- if the newcomer has a group

-- the runs after the first conflicting holder is stopped, if there is one
abbrev pub first_stopped : List RunState → Holder → HolderFilter → List RunState
first_stopped runs newcomer holder_filter = option_map_or (λ h. (stop_holder h runs).runs) (first_conflicting runs newcomer holder_filter) runs

-- the arrival stops the pending holder, and then the one in progress if the newcomer asks for cancellation
pub arrived_by_stops : (runs mid last : List RunState) (newcomer : Holder) (cancels : Bool) → is_some (group_at runs newcomer) ≡ true
    → waits runs newcomer ≡ true → RunsAreSound runs → HasOneBeside runs newcomer → cancels ≡ cancels_in_progress runs newcomer
    → mid ≡ first_stopped runs newcomer OthersPending → last ≡ (if cancels then first_stopped mid newcomer InProgress else mid)
    → last ≡ (arrived newcomer runs).runs
arrived_by_stops runs mid last newcomer true grouped waiting sound one is first then_in_progress =
    let g = some_of (group_at runs newcomer) grouped in
    then_in_progress
    ∙ ap (λ m. first_stopped m newcomer InProgress) (first ∙ the_pending_one_stopped runs newcomer g.0 g.1 waiting sound one)
    ∙ the_one_in_progress_stopped runs newcomer g.0 g.1 waiting sound one
    ∙ arrived_in runs newcomer g.0 true g.1 is
arrived_by_stops runs mid last newcomer false grouped waiting sound one is first same =
    let g = some_of (group_at runs newcomer) grouped in
    same ∙ first ∙ the_pending_one_stopped runs newcomer g.0 g.1 waiting sound one ∙ arrived_in runs newcomer g.0 false g.1 is
