-- A run comes, or begins its next attempt. It waits and is not in the book of groups yet; all others are in it as before.
use Rattle.std.specs.Prelude.{◌≡◌, ◌&&◌, ◌++◌, ◌∷◌, [], ℕ, List, length, not, true, false, Option, None, Some, is_some, option_and_then, option_map, slice_get, refl}
use Rattle.std.specs.Option.{option_map_or}
use Rattle.std.proofs.Common.{arith, ap, inl, inr, sym, ◌∙◌}
use Rattle.std.proofs.lemmas.Bool.{and_parts, cases_eq, true≢false}
use Rattle.std.proofs.lemmas.Option.{same_Some, slice_get_past}
use Rattle.group_book.specs.Books.{slot_in}
use Rattle.group_book.proofs.Exact.{Stays, exact_within}
use Rattle.table_model.specs.Groups.{group_at, holds, is_in, leg_holds, leg_waits, run_waits, waits}
use Rattle.table_model.specs.GroupLaw.{same_holder}
use Rattle.table_model.specs.Holders.{run_of}
use Rattle.table_model.specs.Runs.{again, leg_at, run_at, with_run, JobState, LegState, RunState, is_live, leg_has_ended, outcome_of}
use Rattle.table_model.specs.Sound.{RunsAreSound}
use Rattle.table_model.specs.declared.holder.Holder.{Holder}
use Rattle.table_model.specs.declared.holder.Holder.TheVariants.{Run, Leg}
use Rattle.table_model.specs.declared.phases.LegPhase.{LegPhase}
use Rattle.table_model.specs.declared.phases.LegPhase.TheVariants as leg
use Rattle.table_model.specs.declared.phases.RunPhase.{RunPhase}
use Rattle.table_model.specs.declared.phases.RunPhase.TheVariants as run
use Rattle.table_model.specs.declared.sites.LegSite.{LegSite}
use Rattle.table_model.proofs.Changed.{at_another, at_changed}
use Rattle.table_model.proofs.Found.{at_the_end, before_the_end}
use Rattle.table_model.proofs.JobKeeps.{job_is_open, leg_in, open_is_live}
use Rattle.table_runs.proofs.HoldersOfRuns.{same_holds}
use Rattle.settling_laws.proofs.KeptBack.{RunsStillFor, runs_still}
use Rattle.settling_laws.proofs.GroupStays.{same_group}
use Rattle.settling_laws.proofs.SoundRuns.{runs_that_fit}
use Rattle.table_runs.specs.inner.Arriving.{ExactBeside, waits_beside}
use Rattle.table_runs.specs.inner.GroupsKept.{AreExact, is_there}
use Rattle.table_runs.proofs.Arriving.{itself_beside, others_as_before}
use Rattle.table_runs.proofs.GroupsHeld.{Entries}
use Rattle.table_runs.proofs.HoldersThere.{tells, there_if_holds, there_if_waits}
use Rattle.table_runs.proofs.Stored.{group_before}

-- ---- a leg that waits or holds is of a live run

leg_of_live : (runs : List RunState) (p : LegSite) (z : LegState) → RunsAreSound runs → leg_at runs p ≡ Some z → leg_has_ended z ≡ false
    → (x : RunState) → run_at runs p.run ≡ Some x → x.phase ≡ run.Live
leg_of_live runs p z sound at un x there =
    let fit = runs_that_fit runs sound in
    let is_in = leg_in runs p z at in
    let y = is_in.place.run in
    let open_job = job_is_open runs fit p z (λ (l : LegState). l) is_in un (sound.leases_fit p z at) in
    let live = open_is_live y.phase y.stopping y.jobs p.job is_in.job (fit p.run y is_in.place.run_is).phase_fits is_in.place.job_is open_job in
    ap (λ (w : RunState). w.phase) (same_Some x y (sym there ∙ is_in.place.run_is)) ∙ live

abbrev IsQuiet : List RunState → Holder → Type 0
IsQuiet runs h = (waits runs h ≡ false) × (holds runs h ≡ false)

module _ (runs : List RunState) (r : ℕ) (x : RunState) (sound : RunsAreSound runs) (there : run_at runs r ≡ Some x)
    (not_live : x.phase ≡ run.Live → ⊥) where
  quiet_leg : (p : LegSite) → p.run ≡ r → IsQuiet runs (Leg p)
  quiet_leg p same = by (leg_at runs p) refl
    where
      at_run : run_at runs p.run ≡ Some x
      at_run = ap (run_at runs) same ∙ there

      never : (z : LegState) → leg_at runs p ≡ Some z → leg_has_ended z ≡ false → ⊥
      never z at un = not_live (leg_of_live runs p z sound at un x at_run)

      by_phase : (z : LegState) → leg_at runs p ≡ Some z → (phase : LegPhase) → z.phase ≡ phase
          → (leg_waits phase ≡ false) × (leg_holds phase ≡ false)
      by_phase z at leg.New is = (refl, refl)
      by_phase z at leg.Waiting is = absurd (never z at (ap (λ ph. is_some (outcome_of ph)) is))
      by_phase z at leg.Ready is = absurd (never z at (ap (λ ph. is_some (outcome_of ph)) is))
      by_phase z at leg.Running is = absurd (never z at (ap (λ ph. is_some (outcome_of ph)) is))
      by_phase z at leg.Stopping is = absurd (never z at (ap (λ ph. is_some (outcome_of ph)) is))
      by_phase z at (leg.Ended o) is = (refl, refl)

      by : (o : Option LegState) → leg_at runs p ≡ o → IsQuiet runs (Leg p)
      by None at = (
        ap (λ o. option_map_or (λ (l : LegState). leg_waits l.phase) o false) at,
        ap (λ o. option_map_or (λ (l : LegState). leg_holds l.phase) o false) at,
      )
      by (Some z) at =
          let quiet = by_phase z at z.phase refl in (
            ap (λ o. option_map_or (λ (l : LegState). leg_waits l.phase) o false) at ∙ quiet.0,
            ap (λ o. option_map_or (λ (l : LegState). leg_holds l.phase) o false) at ∙ quiet.1,
          )

-- ---- a run that is not there, and one that has ended

same_waits : (runs next : List RunState) (h : Holder) → run_at next (run_of h) ≡ run_at runs (run_of h) → waits next h ≡ waits runs h
same_waits runs next (Run r) at = ap (λ o. option_map_or (λ (x : RunState). run_waits x.phase) o false) at
same_waits runs next (Leg p) at =
    ap (λ o. option_map_or (λ (z : LegState). leg_waits z.phase)
    (option_and_then (λ (y : JobState). slice_get y.legs p.leg) (option_and_then (λ (x : RunState). slice_get x.jobs p.job) o)) false) at

nobody_waits : (h : Holder) → waits [] h ≡ false
nobody_waits (Run r) = refl
nobody_waits (Leg p) = refl

nobody_holds : (h : Holder) → holds [] h ≡ false
nobody_holds (Run r) = refl
nobody_holds (Leg p) = refl

pub quiet_past : (runs : List RunState) (h : Holder) → run_of h ≡ length runs → IsQuiet runs h
quiet_past runs h past =
    let none : run_at runs (run_of h) ≡ None = slice_get_past runs (run_of h) (omega (arith, past)) in (
      same_waits [] runs h none ∙ nobody_waits h,
      same_holds [] runs h none ∙ nobody_holds h,
    )

pub quiet_ended : (runs : List RunState) (r : ℕ) (x : RunState) → RunsAreSound runs → run_at runs r ≡ Some x → x.phase ≡ run.Ended
    → (h : Holder) → run_of h ≡ r → IsQuiet runs h
quiet_ended runs r x sound there ended (Run s) same =
    let at : run_at runs s ≡ Some x = ap (run_at runs) same ∙ there in (
      ap (λ o. option_map_or (λ (y : RunState). run_waits y.phase) o false) at ∙ ap run_waits ended,
      ap (λ o. option_map_or (λ (y : RunState). is_live y.phase) o false) at ∙ ap is_live ended,
    )
quiet_ended runs r x sound there ended (Leg p) same = quiet_leg runs r x sound there (λ live. ended_not_live (sym ended ∙ live)) p same
  where
    ended_not_live : run.Ended ≡ run.Live → ⊥
    ended_not_live e = cc

-- ---- the run that comes

module _ (runs next : List RunState) (r : ℕ) (x : RunState) (entries : Entries) (sound : RunsAreSound next) (there : run_at next r ≡ Some x)
    (waiting : x.phase ≡ run.Waiting) (rested : (h : Holder) → run_of h ≡ r → IsQuiet runs h)
    (others : (s : ℕ) → (s ≡ r → ⊥) → run_at next s ≡ run_at runs s)
    (groups : (h : Holder) → (run_of h ≡ r → ⊥) → is_there runs h ≡ true → group_at next h ≡ group_at runs h) where
  not_live : x.phase ≡ run.Live → ⊥
  not_live live = waiting_not_live (sym waiting ∙ live)
    where
      waiting_not_live : run.Waiting ≡ run.Live → ⊥
      waiting_not_live e = cc

  -- its legs neither wait nor hold, and it does not hold itself
  no_waiting_beside : (h : Holder) → run_of h ≡ r → waits_beside (Run r) next h ≡ false
  no_waiting_beside (Run s) same = ap (waits_beside (Run r) next) (ap Run same) ∙ itself_beside (Run r) next
  no_waiting_beside (Leg p) same =
      ap (λ b. b && not (same_holder (Leg p) (Run r))) (quiet_leg next r x sound there not_live p same).0

  no_holder : (h : Holder) → run_of h ≡ r → holds next h ≡ false
  no_holder (Run s) same =
      ap (λ o. option_map_or (λ (y : RunState). is_live y.phase) o false) (ap (run_at next) same ∙ there) ∙ ap is_live waiting
  no_holder (Leg p) same = (quiet_leg next r x sound there not_live p same).1

  another_run : (h : Holder) → (run_of h ≡ r → ⊥) → h ≡ Run r → ⊥
  another_run h other is = other (ap run_of is)

  waiting_stay : (h : Holder) → Stays (group_at runs) (group_at next) (waits runs) (waits_beside (Run r) next) h
  waiting_stay h =
      elim (cases_eq (run_of h) r) [
        | inl same ↦ (
          no_waiting_beside h same ∙ sym (rested h same).0,
          λ is. absurd (true≢false (sym is ∙ (rested h same).0)),
        )
        | inr other ↦ (
          others_as_before (Run r) next h (another_run h other) ∙ same_waits runs next h (others (run_of h) other),
          λ is. groups h other (there_if_waits runs h is),
        )
      ]

  holding_stay : (h : Holder) → Stays (group_at runs) (group_at next) (holds runs) (holds next) h
  holding_stay h =
      elim (cases_eq (run_of h) r) [
        | inl same ↦ (
          no_holder h same ∙ sym (rested h same).1,
          λ is. absurd (true≢false (sym is ∙ (rested h same).1)),
        )
        | inr other ↦ (
          same_holds runs next h (others (run_of h) other),
          λ is. groups h other (there_if_holds runs h is),
        )
      ]

  pub exact_beside_it : AreExact runs entries → ExactBeside (Run r) next entries
  exact_beside_it exact = record {
    pending = exact_within tells (group_at runs) (group_at next) (waits runs) (waits_beside (Run r) next) (λ g. (slot_in entries g).pending)
        waiting_stay exact.pending;
    in_progress = exact_within tells (group_at runs) (group_at next) (holds runs) (holds next) (λ g. (slot_in entries g).in_progress)
        holding_stay exact.in_progress;
  }

-- ---- a new run at the end, and one that begins its next attempt

its_phase : (phase : RunPhase) → run_waits phase ≡ true → phase ≡ run.Waiting
its_phase run.Waiting e = refl
its_phase run.Live e = absurd (true≢false (sym e))
its_phase run.Ended e = absurd (true≢false (sym e))

pub added_beside : (runs : List RunState) (x : RunState) (entries : Entries) → RunsAreSound (runs ++ x ∷ []) → run_waits x.phase ≡ true
    → AreExact runs entries → ExactBeside (Run (length runs)) (runs ++ x ∷ []) entries
added_beside runs x entries sound waiting =
    exact_beside_it runs (runs ++ x ∷ []) (length runs) x entries sound (at_the_end runs x) (its_phase x.phase waiting) (quiet_past runs)
    (before_the_end runs x) (λ h other there. group_before runs x h there)

pub again_beside : (runs : List RunState) (r : ℕ) (x : RunState) (entries : Entries) → RunsAreSound runs → RunsAreSound (with_run r again runs)
    → run_at runs r ≡ Some x → x.phase ≡ run.Ended → AreExact runs entries → ExactBeside (Run r) (with_run r again runs) entries
again_beside runs r x entries sound begun there ended =
    let next = with_run r again runs in
    exact_beside_it runs next r (again x) entries begun (at_changed r again runs ∙ ap (option_map again) there) refl
    (quiet_ended runs r x sound there ended) (at_another r again runs)
    (λ h other is_there_now.
    same_group runs next h (at_another r again runs (run_of h) other))

-- ---- a run that begins its next attempt held nothing, so whoever holds a group still holds it

pub again_still : (runs : List RunState) (r : ℕ) (x : RunState) → RunsAreSound runs → run_at runs r ≡ Some x → x.phase ≡ run.Ended → (s : ℕ)
    → RunsStillFor runs (with_run r again runs) s
again_still runs r x sound there ended s h of_run waiting g group k e =
    let next = with_run r again runs in
    let held : holds runs k ≡ true = (and_parts (is_in runs g k) (holds runs k) e).1 in
    elim (cases_eq (run_of k) r) [
      | inl same ↦ absurd (true≢false (sym held ∙ (quiet_ended runs r x sound there ended k same).1))
      | inr other ↦
          runs_still runs next g k
          (same_group runs next k (at_another r again runs (run_of k) other))
          (λ holding kept of_group. same_holds runs next k (at_another r again runs (run_of k) other) ∙ holding) e
    ]
