-- A run of which another attempt begins has completed the attempt before, so no runner is at work on a leg of it.
use Rattle.std.specs.Prelude.{◌≡◌, ℕ, ◌+◌, ◌<◌, List, Bool, true, false, is_some, nat_eq, nat_le, Option, Some, None, option_and_then}
use Rattle.std.specs.Prelude.{slice_get, if◌then◌else◌, refl}
use Rattle.std.specs.Option.{option_map_or}
use Rattle.std.proofs.Common.{inl, inr, subst}
use Rattle.std.proofs.lemmas.Bool.{eqb-true, leb-false}
use Rattle.definitions.specs.Limits.{last_attempt}
use Rattle.wf_value.specs.declared.code.Code.TheVariants.{LastCounter, NoRun, RunNotCompleted}
use Rattle.wf_value.specs.declared.outcome.JobResult.{JobResult}
use Rattle.wf_value.specs.declared.refusal.Refusal.TheVariants.{Turn}
use Rattle.run_plan.specs.declared.command.Attempt.{Attempt}
use Rattle.run_plan.specs.declared.reply.Reply.TheVariants as reply
use Rattle.table_model.specs.Runs.{finished_result, run_at, LegState, JobState, RunState, is_finished, leg_has_ended, outcome_of}
use Rattle.table_model.specs.Fitting.{is_at_work}
use Rattle.table_model.specs.Settling.{result_at}
use Rattle.table_model.specs.Sound.{LegsFit, PhaseFits}
use Rattle.table_model.specs.LegContext.{planned_legs}
use Rattle.table_model.specs.declared.phases.JobPhase.{JobPhase}
use Rattle.table_model.specs.declared.phases.JobPhase.TheVariants as job
use Rattle.table_model.specs.declared.phases.LegPhase.{LegPhase}
use Rattle.table_model.specs.declared.phases.LegPhase.TheVariants as leg
use Rattle.table_model.specs.declared.phases.RunPhase.{RunPhase}
use Rattle.table_model.specs.declared.phases.RunPhase.TheVariants as run
use Rattle.table_model.specs.Step.{answer_of_attempt, answer_of_next, has_completed, refused, rerun_answer}
use Rattle.table_model.specs.TableState.{TableState, index_of}
use Rattle.table_model.proofs.JobKeeps.{no_leg}
use Rattle.table_model.proofs.LegReads.{work_of, works_in, works_in_job}
use Rattle.table_model.proofs.Optional.{each_passes}
use Rattle.table_model.proofs.RunFits.{RunFits}

-- ---- what was checked first

-- the run at the index has completed the attempt before this one
pub record BeginsAgain (runs : List RunState) (r attempt : ℕ) : Type 0 where
  pub was : RunState
  pub there : run_at runs r ≡ Some was
  pub ended : was.phase ≡ run.Ended
  pub next : attempt ≡ was.attempt + 1
  pub below : was.attempt < last_attempt

if_refused : {Y : Type 0} (b : Bool) (y : Y) (o : Option Y) → (if b then Some y else o) ≡ None → (b ≡ false) × (o ≡ None)
if_refused true y o e = cc
if_refused false y o e = (refl, e)

if_passed : {Y : Type 0} (b : Bool) (o : Option Y) (y : Y) → (if b then o else Some y) ≡ None → (b ≡ true) × (o ≡ None)
if_passed true o y e = (refl, e)
if_passed false o y e = cc

completed : (phase : RunPhase) → has_completed phase ≡ true → phase ≡ run.Ended
completed run.Waiting e = cc
completed run.Live e = cc
completed run.Ended e = refl

begins : (x : RunState) (requested : Attempt) → answer_of_attempt x requested ≡ None
    → (x.phase ≡ run.Ended) × (requested.attempt ≡ x.attempt + 1) × (x.attempt < last_attempt)
begins x requested none =
    let another = if_refused (nat_eq requested.attempt x.attempt) (reply.Again requested)
    (if nat_eq requested.attempt (x.attempt + 1) then answer_of_next x else Some (reply.Refused (Turn x.attempt))) none in
    let next = if_passed (nat_eq requested.attempt (x.attempt + 1)) (answer_of_next x) (reply.Refused (Turn x.attempt)) another.1 in
    let left = if_refused (nat_le last_attempt x.attempt) (refused LastCounter)
    (if has_completed x.phase then None else Some (refused RunNotCompleted)) next.1 in
    let over = if_passed (has_completed x.phase) None (refused RunNotCompleted) left.1 in
    (completed x.phase over.0, eqb-true requested.attempt (x.attempt + 1) next.0, leb-false last_attempt x.attempt left.0)

begins_at : (runs : List RunState) (r : ℕ) (requested : Attempt) (o : Option RunState) → run_at runs r ≡ o
    → option_map_or (λ x. answer_of_attempt x requested) o (Some (refused NoRun)) ≡ None → BeginsAgain runs r requested.attempt
begins_at runs r requested None is none = cc
begins_at runs r requested (Some x) is none =
    let found = begins x requested none in
    record { was = x; there = is; ended = found.0; next = found.1; below = found.2 }

pub begins_again : (t : TableState) (requested : Attempt) → rerun_answer t requested ≡ None
    → BeginsAgain t.runs (index_of t requested.run) requested.attempt
begins_again t requested none =
    let r = index_of t requested.run in
    elim (nat_le requested.run t.forgotten.through) as
    (λ b. option_map_or (λ x. answer_of_attempt x requested) (if b then None else run_at t.runs r) (Some (refused NoRun)) ≡ None
    → BeginsAgain t.runs r requested.attempt) [
      | true ↦ λ due. absurd (cc due)
      | false ↦ λ due. begins_at t.runs r requested (run_at t.runs r) refl due
    ] none

-- ---- the legs of a run that has ended

legs_of_settled : (planned : ℕ) (result : JobResult) (phase : JobPhase) (legs : List LegState) (l : ℕ) (z : LegState)
    → LegsFit planned result phase legs → is_some (finished_result phase) ≡ true → slice_get legs l ≡ Some z → leg_has_ended z ≡ true
legs_of_settled planned result job.Blocked legs l z fits settled e = cc
legs_of_settled planned result job.Open legs l z fits settled e = cc
legs_of_settled planned result (job.Finished r) legs l z fits settled e =
    elim fits [
      | inl h ↦ absurd (no_leg legs l z h.0 e)
      | inr h ↦ each_passes leg_has_ended legs l z h.1 e
    ]

idle : (phase : LegPhase) (lease : Option ℕ) → is_some (outcome_of phase) ≡ true → (if is_at_work phase then lease else None) ≡ None
idle leg.New lease e = cc
idle leg.Waiting lease e = cc
idle leg.Ready lease e = cc
idle leg.Running lease e = cc
idle leg.Stopping lease e = cc
idle (leg.Ended r) lease e = refl

module _ (runs : List RunState) (r : ℕ) (x : RunState) (fits : RunFits runs r x) (ended : x.phase ≡ run.Ended) where
  pub legs_ended : (j : ℕ) (y : JobState) (l : ℕ) (z : LegState) → slice_get x.jobs j ≡ Some y → slice_get y.legs l ≡ Some z
      → leg_has_ended z ≡ true
  legs_ended j y l z at is =
      let settled : is_finished y ≡ true = subst (λ (phase : RunPhase). PhaseFits phase x.stopping x.jobs) ended fits.phase_fits j y at in
      legs_of_settled (planned_legs runs r j) (result_at runs r j y) y.phase y.legs l z (fits.jobs_fit j y at).legs_fit settled is

  no_work_on : (j : ℕ) (y : JobState) (l : ℕ) (o : Option LegState) → slice_get x.jobs j ≡ Some y → slice_get y.legs l ≡ o
      → option_and_then work_of o ≡ None
  no_work_on j y l None at is = refl
  no_work_on j y l (Some z) at is = idle z.phase z.lease (legs_ended j y l z at is)

  no_work_in : (j l : ℕ) (o : Option JobState) → slice_get x.jobs j ≡ o → option_and_then (λ y. works_in_job y l) o ≡ None
  no_work_in j l None at = refl
  no_work_in j l (Some y) at = no_work_on j y l (slice_get y.legs l) at refl

  pub no_work : (j l : ℕ) → works_in x j l ≡ None
  no_work j l = no_work_in j l (slice_get x.jobs j) refl
