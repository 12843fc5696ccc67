-- What each step that forgets no run keeps about the runs: each run keeps its index, its identity and, but in a re-run, its attempt. New runs
-- are added at the end.
use Rattle.std.proofs.Common.{◌≡◌, ℕ, ◌+◌, ◌≤◌, List, [], ◌∷◌, ◌++◌, length, map, refl, sym, ap, ◌∙◌, subst, arith, inl, inr}
use Rattle.std.specs.Prelude.{Option, Some, None}
use Rattle.std.specs.Option.{option_map_or}
use Rattle.std.proofs.lemmas.List.{append-nil, map-append}
use Rattle.wf_value.specs.declared.code.Code.TheVariants.{LeaseNotHeld, NoRunner}
use Rattle.wf_value.specs.declared.outcome.Outcome.{Outcome}
use Rattle.definitions.specs.SmallText.{Admitted}
use Rattle.run_plan.specs.declared.command.Claim.{Claim as Claimed}
use Rattle.run_plan.specs.declared.command.Command.{Command}
use Rattle.run_plan.specs.declared.command.Command.TheVariants as command
use Rattle.run_plan.specs.declared.reply.Reply.{Reply}
use Rattle.table_model.specs.Fitting.{first_fit}
use Rattle.table_model.specs.Forgotten.{ForgottenRuns, next_run}
use Rattle.table_model.specs.Runs.{again, leased_leg, with_leg, with_run, LegState, RunState}
use Rattle.table_model.specs.Settling.{settled}
use Rattle.table_model.specs.Stops.{with_ended, stop_holder, outcome_of_loss}
use Rattle.table_model.specs.Sound.{ForgottenFit}
use Rattle.table_model.specs.Step.{after, admission_answer, admitting, cancel_answer, cancelling, claim_answer, claiming, entered, entered_again}
use Rattle.table_model.specs.Step.{leasing, losing, lost, refused, released, report_answer, rerun_answer, rerunning, reporting, serving_nothing, stepped, unchanged}
use Rattle.table_model.specs.Step.{discharge_answer, discharging}
use Rattle.table_model.specs.TableState.{Step, TableState, index_of, runner_named}
use Rattle.table_laws.proofs.ForgetSteps.{IsNoForget, forget_or_not, forgot_drops, forgot_fits}
use Rattle.table_laws.proofs.RunsStay.{IsOfCourse, arrived_stays, ended_stays, leg_stays, run_stays, settled_stays, stop_stays}
use Rattle.table_model.specs.declared.holder.Holder.TheVariants.{Run}

-- the command neither begins an attempt nor forgets runs
abbrev pub KeepsAttempts : Command → Type 0
KeepsAttempts (command.Rerun requested) = ⊥
KeepsAttempts (command.Forget id) = ⊥
KeepsAttempts _ = Unit {0}

-- ---- what is kept of forgotten runs

answer_keeps : (t : TableState) (answer : Option Reply) (change : Step) → change.table.forgotten ≡ t.forgotten
    → (option_map_or (unchanged t) answer change).table.forgotten ≡ t.forgotten
answer_keeps t None change h = h
answer_keeps t (Some given) change h = refl

pub forgotten_stays : (t : TableState) (c : Command) → IsNoForget c → (stepped t c).table.forgotten ≡ t.forgotten
forgotten_stays t (command.Admit event) other = answer_keeps t (admission_answer t event) (admitting t event) refl
forgotten_stays t (command.Claim claim) other = answer_keeps t (claim_answer t claim) (claiming t claim)
    (elim (first_fit claim.labels t.runs) as
    (λ o. (option_map_or (leasing t claim) o (serving_nothing t claim)).table.forgotten ≡ t.forgotten) [ None ↦ refl | Some p ↦ refl ])
forgotten_stays t (command.Done report) other = answer_keeps t (report_answer t report) (reporting t report) refl
forgotten_stays t (command.Beat beat) other = refl
forgotten_stays t (command.Cancel id) other = answer_keeps t (cancel_answer t id) (cancelling t id) refl
forgotten_stays t (command.Lost name) other =
    elim (runner_named t.runners name) as
    (λ o. (option_map_or (λ runner. option_map_or (losing t (released runner)) runner.holds (unchanged t (refused LeaseNotHeld))) o
    (unchanged t (refused NoRunner))).table.forgotten ≡ t.forgotten) [
      | None ↦ refl
      | Some runner ↦ elim (runner.holds) as
          (λ h. (option_map_or (losing t (released runner)) h (unchanged t (refused LeaseNotHeld))).table.forgotten ≡ t.forgotten)
          [ None ↦ refl | Some lease ↦ refl ]
    ]
forgotten_stays t (command.Fetch id) other = refl
forgotten_stays t (command.Look id) other = refl
forgotten_stays t (command.Rerun requested) other = answer_keeps t (rerun_answer t requested) (rerunning t requested) refl
forgotten_stays t (command.Forget id) other = absurd other
forgotten_stays t (command.Discharge name) other = answer_keeps t (discharge_answer t name) (discharging t name) refl

-- what fits still does
pub fits_then : (t : TableState) (c : Command) → ForgottenFit t.forgotten → ForgottenFit (stepped t c).table.forgotten
fits_then t c fit =
    elim (forget_or_not c) [
      | inl forgets ↦ subst (λ (d : Command). ForgottenFit (stepped t d).table.forgotten) (sym forgets.1) (forgot_fits t forgets.0 fit)
      | inr other ↦ subst ForgottenFit (sym (forgotten_stays t c other)) fit
    ]

pub fits_after : (t : TableState) (cs : List Command) → ForgottenFit t.forgotten → ForgottenFit (after t cs).forgotten
fits_after t [] fit = fit
fits_after t (c ∷ cs) fit = fits_after (stepped t c).table cs (fits_then t c fit)

-- no run that is forgotten comes back
pub through_rises : (t : TableState) (c : Command) → t.forgotten.through ≤ (stepped t c).table.forgotten.through
through_rises t c =
    elim (forget_or_not c) [
      | inl forgets ↦
          let more = (forgot_drops t forgets.0).through in
          subst (λ (d : Command). t.forgotten.through ≤ (stepped t d).table.forgotten.through) (sym forgets.1) (omega (arith, more))
      | inr other ↦
          let same = ap (λ (f : ForgottenRuns). f.through) (forgotten_stays t c other) in omega (arith, same)
    ]

pub through_rises_on : (t : TableState) (later : List Command) → t.forgotten.through ≤ (after t later).forgotten.through
through_rises_on t [] = omega arith
through_rises_on t (c ∷ cs) =
    let first = through_rises t c in let others = through_rises_on (stepped t c).table cs in omega (arith, first, others)

-- ---- what is read from the runs

module _ {X : Type 0} (read : RunState → X) (of_course : IsOfCourse read) where
  abbrev reads : List RunState → List X
  reads runs = map read runs

  -- the values read from the runs of the first table are a prefix of those of the second
  abbrev pub Keeps : TableState → TableState → Type 0
  Keeps t next = (more : List X) × (reads next.runs ≡ reads t.runs ++ more)

  pub keeps_all : (t next : TableState) → reads next.runs ≡ reads t.runs → Keeps t next
  keeps_all t next same = ([], same ∙ sym (append-nil (reads t.runs)))

  pub keeps_itself : (t : TableState) → Keeps t t
  keeps_itself t = keeps_all t t refl

  pub answered : (t : TableState) (answer : Option Reply) (change : Step) → Keeps t change.table
      → Keeps t (option_map_or (unchanged t) answer change).table
  answered t None change h = h
  answered t (Some given) change h = keeps_itself t

  pub entered_stays : (t : TableState) (event : Admitted) → reads (admitting t event).table.runs ≡ reads t.runs ++ read (next_run t.forgotten t.runs event) ∷ []
  entered_stays t event =
      let more = t.runs ++ next_run t.forgotten t.runs event ∷ [] in
      settled_stays read of_course (entered t event).runs ∙ arrived_stays read of_course (Run (length t.runs)) more
      ∙ map-append read t.runs (next_run t.forgotten t.runs event ∷ [])

  admits : (t : TableState) (event : Admitted) → Keeps t (admitting t event).table
  admits t event = (read (next_run t.forgotten t.runs event) ∷ [], entered_stays t event)

  claims : (t : TableState) (claim : Claimed) → Keeps t (claiming t claim).table
  claims t claim = elim (first_fit claim.labels t.runs) as
      (λ o. Keeps t (option_map_or (leasing t claim) o (serving_nothing t claim)).table) [
        | None ↦ keeps_all t (serving_nothing t claim).table (settled_stays read of_course t.runs)
        | Some p ↦ keeps_all t (leasing t claim p).table
            (let f : LegState → LegState = λ x. leased_leg (t.last_lease + 1) in
            settled_stays read of_course (with_leg p f t.runs) ∙ leg_stays read of_course p f t.runs)
      ]

  ends : (t : TableState) (lease : ℕ) (outcome : Outcome) → reads (settled (with_ended lease outcome t.runs)) ≡ reads t.runs
  ends t lease outcome = settled_stays read of_course (with_ended lease outcome t.runs) ∙ ended_stays read of_course lease outcome t.runs

  cancels : (t : TableState) (id : ℕ) → reads (settled (stop_holder (Run (index_of t id)) t.runs).runs) ≡ reads t.runs
  cancels t id = settled_stays read of_course (stop_holder (Run (index_of t id)) t.runs).runs ∙ stop_stays read of_course (Run (index_of t id)) t.runs

  loses : (t : TableState) (name : List ℕ) → Keeps t (lost t name).table
  loses t name =
      elim (runner_named t.runners name) as
      (λ o. Keeps t (option_map_or (λ runner. option_map_or (losing t (released runner)) runner.holds (unchanged t (refused LeaseNotHeld))) o
      (unchanged t (refused NoRunner))).table) [
        | None ↦ keeps_itself t
        | Some runner ↦ elim (runner.holds) as
            (λ h. Keeps t (option_map_or (losing t (released runner)) h (unchanged t (refused LeaseNotHeld))).table) [
              | None ↦ keeps_itself t
              | Some lease ↦ keeps_all t (losing t (released runner) lease).table (ends t lease (outcome_of_loss t.runs lease))
            ]
      ]

  -- a step of any command except a re-run and a forget
  pub step_stays : (t : TableState) (c : Command) → KeepsAttempts c → Keeps t (stepped t c).table
  step_stays t (command.Admit event) other = answered t (admission_answer t event) (admitting t event) (admits t event)
  step_stays t (command.Claim claim) other = answered t (claim_answer t claim) (claiming t claim) (claims t claim)
  step_stays t (command.Done report) other =
      answered t (report_answer t report) (reporting t report)
      (keeps_all t (reporting t report).table (ends t report.lease report.result))
  step_stays t (command.Beat beat) other = keeps_itself t
  step_stays t (command.Cancel id) other =
      answered t (cancel_answer t id) (cancelling t id) (keeps_all t (cancelling t id).table (cancels t id))
  step_stays t (command.Lost name) other = loses t name
  step_stays t (command.Fetch id) other = keeps_itself t
  step_stays t (command.Look id) other = keeps_itself t
  step_stays t (command.Rerun requested) other = absurd other
  step_stays t (command.Forget id) other = absurd other
  step_stays t (command.Discharge name) other = answered t (discharge_answer t name) (discharging t name) (keeps_itself t)

  -- ---- what a run that begins again keeps too

  module _ (again_same : (x : RunState) → read (again x) ≡ read x) where
    begins : (t : TableState) (r : ℕ) → reads (settled (entered_again t r).runs) ≡ reads t.runs
    begins t r =
        settled_stays read of_course (entered_again t r).runs ∙ arrived_stays read of_course (Run r) (with_run r again t.runs)
        ∙ run_stays read of_course r again t.runs again_same

    pub any_step_stays : (t : TableState) (c : Command) → IsNoForget c → Keeps t (stepped t c).table
    any_step_stays t (command.Rerun requested) other =
        answered t (rerun_answer t requested) (rerunning t requested)
        (keeps_all t (rerunning t requested).table (begins t (index_of t requested.run)))
    any_step_stays t (command.Forget id) other = absurd other
    any_step_stays t c other = step_stays t c tt
