-- The attempt of a run does not change until a re-run begins another one or the run is forgotten, and a re-run that asks for it is answered
-- with it again.
use Rattle.std.specs.Prelude.{◌≡◌, ℕ, zero, suc, ◌+◌, ◌-◌, ◌<◌, List, [], ◌∷◌, ◌++◌, map, Bool, true, false, nat_eq, nat_le, Option, Some, None}
use Rattle.std.specs.Prelude.{option_map, slice_get, if◌then◌else◌, refl}
use Rattle.std.specs.Option.{option_map_or}
use Rattle.std.proofs.Common.{arith, ap, inl, inr, sym, ◌∙◌}
use Rattle.std.proofs.lemmas.Bool.{cases_eq, eq-eqb, eqb-true, leb-false, leb-true}
use Rattle.std.proofs.lemmas.Option.{same_Some, slice_get-map}
use Rattle.definitions.specs.Limits.{last_attempt}
use Rattle.run_plan.specs.declared.command.Attempt.{Attempt}
use Rattle.run_plan.specs.declared.command.Command.{Command}
use Rattle.run_plan.specs.declared.command.Command.TheVariants as command
use Rattle.run_plan.specs.declared.reply.Reply.TheVariants as reply
use Rattle.wf_value.specs.declared.code.Code.TheVariants.{LastCounter, NoRun, RunNotCompleted}
use Rattle.wf_value.specs.declared.refusal.Refusal.TheVariants.{Turn}
use Rattle.table_model.specs.Forgotten.{ForgottenRuns}
use Rattle.table_model.specs.Runs.{again, run_at, with_run, RunState}
use Rattle.table_model.proofs.Changed.{at_another, at_changed}
use Rattle.table_model.proofs.LegFacts.{attempt_at}
use Rattle.table_model.specs.Step.{after, replies, stepped, unchanged}
use Rattle.table_model.specs.Step.{answer_of_attempt, answer_of_next, entered_again, has_completed, outcome, refused, rerun_answer, rerunning, step}
use Rattle.table_model.specs.Step.{forgettable, forgot}
use Rattle.table_model.specs.TableState.{TableState, index_of, run_with}
use Rattle.run_table.proofs.BeginsAgain.{BeginsAgain, begins_again}
use Rattle.table_laws.specs.ExactlyOnce.{IsRefused}
use Rattle.table_laws.specs.Remembered.{AreNoOtherAttempts, IsNoOtherAttempt, IsNotForgotten, KnowsAttempt}
use Rattle.table_laws.proofs.ForgetSteps.{forgot_drops, run_then}
use Rattle.table_laws.proofs.RunsStay.{IsOfCourse, arrived_stays, settled_stays}
use Rattle.table_laws.proofs.StepsStay.{Keeps, forgotten_stays, step_stays, through_rises_on}
use Rattle.table_model.specs.declared.holder.Holder.TheVariants.{Run}

-- ---- a run begins again

abbrev attempt_in : RunState → ℕ
attempt_in x = x.attempt

its_attempt : IsOfCourse attempt_in
its_attempt x y event attempt = attempt

-- by index
by_place : (runs next : List RunState) → map attempt_in next ≡ map attempt_in runs → (k : ℕ) → attempt_at next k ≡ attempt_at runs k
by_place runs next same k =
    sym (slice_get-map attempt_in next k) ∙ ap (λ ns. slice_get ns k) same ∙ slice_get-map attempt_in runs k

module _ (t : TableState) (requested : Attempt) (begins : BeginsAgain t.runs (index_of t requested.run) requested.attempt) where
  abbrev r : ℕ
  r = index_of t requested.run

  abbrev reached : List RunState
  reached = (rerunning t requested).table.runs

  settled_at : (k : ℕ) → attempt_at reached k ≡ attempt_at (with_run r again t.runs) k
  settled_at =
      by_place (with_run r again t.runs) reached
      (settled_stays attempt_in its_attempt (entered_again t r).runs
      ∙ arrived_stays attempt_in its_attempt (Run r) (with_run r again t.runs))

  begun_at : (k : ℕ) → k ≡ r → attempt_at reached k ≡ Some requested.attempt
  begun_at k same =
      settled_at k ∙ ap (λ (i : ℕ). attempt_at (with_run r again t.runs) i) same
      ∙ ap (option_map attempt_in) (at_changed r again t.runs ∙ ap (option_map again) begins.there)
      ∙ ap (λ n. Some n) (sym begins.next)

  stays_elsewhere : (k : ℕ) → (k ≡ r → ⊥) → attempt_at reached k ≡ attempt_at t.runs k
  stays_elsewhere k other = settled_at k ∙ ap (option_map attempt_in) (at_another r again t.runs k other)

-- ---- the answer

-- an answer with the attempt means that it is the run's present attempt
answered_now : (x : RunState) (requested : Attempt) → answer_of_attempt x requested ≡ Some (reply.Again requested) → x.attempt ≡ requested.attempt
answered_now x requested is =
    elim (nat_eq requested.attempt x.attempt) as
    (λ b. nat_eq requested.attempt x.attempt ≡ b
    → (if b then Some (reply.Again requested)
    else (if nat_eq requested.attempt (x.attempt + 1) then answer_of_next x else Some (reply.Refused (Turn x.attempt)))) ≡ Some (reply.Again requested)
    → x.attempt ≡ requested.attempt) [
      | true ↦ λ same e. sym (eqb-true requested.attempt x.attempt same)
      | false ↦ λ other e. absurd (not_the_next (nat_eq requested.attempt (x.attempt + 1)) e)
    ] refl is
  where
    not_begun : (b c : Bool) → (if b then Some (refused LastCounter) else (if c then None else Some (refused RunNotCompleted)))
        ≡ Some (reply.Again requested) → ⊥
    not_begun true c e = cc
    not_begun false true e = cc
    not_begun false false e = cc

    not_the_next : (b : Bool) → (if b then answer_of_next x else Some (reply.Refused (Turn x.attempt))) ≡ Some (reply.Again requested) → ⊥
    not_the_next true e = not_begun (nat_le last_attempt x.attempt) (has_completed x.phase) e
    not_the_next false e = cc

answered_at : (o : Option RunState) (requested : Attempt)
    → option_map_or (λ x. answer_of_attempt x requested) o (Some (refused NoRun)) ≡ Some (reply.Again requested)
    → option_map (λ (x : RunState). x.attempt) o ≡ Some requested.attempt
answered_at None requested is = cc
answered_at (Some x) requested is = ap (λ n. Some n) (answered_now x requested is)

-- ---- the run with an id

-- no other run is found by an id up to the last that is forgotten
not_forgotten : (t : TableState) (run : ℕ) → t.forgotten.through < run → run_with t run ≡ run_at t.runs (index_of t run)
not_forgotten t run later =
    elim (nat_le run t.forgotten.through) as
    (λ b. nat_le run t.forgotten.through ≡ b → (if b then None else run_at t.runs (index_of t run)) ≡ run_at t.runs (index_of t run)) [
      | true ↦ λ is. absurd (omega (arith, later, leb-true run t.forgotten.through is))
      | false ↦ λ is. refl
    ] refl

-- of which the next attempt begins
is_there : (t : TableState) (requested : Attempt) → rerun_answer t requested ≡ None → t.forgotten.through < requested.run
is_there t requested =
    elim (nat_le requested.run t.forgotten.through) as
    (λ b. nat_le requested.run t.forgotten.through ≡ b
    → option_map_or (λ x. answer_of_attempt x requested) (if b then None else run_at t.runs (index_of t requested.run)) (Some (refused NoRun)) ≡ None
    → t.forgotten.through < requested.run) [
      | true ↦ λ is none. cc
      | false ↦ λ is none. leb-false requested.run t.forgotten.through is
    ] refl

known_at : (t : TableState) (run attempt : ℕ) → t.forgotten.through < run → attempt_at t.runs (index_of t run) ≡ Some attempt
    → KnowsAttempt t run attempt
known_at t run attempt later is = ap (option_map attempt_in) (not_forgotten t run later) ∙ is

at_known : (t : TableState) (run attempt : ℕ) → t.forgotten.through < run → KnowsAttempt t run attempt
    → attempt_at t.runs (index_of t run) ≡ Some attempt
at_known t run attempt later knows = ap (option_map attempt_in) (sym (not_forgotten t run later)) ∙ knows

-- ---- what a re-run leaves

pub begun_is_known : (t : TableState) (requested : Attempt) → (stepped t (command.Rerun requested)).reply ≡ reply.Again requested
    → KnowsAttempt (stepped t (command.Rerun requested)).table requested.run requested.attempt
begun_is_known t requested =
    elim (rerun_answer t requested) as
    (λ o. rerun_answer t requested ≡ o → (option_map_or (unchanged t) o (rerunning t requested)).reply ≡ reply.Again requested
    → KnowsAttempt (option_map_or (unchanged t) o (rerunning t requested)).table requested.run requested.attempt) [
      | None ↦ λ none given. known_at (rerunning t requested).table requested.run requested.attempt (is_there t requested none)
          (begun_at t requested (begins_again t requested none) (index_of t requested.run) refl)
      | Some answer ↦ λ is given. answered_at (run_with t requested.run) requested (is ∙ ap (λ y. Some y) given)
    ] refl

pub known_attempt_is_answered : (t : TableState) (requested : Attempt) → KnowsAttempt t requested.run requested.attempt
    → step t (command.Rerun requested) ≡ (t, reply.Again requested)
known_attempt_is_answered t requested knows =
    ap (λ o. outcome (option_map_or (unchanged t) o (rerunning t requested))) (answer_is (run_with t requested.run) knows)
  where
    answer_is : (o : Option RunState) → option_map (λ (x : RunState). x.attempt) o ≡ Some requested.attempt
        → option_map_or (λ x. answer_of_attempt x requested) o (Some (refused NoRun)) ≡ Some (reply.Again requested)
    answer_is None is = cc
    answer_is (Some x) is =
        ap (λ b. if b then Some (reply.Again requested)
        else (if nat_eq requested.attempt (x.attempt + 1) then answer_of_next x else Some (reply.Refused (Turn x.attempt))))
        (eq-eqb requested.attempt x.attempt (sym (same_Some x.attempt requested.attempt is)))

-- ---- the attempt does not change

prefix_stays : (ns ms : List ℕ) (k n : ℕ) → slice_get ns k ≡ Some n → slice_get (ns ++ ms) k ≡ Some n
prefix_stays [] ms k n e = cc
prefix_stays (m ∷ ns) ms zero n e = e
prefix_stays (m ∷ ns) ms (suc k) n e = prefix_stays ns ms k n e

kept_at : (t next : TableState) (k attempt : ℕ) → Keeps attempt_in its_attempt t next → attempt_at t.runs k ≡ Some attempt
    → attempt_at next.runs k ≡ Some attempt
kept_at t next k attempt keeps is =
    sym (slice_get-map attempt_in next.runs k) ∙ ap (λ ns. slice_get ns k) keeps.1
    ∙ prefix_stays (map attempt_in t.runs) keeps.0 k attempt (slice_get-map attempt_in t.runs k ∙ is)

-- a step that forgets no run
known_by : (t next : TableState) (run attempt : ℕ) → next.forgotten ≡ t.forgotten → t.forgotten.through < run
    → attempt_at next.runs (index_of t run) ≡ Some attempt → KnowsAttempt next run attempt
known_by t next run attempt same later is =
    let through = ap (λ (f : ForgottenRuns). f.through) same in
    known_at next run attempt (omega (arith, later, through)) (ap (λ n. attempt_at next.runs (run - n - 1)) through ∙ is)

still_known : (t : TableState) (requested : Attempt) (run attempt : ℕ) → t.forgotten.through < run → KnowsAttempt t run attempt
    → IsNoOtherAttempt run attempt (command.Rerun requested) (rerunning t requested).reply → rerun_answer t requested ≡ None
    → KnowsAttempt (rerunning t requested).table run attempt
still_known t requested run attempt later knows no_other none =
    let begins = begins_again t requested none in
    known_by t (rerunning t requested).table run attempt refl later
    (elim (cases_eq (index_of t run) (index_of t requested.run)) [
      | inr other ↦ stays_elsewhere t requested begins (index_of t run) other ∙ at_known t run attempt later knows
      | inl same ↦ elim (cases_eq requested.attempt attempt) [
        | inl this ↦ begun_at t requested begins (index_of t run) same ∙ ap (λ n. Some n) this
        | inr another ↦
            let there = is_there t requested none in
            absurd (began (no_other requested refl (omega (arith, same, later, there)) another))
      ]
    ])
  where
    began : IsRefused (reply.Again requested) → ⊥
    began refusal = cc refusal.1

forgot_known : (t : TableState) (id run attempt : ℕ) → KnowsAttempt t run attempt → IsNotForgotten (forgot t id).table run
    → KnowsAttempt (forgot t id).table run attempt
forgot_known t id run attempt knows later =
    let next = (forgot t id).table in
    let k = forgettable t id in
    let dropped = forgot_drops t id in
    let through = dropped.through in
    let before : t.forgotten.through < run = omega (arith, later, through) in
    let there : k + index_of next run ≡ index_of t run = omega (arith, later, through) in
    known_at next run attempt later
    (ap (option_map attempt_in) (run_then k t next dropped (index_of next run) ∙ ap (run_at t.runs) there) ∙ at_known t run attempt before knows)

pub attempt_after_step : (t : TableState) (c : Command) (run attempt : ℕ) → KnowsAttempt t run attempt
    → IsNoOtherAttempt run attempt c (stepped t c).reply → IsNotForgotten (stepped t c).table run
    → KnowsAttempt (stepped t c).table run attempt
attempt_after_step t (command.Rerun requested) run attempt knows =
    elim (rerun_answer t requested) as
    (λ o. rerun_answer t requested ≡ o
    → IsNoOtherAttempt run attempt (command.Rerun requested) (option_map_or (unchanged t) o (rerunning t requested)).reply
    → IsNotForgotten (option_map_or (unchanged t) o (rerunning t requested)).table run
    → KnowsAttempt (option_map_or (unchanged t) o (rerunning t requested)).table run attempt) [
      | None ↦ λ none no_other later. still_known t requested run attempt later knows no_other none
      | Some given ↦ λ is no_other later. knows
    ] refl
attempt_after_step t (command.Forget id) run attempt knows = λ no_other later. forgot_known t id run attempt knows later
attempt_after_step t c run attempt knows = λ no_other later.
    let same = forgotten_stays t c tt in
    let through = ap (λ (f : ForgottenRuns). f.through) same in
    let before : t.forgotten.through < run = omega (arith, later, through) in
    known_by t (stepped t c).table run attempt same before
    (kept_at t (stepped t c).table (index_of t run) attempt (step_stays attempt_in its_attempt t c tt) (at_known t run attempt before knows))

pub attempt_after : (t : TableState) (later : List Command) (run attempt : ℕ) → KnowsAttempt t run attempt
    → AreNoOtherAttempts run attempt later (replies t later) → IsNotForgotten (after t later) run → KnowsAttempt (after t later) run attempt
attempt_after t [] run attempt knows no_others there = knows
attempt_after t (c ∷ cs) run attempt knows no_others there =
    let next = (stepped t c).table in
    let rises = through_rises_on next cs in
    let still : IsNotForgotten next run = omega (arith, there, rises) in
    attempt_after next cs run attempt (attempt_after_step t c run attempt knows no_others.0 still) no_others.1 there
