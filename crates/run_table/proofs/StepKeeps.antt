-- Every step preserves the invariants of a table, and the empty table has them.
use Rattle.std.specs.Prelude.{◌≡◌, ℕ, ◌+◌, List, nat_le, true, false, Option, Some, None, if◌then◌else◌, refl}
use Rattle.std.specs.Option.{option_map_or}
use Rattle.std.proofs.Common.{arith}
use Rattle.std.proofs.lemmas.Option.{none-some}
use Rattle.wf_value.specs.declared.code.Code.TheVariants.{LeaseNotHeld, NoRun, NoRunner}
use Rattle.definitions.specs.SmallText.{Admitted}
use Rattle.run_plan.specs.declared.command.Attempt.{Attempt}
use Rattle.run_plan.specs.declared.command.Claim.{Claim as Claimed}
use Rattle.run_plan.specs.declared.command.Done.{Done as Reported}
use Rattle.run_plan.specs.declared.command.Command.{Command}
use Rattle.run_plan.specs.declared.command.Command.TheVariants as command
use Rattle.run_plan.specs.declared.reply.Reply.{Reply}
use Rattle.table_model.specs.Fitting.{first_fit}
use Rattle.table_model.specs.TableState.{Step, TableState, index_of, runner_named, with_runner, without_runner}
use Rattle.table_model.specs.Runs.{run_at, with_leg, with_run, leased_leg, RunState}
use Rattle.table_model.specs.declared.sites.LegSite.{LegSite}
use Rattle.table_model.specs.Sound.{IsSound}
use Rattle.table_model.specs.Step.{empty, entered, unchanged, admission_answer, admitting, admitted, claim_answer, claiming_runner}
use Rattle.table_model.specs.Step.{kept_lease_at, leasing, serving_nothing, claiming, claimed, report_answer, reporting_runner}
use Rattle.table_model.specs.Step.{answer_of_run, cancel_answer, cancelling, cancelled, losing, lost, refused, released}
use Rattle.table_model.specs.Stops.{outcome_of_loss, stopped_run, with_ended}
use Rattle.table_model.specs.Step.{discharge_answer, discharged, discharging}
use Rattle.table_model.specs.Step.{entered_again, reporting, reported, rerun, rerun_answer, rerunning, stepped, step}
use Rattle.run_plan.specs.declared.last_command.ClaimReply.TheVariants as given
use Rattle.run_table.proofs.ClaimKeeps.{serving_keeps, leasing_keeps}
use Rattle.run_table.proofs.CommandsOneEach.{ended_one_each, leased_one_each, stopped_one_each}
use Rattle.run_table.proofs.BeginsAgain.{begins_again}
use Rattle.run_table.proofs.Discharged.{discharge_keeps}
use Rattle.run_table.proofs.Entered.{entered_keeps, entered_one_each}
use Rattle.run_table.proofs.EnteredAgain.{entered_again_keeps, entered_again_one_each}
use Rattle.run_table.proofs.Kept.{kept_from_sound, kept_settles, rest_is_sound, sound_from_kept}
use Rattle.settling_laws.proofs.Forgot.{forgot_is_sound}
use Rattle.settling_laws.proofs.OneEach.{none_of_each}
use Rattle.run_table.proofs.ReportKeeps.{loss_keeps, loss_stays, report_keeps, report_stays}
use Rattle.table_model.proofs.StopKeeps.{stopped_run_settles}

-- a command leaves the table unchanged or changes it
answered_or_changed : (t : TableState) (answer : Option Reply) (change : Step) → IsSound t → (answer ≡ None → IsSound change.table)
    → IsSound (option_map_or (unchanged t) answer change).table
answered_or_changed t None change s h = h refl
answered_or_changed t (Some reply) change s h = s

admitted_is_sound : (t : TableState) (event : Admitted) → IsSound t → IsSound (admitted t event).table
admitted_is_sound t event s =
    answered_or_changed t (admission_answer t event) (admitting t event) s
    (λ none. rest_is_sound (record t { runs = (entered t event).runs }) (entered_keeps t event (kept_from_sound t s) none)
    (entered_one_each t event (kept_from_sound t s).fit s.one_of_each_group))

claiming_is_sound : (t : TableState) (claim : Claimed) → IsSound t → claim_answer t claim ≡ None → IsSound (claiming t claim).table
claiming_is_sound t claim s none =
    elim (first_fit claim.labels t.runs) as
    (λ o. first_fit claim.labels t.runs ≡ o → IsSound (option_map_or (leasing t claim) o (serving_nothing t claim)).table) [
      | None ↦ λ is. rest_is_sound (record t { runners = with_runner t.runners (claiming_runner claim None given.Nothing) })
          (serving_keeps t claim (kept_from_sound t s) none) s.one_of_each_group
      | Some p ↦ λ is. leased_is_sound p is
    ] refl
  where
    leased_is_sound : (p : LegSite) → first_fit claim.labels t.runs ≡ Some p → IsSound (leasing t claim p).table
    leased_is_sound p is =
        rest_is_sound
        (record t {
          last_lease = t.last_lease + 1;
          runs = with_leg p (λ _. leased_leg (t.last_lease + 1)) t.runs;
          runners =
              with_runner t.runners
              (claiming_runner claim (Some (t.last_lease + 1)) (given.Lease (kept_lease_at t.runs p (t.last_lease + 1))));
        })
        (leasing_keeps t claim p (kept_from_sound t s) none is)
        (leased_one_each t.runs (kept_from_sound t s).fit claim.labels p (t.last_lease + 1) is s.one_of_each_group)

claimed_is_sound : (t : TableState) (claim : Claimed) → IsSound t → IsSound (claimed t claim).table
claimed_is_sound t claim s = answered_or_changed t (claim_answer t claim) (claiming t claim) s (claiming_is_sound t claim s)

reported_is_sound : (t : TableState) (report : Reported) → IsSound t → IsSound (reported t report).table
reported_is_sound t report s =
    answered_or_changed t (report_answer t report) (reporting t report) s
    (λ none. rest_is_sound
    (record t { runs = with_ended report.lease report.result t.runs; runners = with_runner t.runners (reporting_runner report) })
    (report_keeps t report (kept_from_sound t s) none)
    (ended_one_each report.lease report.result t.runs (kept_from_sound t s).fit (report_stays t report (kept_from_sound t s) none)
    s.one_of_each_group))

-- a run exists if its cancel is not answered yet
run_there : (o : Option RunState) → option_map_or (λ (x : RunState). answer_of_run x.phase x.stopping) o (Some (refused NoRun)) ≡ None
    → (x : RunState) × (o ≡ Some x)
run_there None none = cc
run_there (Some x) none = (x, refl)

pub run_to_cancel : (t : TableState) (id : ℕ) → cancel_answer t id ≡ None → (x : RunState) × (run_at t.runs (index_of t id) ≡ Some x)
run_to_cancel t id none =
    elim (nat_le id t.forgotten.through) as
    (λ b. option_map_or (λ (x : RunState). answer_of_run x.phase x.stopping) (if b then None else run_at t.runs (index_of t id))
    (Some (refused NoRun)) ≡ None → (x : RunState) × (run_at t.runs (index_of t id) ≡ Some x)) [
      | true ↦ λ due. absurd (cc due)
      | false ↦ λ due. run_there (run_at t.runs (index_of t id)) due
    ] none

cancelled_is_sound : (t : TableState) (id : ℕ) → IsSound t → IsSound (cancelled t id).table
cancelled_is_sound t id s = answered_or_changed t (cancel_answer t id) (cancelling t id) s stopped_is_sound
  where
    stopped_is_sound : cancel_answer t id ≡ None → IsSound (cancelling t id).table
    stopped_is_sound none =
        let found = run_to_cancel t id none in
        let next = with_run (index_of t id) stopped_run t.runs in
        rest_is_sound (record t { runs = next })
        (kept_settles t next (kept_from_sound t s)
        (stopped_run_settles t.runs (kept_from_sound t s).fit (index_of t id) found.0 found.1))
        (stopped_one_each (index_of t id) t.runs (kept_from_sound t s).fit s.one_of_each_group)

rerun_is_sound : (t : TableState) (requested : Attempt) → IsSound t → IsSound (rerun t requested).table
rerun_is_sound t requested s =
    answered_or_changed t (rerun_answer t requested) (rerunning t requested) s
    (λ none.
    let begins = begins_again t requested none in
    let r = index_of t requested.run in
    rest_is_sound (record t { runs = (entered_again t r).runs }) (entered_again_keeps t r requested.attempt (kept_from_sound t s) begins)
    (entered_again_one_each t r requested.attempt (kept_from_sound t s).fit begins s.one_of_each_group))

lost_is_sound : (t : TableState) (name : List ℕ) → IsSound t → IsSound (lost t name).table
lost_is_sound t name s =
    elim (runner_named t.runners name) as
    (λ o. runner_named t.runners name ≡ o → IsSound (option_map_or
    (λ runner. option_map_or (losing t (released runner)) runner.holds (unchanged t (refused LeaseNotHeld))) o
    (unchanged t (refused NoRunner))).table) [
      | None ↦ λ is. s
      | Some runner ↦ λ is. elim (runner.holds) as
          (λ h. runner.holds ≡ h → IsSound (option_map_or (losing t (released runner)) h (unchanged t (refused LeaseNotHeld))).table) [
            | None ↦ λ none. s
            | Some lease ↦ λ holds. rest_is_sound
                (record t {
                  runs = with_ended lease (outcome_of_loss t.runs lease) t.runs;
                  runners =
                      with_runner t.runners (released runner);
                })
                (loss_keeps t name runner lease (kept_from_sound t s) is holds)
                (ended_one_each lease (outcome_of_loss t.runs lease) t.runs (kept_from_sound t s).fit
                (loss_stays t name runner lease (kept_from_sound t s) is holds) s.one_of_each_group)
          ] refl
    ] refl

-- a runner that holds no lease is dropped
discharged_is_sound : (t : TableState) (name : List ℕ) → IsSound t → IsSound (discharged t name).table
discharged_is_sound t name s =
    answered_or_changed t (discharge_answer t name) (discharging t name) s
    (λ none. sound_from_kept (record t { runners = without_runner t.runners name }) (discharge_keeps t name (kept_from_sound t s) none)
    s.one_of_each_group s.no_rule_applies)

pub stepped_is_sound : (t : TableState) (c : Command) → IsSound t → IsSound (stepped t c).table
stepped_is_sound t (command.Admit event) s = admitted_is_sound t event s
stepped_is_sound t (command.Claim claim) s = claimed_is_sound t claim s
stepped_is_sound t (command.Done report) s = reported_is_sound t report s
stepped_is_sound t (command.Beat beat) s = s
stepped_is_sound t (command.Cancel id) s = cancelled_is_sound t id s
stepped_is_sound t (command.Lost name) s = lost_is_sound t name s
stepped_is_sound t (command.Fetch id) s = s
stepped_is_sound t (command.Look id) s = s
stepped_is_sound t (command.Rerun requested) s = rerun_is_sound t requested s
stepped_is_sound t (command.Forget id) s = forgot_is_sound t id s
stepped_is_sound t (command.Discharge name) s = discharged_is_sound t name s

pub step_keeps : (t : TableState) (c : Command) → IsSound t → IsSound (step t c).0
step_keeps t c s = stepped_is_sound t c s

pub empty_is_sound : IsSound empty
empty_is_sound = record {
  few_runs = omega arith;
  last_id_in_range = omega arith;
  forgotten_fit = record { counts_in_order = refl; each_counts = tt; all_counted = refl; last_are_kept = omega arith };
  ids_follow = (λ r x e. absurd (none-some x e));
  numbers_follow = (λ r x e. absurd (none-some x e));
  deliveries_differ = (λ a b delivery e f. cc);
  attempts_are_given = (λ r x e. absurd (none-some x e));
  jobs_are_the_plans = (λ r x e. cc);
  run_phases_fit = (λ r x e. absurd (none-some x e));
  jobs_fit = (λ r j x e. absurd (none-some x e));
  needs_finished_first = (λ r j x e. absurd (none-some x e));
  parallel_bounded = (λ r j x most e f. absurd (none-some x e));
  leases_fit = (λ p x e. absurd (none-some x e));
  leases_are_given = (λ p x n e f. cc);
  leases_differ = (λ p q x y n e f g h. cc);
  last_lease_in_range = omega arith;
  runners_in_order = refl;
  work_is_held = (λ p x n e f g. absurd (none-some x e));
  held_is_at_work = (λ k x n e f. absurd (none-some x e));
  held_once = (λ a b x y n e f g h. cc);
  one_of_each_group = none_of_each;
  no_rule_applies = refl;
  lasts_are_own = (λ k x e. absurd (none-some x e));
  kept_leases_are_of_legs = (λ k x e. absurd (none-some x e));
}
