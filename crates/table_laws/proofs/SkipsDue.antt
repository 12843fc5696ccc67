-- Every step preserves what was decided about jobs, so it holds in each table that commands reach.
use Rattle.std.specs.Prelude.{◌≡◌, ℕ, ◌+◌, List, [], ◌∷◌, ◌++◌, drop, length, Option, Some, None, option_map, option_and_then, slice_get}
use Rattle.std.specs.Prelude.{true, false, if◌then◌else◌, refl}
use Rattle.std.specs.Option.{option_map_or}
use Rattle.std.proofs.Common.{ap, ap₂, sym, ◌∙◌, subst, inl, inr}
use Rattle.std.proofs.lemmas.Bool.{cases_eq}
use Rattle.std.proofs.lemmas.Option.{same_Some}
use Rattle.wf_value.specs.declared.code.Code.TheVariants.{LeaseNotHeld, NoRunner}
use Rattle.wf_value.specs.declared.condition.Condition.TheVariants as condition
use Rattle.wf_value.specs.declared.outcome.Outcome.{Outcome}
use Rattle.needs_graph.specs.Needs.{ancestor_results as results_of_ancestors, condition_value}
use Rattle.definitions.specs.SmallText.{Admitted}
use Rattle.run_plan.specs.PlanOf.{plan_of}
use Rattle.run_plan.specs.declared.command.Attempt.{Attempt}
use Rattle.run_plan.specs.declared.command.Claim.{Claim as Claimed}
use Rattle.run_plan.specs.declared.command.Done.{Done as Reported}
use Rattle.run_plan.specs.declared.command.Command.{Command}
use Rattle.run_plan.specs.declared.command.Command.TheVariants as command
use Rattle.run_plan.specs.declared.planned.PlannedJob.{PlannedJob}
use Rattle.run_plan.specs.declared.reply.Reply.{Reply}
use Rattle.table_model.specs.Fitting.{first_fit, site_of_lease}
use Rattle.table_model.specs.Step.{after, empty, entered, unchanged, admission_answer, admitting, admitted, claim_answer, leasing}
use Rattle.table_model.specs.Step.{discharge_answer, discharging, forgettable}
use Rattle.table_model.specs.TableState.{Step, TableState, index_of, runner_named}
use Rattle.table_model.specs.LegContext.{ancestor_results, condition_of}
use Rattle.table_model.specs.Runs.{needs_in, results_so_far, run_at, with_job, with_leg, with_run, again, leased_leg, JobState, RunState}
use Rattle.table_model.specs.Forgotten.{ForgottenRuns, next_run}
use Rattle.table_model.specs.declared.sites.LegSite.{LegSite}
use Rattle.table_model.specs.Settling.{leg_in_phase}
use Rattle.table_model.specs.Sound.{IsSound}
use Rattle.table_model.specs.Step.{entered_again, rerun, rerun_answer, rerunning}
use Rattle.table_model.specs.Step.{serving_nothing, claiming, claimed, report_answer, reporting, reported, stepped}
use Rattle.table_model.specs.Stops.{with_ended, after_end, outcome_of_loss, stopped_run, stops_others, with_stopped_legs}
use Rattle.table_model.specs.Step.{cancel_answer, cancelling, cancelled, losing, lost, refused, released}
use Rattle.table_model.specs.declared.phases.JobPhase.{JobPhase}
use Rattle.table_model.specs.declared.phases.JobPhase.TheVariants as job
use Rattle.table_model.specs.declared.phases.LegPhase.TheVariants as leg
use Rattle.run_table.proofs.AdmitKeeps.{all_fit, job_is_blocked}
use Rattle.run_table.proofs.ClaimKeeps.{leasing_keeps}
use Rattle.run_table.proofs.Entered.{entered_settles}
use Rattle.run_table.proofs.EnteredAgain.{again_fits, entered_again_settles}
use Rattle.table_model.proofs.Changed.{at_another, at_changed}
use Rattle.table_model.proofs.Found.{at_the_end, before_the_end}
use Rattle.table_model.proofs.JobKeeps.{job_in}
use Rattle.run_table.proofs.Kept.{kept_from_sound}
use Rattle.table_model.proofs.NeedsSettled.{result_in}
use Rattle.run_table.proofs.ReportKeeps.{loss_keeps, report_keeps}
use Rattle.table_model.proofs.RunFits.{job_in_run}
use Rattle.run_table.proofs.StepKeeps.{empty_is_sound, run_to_cancel, stepped_is_sound}
use Rattle.table_model.proofs.StopKeeps.{stopped_run_settles}
use Rattle.settling_laws.proofs.Dropped.{job_dropped, needs_dropped, plan_dropped, run_dropped}
use Rattle.table_laws.specs.Skips.{SkipsAreDue}
use Rattle.table_laws.proofs.Decided.{JobDecided, Decided, decided_stays, job_change_decided, leg_change_decided}
use Rattle.table_laws.proofs.ForgetSteps.{forgot_drops}
use Rattle.table_laws.proofs.RulesDecided.{arrival_decided, settled_decided}
use Rattle.table_laws.proofs.StopDecided.{stopped_decided}
use Rattle.table_model.specs.declared.holder.Holder.TheVariants.{Run}

-- ---- a new run

module _ (forgotten : ForgottenRuns) (runs : List RunState) (event : Admitted) (all : Decided runs) where
  blocked_decided : (r j : ℕ) (y : JobState) (x : RunState) → next_run forgotten runs event ≡ x → slice_get x.jobs j ≡ Some y
      → JobDecided (runs ++ next_run forgotten runs event ∷ []) r j y.phase
  blocked_decided r j y x is e =
      subst (λ (v : JobState). JobDecided (runs ++ next_run forgotten runs event ∷ []) r j v.phase)
      (job_is_blocked (plan_of event.body) j y (ap (λ (v : RunState). slice_get v.jobs j) is ∙ e)) tt

  new_run_decided : Decided (runs ++ next_run forgotten runs event ∷ [])
  new_run_decided r j y at =
      let next = runs ++ next_run forgotten runs event ∷ [] in
      let new = job_in next r j y at in
      elim (cases_eq r (length runs)) [
        | inl s ↦
            blocked_decided r j y new.run
            (same_Some (next_run forgotten runs event) new.run (sym (at_the_end runs (next_run forgotten runs event)) ∙ ap (slice_get next) (sym s) ∙ new.run_is))
            new.job_is
        | inr n ↦
            let before = before_the_end runs (next_run forgotten runs event) r n in
            decided_stays runs next all r (ap (option_map (λ (v : RunState). v.admitted)) before)
            (λ i a had. ap (option_and_then (λ (v : RunState). result_in v i)) before ∙ had) j y.phase
            (all r j y (job_in_run runs r j new.run (sym before ∙ new.run_is) ∙ new.job_is))
      ]

-- ---- a run that begins again

module _ (runs : List RunState) (r : ℕ) (all : Decided runs) where
  again_blocked : (k j : ℕ) (y : JobState) (o : Option RunState) (x : RunState) → option_map again o ≡ Some x → slice_get x.jobs j ≡ Some y
      → JobDecided (with_run r again runs) k j y.phase
  again_blocked k j y None x is e = cc
  again_blocked k j y (Some was) x is e =
      subst (λ (v : JobState). JobDecided (with_run r again runs) k j v.phase)
      (job_is_blocked (plan_of was.admitted.body) j y (ap (λ (v : RunState). slice_get v.jobs j) (same_Some (again was) x is) ∙ e)) tt

  again_decided : Decided (with_run r again runs)
  again_decided k j y at =
      let next = with_run r again runs in
      let its = job_in next k j y at in
      elim (cases_eq k r) [
        | inl same ↦
            again_blocked k j y (run_at runs r) its.run (sym (at_changed r again runs) ∙ ap (run_at next) (sym same) ∙ its.run_is) its.job_is
        | inr other ↦
            let before = at_another r again runs k other in
            decided_stays runs next all k (ap (option_map (λ (v : RunState). v.admitted)) before)
            (λ i a had. ap (option_and_then (λ (v : RunState). result_in v i)) before ∙ had) j y.phase
            (all k j y (job_in_run runs k j its.run (sym before ∙ its.run_is) ∙ its.job_is))
      ]

-- ---- the first runs are dropped

dropped_decided : (k : ℕ) (runs : List RunState) → Decided runs → Decided (drop k runs)
dropped_decided k runs all r j y at = its y.phase (all (k + r) j y (sym (job_dropped k runs r j) ∙ at))
  where
    condition_dropped : condition_of (drop k runs) r j ≡ condition_of runs (k + r) j
    condition_dropped = ap (λ o. option_map_or (λ (planned : PlannedJob). planned.condition) o condition.Never) (plan_dropped k runs r j)

    results_dropped : ancestor_results (drop k runs) r j ≡ ancestor_results runs (k + r) j
    results_dropped =
        ap (λ o. results_of_ancestors (option_map_or needs_in o []) (option_map_or (λ (x : RunState). results_so_far x.jobs) o []) j)
        (run_dropped k runs r)

    its : (phase : JobPhase) → JobDecided runs (k + r) j phase → JobDecided (drop k runs) r j phase
    its job.Blocked d = tt
    its job.Open d = needs_dropped k runs r j ∙ d
    its (job.Finished s) d = (
      needs_dropped k runs r j ∙ d.0,
      (λ e. ap₂ (λ c os. condition_value c os false) condition_dropped results_dropped ∙ d.1 e),
    )

-- ---- the steps

-- a command is answered from the table as it is, or changes the table
answered_or_changed : (t : TableState) (answer : Option Reply) (change : Step) → Decided t.runs
    → (answer ≡ None → Decided change.table.runs) → Decided (option_map_or (unchanged t) answer change).table.runs
answered_or_changed t None change all h = h refl
answered_or_changed t (Some reply) change all h = all

admitted_decided : (t : TableState) (event : Admitted) → IsSound t → Decided t.runs → Decided (admitted t event).table.runs
admitted_decided t event s all =
    answered_or_changed t (admission_answer t event) (admitting t event) all
    (λ none.
    let fit = (kept_from_sound t s).fit in
    settled_decided (entered t event).runs (entered_settles t event fit).stay.fit
    (arrival_decided (Run (length t.runs)) (t.runs ++ next_run t.forgotten t.runs event ∷ []) (all_fit t.forgotten t.runs event fit)
    (new_run_decided t.forgotten t.runs event all)))

claiming_decided : (t : TableState) (claim : Claimed) → IsSound t → Decided t.runs → claim_answer t claim ≡ None
    → Decided (claiming t claim).table.runs
claiming_decided t claim s all none =
    elim (first_fit claim.labels t.runs) as
    (λ o. first_fit claim.labels t.runs ≡ o → Decided (option_map_or (leasing t claim) o (serving_nothing t claim)).table.runs) [
      | None ↦ λ is. settled_decided t.runs (kept_from_sound t s).fit all
      | Some p ↦ λ is. settled_decided (with_leg p (λ _. leased_leg (t.last_lease + 1)) t.runs)
          (leasing_keeps t claim p (kept_from_sound t s) none is).fit (leg_change_decided t.runs p (λ _. leased_leg (t.last_lease + 1)) all)
    ] refl

claimed_decided : (t : TableState) (claim : Claimed) → IsSound t → Decided t.runs → Decided (claimed t claim).table.runs
claimed_decided t claim s all =
    answered_or_changed t (claim_answer t claim) (claiming t claim) all (claiming_decided t claim s all)

after_end_decided : (runs : List RunState) (p : LegSite) (o : Outcome) → Decided runs → Decided (after_end p o runs)
after_end_decided runs p o all =
    let ended = with_leg p (leg_in_phase (leg.Ended o)) runs in
    let ended_decided = leg_change_decided runs p (leg_in_phase (leg.Ended o)) all in
    elim (stops_others runs p o) as (λ stops. Decided (if stops then with_job p.run p.job with_stopped_legs ended else ended)) [
      | true ↦ job_change_decided ended p.run p.job with_stopped_legs (λ y. refl) ended_decided
      | false ↦ ended_decided
    ]

ended_decided : (runs : List RunState) (outcome : Outcome) (o : Option LegSite) → Decided runs
    → Decided (option_map_or (λ p. after_end p outcome runs) o runs)
ended_decided runs outcome None all = all
ended_decided runs outcome (Some p) all = after_end_decided runs p outcome all

reported_decided : (t : TableState) (report : Reported) → IsSound t → Decided t.runs → Decided (reported t report).table.runs
reported_decided t report s all =
    answered_or_changed t (report_answer t report) (reporting t report) all
    (λ none. settled_decided (with_ended report.lease report.result t.runs) (report_keeps t report (kept_from_sound t s) none).fit
    (ended_decided t.runs report.result (site_of_lease t.runs report.lease) all))

cancelled_decided : (t : TableState) (id : ℕ) → IsSound t → Decided t.runs → Decided (cancelled t id).table.runs
cancelled_decided t id s all =
    answered_or_changed t (cancel_answer t id) (cancelling t id) all
    (λ none.
    let found = run_to_cancel t id none in
    let fit = (kept_from_sound t s).fit in
    settled_decided (with_run (index_of t id) stopped_run t.runs) (stopped_run_settles t.runs fit (index_of t id) found.0 found.1).stay.fit
    (stopped_decided t.runs fit all (index_of t id) found.0 found.1))

rerun_decided : (t : TableState) (requested : Attempt) → IsSound t → Decided t.runs → Decided (rerun t requested).table.runs
rerun_decided t requested s all =
    let r = index_of t requested.run in
    let fit = (kept_from_sound t s).fit in
    answered_or_changed t (rerun_answer t requested) (rerunning t requested) all
    (λ none. settled_decided (entered_again t r).runs (entered_again_settles t r fit).stay.fit
    (arrival_decided (Run r) (with_run r again t.runs) (again_fits t.runs r fit) (again_decided t.runs r all)))

lost_decided : (t : TableState) (name : List ℕ) → IsSound t → Decided t.runs → Decided (lost t name).table.runs
lost_decided t name s all =
    elim (runner_named t.runners name) as
    (λ o. runner_named t.runners name ≡ o → Decided (option_map_or
    (λ runner. option_map_or (losing t (released runner)) runner.holds (unchanged t (refused LeaseNotHeld))) o
    (unchanged t (refused NoRunner))).table.runs) [
      | None ↦ λ is. all
      | Some runner ↦ λ is. elim (runner.holds) as
          (λ h. runner.holds ≡ h
          → Decided (option_map_or (losing t (released runner)) h (unchanged t (refused LeaseNotHeld))).table.runs) [
            | None ↦ λ none. all
            | Some lease ↦ λ holds.
                let outcome = outcome_of_loss t.runs lease in
                settled_decided (with_ended lease outcome t.runs) (loss_keeps t name runner lease (kept_from_sound t s) is holds).fit
                (ended_decided t.runs outcome (site_of_lease t.runs lease) all)
          ] refl
    ] refl

stepped_decided : (t : TableState) (c : Command) → IsSound t → Decided t.runs → Decided (stepped t c).table.runs
stepped_decided t (command.Admit event) s all = admitted_decided t event s all
stepped_decided t (command.Claim claim) s all = claimed_decided t claim s all
stepped_decided t (command.Done report) s all = reported_decided t report s all
stepped_decided t (command.Beat beat) s all = all
stepped_decided t (command.Cancel id) s all = cancelled_decided t id s all
stepped_decided t (command.Lost name) s all = lost_decided t name s all
stepped_decided t (command.Fetch id) s all = all
stepped_decided t (command.Look id) s all = all
stepped_decided t (command.Rerun requested) s all = rerun_decided t requested s all
stepped_decided t (command.Forget id) s all =
    subst Decided (sym (forgot_drops t id).runs) (dropped_decided (forgettable t id) t.runs all)
stepped_decided t (command.Discharge name) s all =
    answered_or_changed t (discharge_answer t name) (discharging t name) all (λ none. all)

-- ---- all commands

after_decided : (commands : List Command) (t : TableState) → IsSound t → Decided t.runs → Decided (after t commands).runs
after_decided [] t s all = all
after_decided (c ∷ cs) t s all = after_decided cs (stepped t c).table (stepped_is_sound t c s) (stepped_decided t c s all)

none_decided : Decided empty.runs
none_decided r j y e = cc

pub skips_due : (commands : List Command) → SkipsAreDue (after empty commands).runs
skips_due commands r j x at is =
    let runs = (after empty commands).runs in
    let d = subst (JobDecided runs r j) is (after_decided commands empty empty_is_sound none_decided r j x at) in
    (d.0, d.1 refl)
