-- Each settling rule, and so settling, preserves what was decided about jobs.
use Rattle.std.specs.Prelude.{◌≡◌, ℕ, List, [], ◌∷◌, Bool, true, false, Some, None, slice_get, if◌then◌else◌, refl}
use Rattle.std.specs.List.{list_all, list_any}
use Rattle.std.specs.Option.{option_map_or}
use Rattle.std.proofs.Common.{ap, sym, ◌∙◌, subst}
use Rattle.std.proofs.lemmas.Bool.{and_parts}
use Rattle.wf_value.specs.declared.outcome.JobResult.TheVariants as result
use Rattle.wf_value.specs.declared.outcome.Outcome.TheVariants as outcome
use Rattle.needs_graph.specs.Needs.{condition_value, fails_job, was_cancelled}
use Rattle.group_name.specs.Group.{Group}
use Rattle.table_model.specs.Settling.{arrived, displaced, others_pending, room_made, stopped_where_requested, rule_at, settled}
use Rattle.table_model.specs.Groups.{cancels_in_progress, group_at, in_progress_in}
use Rattle.table_model.specs.GroupLaw.{Transition, at_each, without_moves}
use Rattle.table_model.specs.Runs.{run_at, job_at, with_run, with_job, JobState, RunState}
use Rattle.table_model.specs.Settling.{decided, leg_ends, may_run, result_at, with_leg_in}
use Rattle.table_model.specs.Runs.{leg_has_ended, is_done, is_open, leg_in_phase, opened, run_in_phase, finished_as}
use Rattle.table_model.specs.Stops.{displace, stop_holder, stopped, stopped_run}
use Rattle.table_model.specs.LegContext.{ancestor_results, condition_of, is_stopping, needs_have_finished, planned_legs}
use Rattle.table_model.specs.declared.phases.JobPhase.{JobPhase}
use Rattle.table_model.specs.declared.phases.JobPhase.TheVariants as job
use Rattle.table_model.specs.declared.phases.LegPhase.TheVariants as leg
use Rattle.table_model.specs.declared.phases.RunPhase.{RunPhase}
use Rattle.table_model.specs.declared.phases.RunPhase.TheVariants as run
use Rattle.table_model.specs.declared.sites.RuleSite.{RuleSite}
use Rattle.table_model.proofs.Changed.{holds_of_each}
use Rattle.table_model.proofs.JobKeeps.{job_in}
use Rattle.table_model.proofs.JobPhases.{is_open_open}
use Rattle.table_model.proofs.RunFits.{RunsFit, job_in_run}
use Rattle.table_model.proofs.Settles.{Settles, admitted_stays}
use Rattle.table_model.proofs.Transitions.{changed_none}
use Rattle.settling_laws.proofs.EachRule.{by_rule}
use Rattle.settling_laws.proofs.HoldersKeep.{displaced_settles, holder_stop_settles, no_run}
use Rattle.settling_laws.proofs.LivePlaces.{LivePlace}
use Rattle.settling_laws.proofs.RuleKeeps.{newcomer_waits, rule_settles}
use Rattle.settling_laws.proofs.SettlingKeeps.{settling_keeps}
use Rattle.table_laws.proofs.Decided.{Decided, JobDecided, NowDecided, all_decided, leg_change_decided, one_decided}
use Rattle.table_laws.proofs.StopDecided.{stopped_decided}
use Rattle.table_model.specs.declared.holder.Holder.{Holder}
use Rattle.table_model.specs.declared.holder.Holder.TheVariants.{Run, Leg}

-- ---- the rules

made_decided : (runs : List RunState) (r j n : ℕ) (y : JobState) (may stopping : Bool) → may_run runs r j ≡ may
    → is_stopping runs r ≡ stopping → needs_have_finished runs r j ≡ true
    → JobDecided runs r j ((if may then opened n else finished_as (if stopping then result.Cancelled else result.Skipped)) y).phase
made_decided runs r j n y true stopping is_may is_stop needs = needs
made_decided runs r j n y false true is_may is_stop needs = (needs, (λ e. cc))
made_decided runs r j n y false false is_may is_stop needs = (
  needs,
  (λ e. ap (λ s. condition_value (condition_of runs r j) (ancestor_results runs r j) s) (sym is_stop) ∙ is_may),
)

never_skipped : (a b : Bool) → (if a then result.Failure else (if b then result.Cancelled else result.Success)) ≡ result.Skipped → ⊥
never_skipped true b e = cc
never_skipped false true e = cc
never_skipped false false e = cc

open_needs : (runs : List RunState) (r j : ℕ) (phase : JobPhase) → phase ≡ job.Open → JobDecided runs r j phase
    → needs_have_finished runs r j ≡ true
open_needs runs r j phase e d = subst (JobDecided runs r j) e d

opening_now : (runs : List RunState) (r j : ℕ) (y : JobState) → job_at runs r j ≡ Some y → needs_have_finished runs r j ≡ true
    → Decided runs → NowDecided runs (with_job r j (decided runs r j) runs)
opening_now runs r j y was needs =
    one_decided runs r j (decided runs r j) y was
    (made_decided runs r j (planned_legs runs r j) y (may_run runs r j) (is_stopping runs r) refl refl needs)

closing_now : (runs : List RunState) (r j : ℕ) (y : JobState) → job_at runs r j ≡ Some y → is_done y ≡ true → Decided runs
    → NowDecided runs (with_job r j (finished_as (result_at runs r j y)) runs)
closing_now runs r j y was done all =
    let is_open = is_open_open y.phase (and_parts (is_open y.phase) (list_all leg_has_ended y.legs) done).0 in
    one_decided runs r j (finished_as (result_at runs r j y)) y was (
      open_needs runs r j y.phase is_open (all r j y was),
      (λ e. absurd (never_skipped (list_any fails_job (leg_ends runs r j y)) (list_any was_cancelled (leg_ends runs r j y)) e)),
    ) all

phase_now : (runs : List RunState) (r : ℕ) (x : RunState) (to : RunPhase) → run_at runs r ≡ Some x → Decided runs
    → NowDecided runs (with_run r (run_in_phase to) runs)
phase_now runs r x to was all =
    (λ s j y at.
    let new = job_in (with_run r (run_in_phase to) runs) s j y at in
    holds_of_each r (run_in_phase to) runs x
    (λ k v. (l : ℕ) (w : JobState) → slice_get v.jobs l ≡ Some w → JobDecided runs k l w.phase) was
    (λ l w e. all r l w (job_in_run runs r l x was ∙ e))
    (λ k v e l w d. all k l w (job_in_run runs k l v e ∙ d)) s new.run new.run_is j y new.job_is)

-- ---- stops and arrivals

stop_decided : (h : Holder) (runs : List RunState) → RunsFit runs → Decided runs → Decided (stop_holder h runs).runs
stop_decided (Run r) runs fit all =
    elim (run_at runs r) as (λ o. run_at runs r ≡ o → Decided (with_run r stopped_run runs)) [
      | None ↦ λ is. subst Decided (changed_none runs r stopped_run (λ x at. no_run (run_at runs r) x (stopped_run x) is at)) all
      | Some x ↦ λ is. stopped_decided runs fit all r x is
    ] refl
stop_decided (Leg p) runs fit all = leg_change_decided runs p stopped all

each_decided : (change : Holder → List RunState → Transition)
    → ((h : Holder) (runs : List RunState) → RunsFit runs → Settles runs (change h runs).runs)
    → ((h : Holder) (runs : List RunState) → RunsFit runs → Decided runs → Decided (change h runs).runs) → (hs : List Holder)
    → (runs : List RunState) → RunsFit runs → Decided runs → Decided (at_each change hs runs).runs
each_decided change settles one [] runs fit all = all
each_decided change settles one (h ∷ hs) runs fit all =
    each_decided change settles one hs (change h runs).runs (settles h runs fit).stay.fit (one h runs fit all)

requested_decided : (cancels : Bool) (g : Group) (runs : List RunState) → RunsFit runs → Decided runs
    → Decided (stopped_where_requested cancels g runs).runs
requested_decided true g runs fit all = each_decided stop_holder holder_stop_settles stop_decided (in_progress_in runs g) runs fit all
requested_decided false g runs fit all = all

pub arrival_decided : (newcomer : Holder) (runs : List RunState) → RunsFit runs → Decided runs → Decided (arrived newcomer runs).runs
arrival_decided newcomer runs fit all =
    let cancels = cancels_in_progress runs newcomer in
    elim (group_at runs newcomer) as
    (λ o. Decided (option_map_or (room_made cancels newcomer runs) o (without_moves runs)).runs) [
      | None ↦ all
      | Some g ↦
          let mid = (displaced g newcomer runs).runs in
          requested_decided cancels g mid (displaced_settles g newcomer runs fit).stay.fit
          (each_decided displace holder_stop_settles stop_decided (others_pending g newcomer runs) runs fit all)
    ]

-- ---- the rule at each place

-- if the change keeps what settling keeps, and each job was decided by the old runs
decided_after : (runs next : List RunState) → Decided runs → NowDecided runs next → Settles runs next → Decided next
decided_after runs next all now settles = all_decided runs next all (admitted_stays runs next settles.stay) settles.stay.keeps_results now

pub rule_decided : (runs : List RunState) (m : Transition) (site : RuleSite) → RunsFit runs → LivePlace runs site → rule_at runs site ≡ Some m
    → Decided runs → Decided m.runs
rule_decided runs m site fit live h all =
    let phase_decided = λ (r : ℕ) (x : RunState) (to : RunPhase) (was : run_at runs r ≡ Some x).
    decided_after runs (with_run r (run_in_phase to) runs) all (phase_now runs r x to was all) in
    by_rule runs (λ at made. Settles runs made.runs → Decided made.runs)
    (record {
      job_opens = (λ r j y was blocked needs.
          decided_after runs (with_job r j (decided runs r j) runs) all (opening_now runs r j y was needs all));
      leg_is_cancelled = (λ p z was is settles. leg_change_decided runs p (leg_in_phase (leg.Ended outcome.Cancelled)) all);
      leg_arrives = (λ p z was is settles.
          arrival_decided (Leg p) (with_leg_in leg.Waiting p runs) (newcomer_waits runs p z fit was is).stay.fit
          (leg_change_decided runs p (leg_in_phase leg.Waiting) all));
      leg_starts = (λ p z was is may settles. leg_change_decided runs p (leg_in_phase leg.Ready) all);
      job_settles = (λ r j y was done.
          decided_after runs (with_job r j (finished_as (result_at runs r j y)) runs) all (closing_now runs r j y was done all));
      run_starts = (λ r x was is may. phase_decided r x run.Live was);
      run_ends = (λ r x was is settled. phase_decided r x run.Ended was);
    }) m site h (rule_settles runs m site fit live h)

-- ---- settling

pub settled_decided : (runs : List RunState) → RunsFit runs → Decided runs → Decided (settled runs)
settled_decided = settling_keeps Decided rule_decided
