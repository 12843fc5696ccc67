-- A job opens at the first place where a rule applies.
use Rattle.std.specs.Prelude.{◌≡◌, ◌+◌, ◌<◌, ℕ, List, [], length, nat_eq, true, false, Option, None, Some, option_and_then, option_map, slice_get, refl}
use Rattle.std.specs.List.{slice_index_or}
use Rattle.std.specs.Option.{option_map_or}
use Rattle.std.proofs.Common.{arith, ap, subst, sym, ◌∙◌}
use Rattle.std.proofs.lemmas.Bool.{and_from, true≢false}
use Rattle.std.proofs.lemmas.Option.{slice_get_within}
use Rattle.wf_value.specs.declared.outcome.JobResult.{JobResult}
use Rattle.run_plan.specs.PlanOf.{plan_of}
use Rattle.group_book.specs.Books.{BookState}
use Rattle.run_marks.specs.Marked.{is_marked}
use Rattle.table_model.specs.Changes.{changed}
use Rattle.table_model.specs.Runs.{changed_at, job_at, run_at, with_job, with_run, JobState, LegState, RunState, is_blocked, opened}
use Rattle.table_model.specs.Groups.{run_facts_at}
use Rattle.table_model.specs.Settling.{may_run, first_site}
use Rattle.table_model.specs.Sound.{LegsFit, RunsAreSound}
use Rattle.table_model.specs.LegContext.{planned_legs}
use Rattle.table_model.specs.declared.change.Change.TheVariants as change
use Rattle.table_model.specs.declared.holder.Holder.{Holder}
use Rattle.table_model.specs.declared.holder.Holder.TheVariants.{Leg}
use Rattle.table_model.specs.declared.phases.JobPhase.{JobPhase}
use Rattle.table_model.specs.declared.phases.JobPhase.TheVariants as job
use Rattle.table_model.specs.declared.sites.LegSite.{LegSite}
use Rattle.table_model.specs.declared.sites.RuleSite.TheVariants.{Opening}
use Rattle.table_model.proofs.Changed.{at_changed}
use Rattle.table_model.proofs.JobKeeps.{with_job_of}
use Rattle.table_model.proofs.Optional.{from_and_then, some_of}
use Rattle.table_model.proofs.RunFits.{RunsFit}
use Rattle.table_model.proofs.Settles.{StayFit}
use Rattle.table_model.proofs.Transitions.{changed_same}
use Rattle.table_bindings.specs.Bindings.{AreBound, group_request_of}
use Rattle.table_bindings.specs.BoundGroups.{is_set_by, results_by_index}
use Rattle.table_bindings.specs.declared.bindings.RunBindings.{RunBindings}
use Rattle.table_bindings.specs.declared.group_keys.HolderKey.{HolderKey}
use Rattle.table_bindings.specs.declared.groups.GroupRequest.{GroupRequest}
use Rattle.group_name.specs.BoundGroup.{group_at as bound_group_at}
use Rattle.table_bindings.proofs.BoundSays.{SaysBoth, run_says, said_there}
use Rattle.table_runs.proofs.FlagsSaid.{some_within}
use Rattle.settling_laws.proofs.KeptBack.{RunsStillFor}
use Rattle.settling_laws.proofs.GroupStays.{run_facts_stay}
use Rattle.settling_laws.proofs.SoundRuns.{runs_that_fit}
use Rattle.table_runs.specs.inner.GroupsKept.{AreTold, GroupsAreKept, arrivals_to_come, is_blocked_at, is_unopened}
use Rattle.table_runs.specs.inner.MarkedRuns.{AreMarked, is_due}
use Rattle.table_runs.specs.inner.RowsKept.{IsUndecided, keys_decided}
use Rattle.table_runs.proofs.DueStill.{due_changed}
use Rattle.table_runs.proofs.FirstRules.{opens, opens_where}
use Rattle.table_runs.proofs.Opening.{kept_opened, results_same, still_opened}

-- a job that is blocked has no legs
no_legs : (planned : ℕ) (gathered : JobResult) (phase : JobPhase) (legs : List LegState) → is_blocked phase ≡ true → LegsFit planned gathered phase legs
    → legs ≡ []
no_legs planned gathered job.Blocked legs is fits = fits
no_legs planned gathered job.Open legs is fits = absurd (true≢false (sym is))
no_legs planned gathered (job.Finished r) legs is fits = absurd (true≢false (sym is))

-- a change that opens the job writes it so
pub opened_is : (runs : List RunState) (r j : ℕ) → with_run r (changed (change.Open j)) runs ≡ with_job r j (opened (planned_legs runs r j)) runs
opened_is runs r j =
    changed_same runs r (changed (change.Open j)) (with_job_of j (opened (planned_legs runs r j)))
    (λ x at.
    ap (λ n. record x { jobs = changed_at j (opened n) x.jobs })
    (sym (ap (λ (o : Option RunState). option_map_or (λ planned. length planned.legs) (option_and_then (λ (y : RunState). slice_get (plan_of y.admitted.body) j) o) 0) at)))

module _ (runs : List RunState) (r j : ℕ) (sound : RunsAreSound runs) (first : first_site runs ≡ Some (Opening r j)) where
  abbrev fit : RunsFit runs
  fit = runs_that_fit runs sound

  abbrev its_job : JobState
  its_job = (opens runs r j fit first).job

  job_there : job_at runs r j ≡ Some its_job
  job_there = (opens runs r j fit first).there

  pub job_unopened : is_blocked_at runs r j ≡ true
  job_unopened =
      let none = no_legs (planned_legs runs r j) _ its_job.phase its_job.legs (opens runs r j fit first).blocked (sound.jobs_fit r j its_job job_there) in
      ap (λ o. option_map_or is_unopened o false) job_there
      ∙ and_from (is_blocked its_job.phase) (nat_eq (length its_job.legs) 0) (opens runs r j fit first).blocked
      (ap (λ (ls : List LegState). nat_eq (length ls) 0) none)

pub job_is_undecided : (runs : List RunState) (bindings : List RunBindings) (r j : ℕ) (sound : RunsAreSound runs) → AreTold runs bindings
    → (first : first_site runs ≡ Some (Opening r j)) → (kept : RunBindings) → slice_get bindings r ≡ Some kept → IsUndecided j kept
job_is_undecided runs bindings r j sound told first kept at legs here = told.room r j kept legs (job_unopened runs r j sound first) at here

module _ (runs : List RunState) (bindings : List RunBindings) (r j : ℕ) (sound : RunsAreSound runs) (bound : AreBound runs bindings)
    (told : AreTold runs bindings) (first : first_site runs ≡ Some (Opening r j)) where
  record Found : Type 0 where
    x : RunState
    there : run_at runs r ≡ Some x
    here : slice_get x.jobs j ≡ Some (its_job runs r j sound first)
    within : r < length runs
    kept : RunBindings
    at : slice_get bindings r ≡ Some kept
    legs : List HolderKey
    its_legs : slice_get kept.keys.jobs j ≡ Some legs

  found : Found
  found =
      let run = from_and_then (λ (y : RunState). slice_get y.jobs j) (run_at runs r) (its_job runs r j sound first) (job_there runs r j sound first) in
      let x = run.value in
      let in_runs : r < length runs = slice_get_within runs r x run.is in
      let row = some_of (slice_get bindings r) (some_within bindings r (omega (arith, in_runs, bound.as_many))) in
      let says = run_says runs bindings bound r x row.0 run.is row.1 in
      let in_jobs : j < length x.jobs = slice_get_within x.jobs j (its_job runs r j sound first) run.gives in
      let keys = some_of (slice_get (row.0).keys.jobs j)
      (some_within (row.0).keys.jobs j
      (omega (arith, in_jobs, sound.jobs_are_the_plans r x run.is, says.as_many, told.shaped r row.0 row.1))) in
      record { x = x; there = run.is; here = run.gives; within = in_runs; kept = row.0; at = row.1; legs = keys.0; its_legs = keys.1 }

  pub opened_within : r < length runs
  opened_within = found.within

  module _ (may : may_run runs r j ≡ true) where
    abbrev n : ℕ
    n = planned_legs runs r j

    abbrev next : List RunState
    next = with_job r j (opened n) runs

    stay : StayFit runs next
    stay = subst (StayFit runs) (opens_where runs r j may) (opens runs r j (runs_that_fit runs sound) first).settles.stay

    abbrev x_now : RunState
    x_now = with_job_of j (opened n) found.x

    results : results_by_index x_now ≡ results_by_index found.x
    results = ap (λ rs. λ (i : ℕ). slice_index_or rs i None) (results_same runs r j n (job_unopened runs r j sound first) found.x found.there)

    facts_stay : run_facts_at next r ≡ run_facts_at runs r
    facts_stay = run_facts_stay runs next r (stay.same_identity r) (stay.same_attempt r)

    says_after : (p : LegSite) → p.run ≡ r → SaysBoth next (Leg p) found.x found.kept
    says_after p is_r =
        let there_now : run_at next p.run ≡ Some x_now =
        ap (run_at next) is_r ∙ at_changed r (with_job_of j (opened n)) runs ∙ ap (option_map (with_job_of j (opened n))) found.there in
        let both = said_there next (Leg p) x_now found.kept r (sym is_r) there_now (λ facts is. bound.each r facts found.kept (sym facts_stay ∙ is) found.at) in (
          ap (λ rs. option_and_then (λ (a : GroupRequest). bound_group_at rs a.group) (group_request_of found.kept (Leg p))) (sym results) ∙ both.0,
          ap (λ rs. option_map_or (λ (a : GroupRequest). is_set_by rs a.cancels) (group_request_of found.kept (Leg p)) false) (sym results) ∙ both.1,
        )

    pub kept_open : (before later : BookState Holder) (without : ℕ)
        → arrivals_to_come (keys_decided r j runs bindings) + without ≡ arrivals_to_come bindings → later.entries ≡ before.entries
        → later.expected + without ≡ before.expected → GroupsAreKept runs bindings before
        → GroupsAreKept (with_run r (changed (change.Open j)) runs) (keys_decided r j runs bindings) later
    kept_open before later without fewer same forgone was =
        subst (λ rs. GroupsAreKept rs (keys_decided r j runs bindings) later) (sym (opened_is runs r j))
        (kept_opened runs bindings r j n found.x found.kept found.legs (job_unopened runs r j sound first) found.there found.at found.its_legs (runs_that_fit runs sound) stay says_after before later
        without fewer same forgone was)

    pub due_open : (old new : List ℕ) → ((i : ℕ) → is_marked old i ≡ true → is_marked new i ≡ true) → is_marked new r ≡ true → length new ≡ length old
        → AreMarked (is_due runs) runs old
        → AreMarked (is_due (with_run r (changed (change.Open j)) runs)) (with_run r (changed (change.Open j)) runs) new
    due_open old new kept itself as_long are =
        due_changed runs (changed (change.Open j)) old new r
        (λ s other none.
        subst (λ rs. RunsStillFor runs rs s) (sym (opened_is runs r j))
        (still_opened runs bindings r j n found.x found.kept found.legs (job_unopened runs r j sound first) found.there found.at found.its_legs (runs_that_fit runs sound) stay says_after s))
        kept itself as_long are
