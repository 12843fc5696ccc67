-- Each step preserves the law of every group.
use Rattle.std.specs.Prelude.{◌≡◌, ◌⊎◌, ℕ, ◌+◌, List, [], ◌∷◌, ◌++◌, length, Bool, true, false, Option, Some, None}
use Rattle.std.specs.Prelude.{map, option_map}
use Rattle.std.specs.Prelude.{slice_get, if◌then◌else◌, refl}
use Rattle.std.specs.Option.{option_map_or}
use Rattle.std.proofs.Common.{ap, inl, inr, sym, ◌∙◌, subst}
use Rattle.std.proofs.lemmas.Bool.{cases_eq, false≢true, true≢false}
use Rattle.std.proofs.lemmas.Option.{none-some, same_Some, slice_get-map}
use Rattle.wf_value.specs.declared.outcome.Outcome.{Outcome}
use Rattle.group_name.specs.Group.{Group}
use Rattle.definitions.specs.SmallText.{Admitted}
use Rattle.run_plan.specs.PlanOf.{plan_of}
use Rattle.run_plan.specs.declared.command.Attempt.{Attempt}
use Rattle.run_plan.specs.declared.command.Claim.{Claim as Claimed}
use Rattle.run_plan.specs.declared.command.Command.{Command}
use Rattle.run_plan.specs.declared.command.Command.TheVariants as command
use Rattle.run_plan.specs.declared.command.Done.{Done as Reported}
use Rattle.run_plan.specs.declared.last_command.ClaimReply.TheVariants as given
use Rattle.run_plan.specs.declared.planned.PlannedJob.{PlannedJob}
use Rattle.run_plan.specs.declared.reply.Reply.{Reply}
use Rattle.run_plan.specs.declared.reply.Reply.TheVariants as reply
use Rattle.wf_value.specs.declared.code.Code.TheVariants.{LeaseNotHeld, NoRunner}
use Rattle.table_model.specs.Fitting.{first_fit, has_lease, site_of_lease, is_at_work}
use Rattle.table_model.specs.Groups.{cancels_in_progress, HasOneEach, holds, is_in, leg_holds}
use Rattle.table_model.specs.GroupLaw.{Move, Transition, without_moves}
use Rattle.table_model.specs.TableState.{Step, RunnerState, TableState, index_of, last_id, runner_named, with_runner}
use Rattle.table_model.specs.Runs.{job_at, leg_at, leg_sites, run_at, with_job, with_leg, leg_has_ended, leg_in_phase, RunState}
use Rattle.table_model.specs.declared.sites.LegSite.{LegSite}
use Rattle.table_model.specs.Settling.{remaining_phases, settled, settling}
use Rattle.table_model.specs.Sound.{IsSound}
use Rattle.table_model.specs.Step.{admission_answer, admitted, admitting, at_rest_after, cancel_answer, cancelled, serving_nothing, stepped}
use Rattle.table_model.specs.Runs.{blocked_job, leased_leg}
use Rattle.table_model.specs.Forgotten.{ForgottenRuns, next_run}
use Rattle.table_model.specs.Step.{cancelling, claim_answer, claimed, claiming, claiming_runner, entered, kept_lease_at, lease_at, leasing, losing, lost}
use Rattle.table_model.specs.Stops.{lease_end_moves, with_ended, end_moves, legs_stop_moves, others_stop_moves, stop_holder}
use Rattle.table_model.specs.Step.{refused, released, report_answer, reported, reporting, reporting_runner, rerun, rerun_answer, rerunning}
use Rattle.table_model.specs.Step.{discharge_answer, discharging, forgettable, forgot, unchanged}
use Rattle.table_model.specs.Stops.{after_end, outcome_of_loss, stops_others, with_stopped_legs}
use Rattle.table_model.specs.declared.phases.LegPhase.{LegPhase}
use Rattle.table_model.specs.declared.phases.LegPhase.TheVariants as leg
use Rattle.run_table.proofs.AdmitKeeps.{all_fit}
use Rattle.run_table.proofs.BeginsAgain.{BeginsAgain, begins_again}
use Rattle.run_table.proofs.ClaimKeeps.{fitting_leg}
use Rattle.run_table.proofs.CommandsOneEach.{ended_one_each, leased_fades, leased_one_each, stopped_one_each}
use Rattle.run_table.proofs.Entered.{entered_keeps, entered_one_each, entered_settles, held, new_run_waits, waited}
use Rattle.table_model.proofs.Found.{at_the_end, before_the_end, find_passes}
use Rattle.table_model.proofs.JobKeeps.{leg_elsewhere, leg_in, leg_now, leg_stays}
use Rattle.settling_laws.proofs.AddedRun.{groups_before}
use Rattle.settling_laws.proofs.HoldersFade.{leg_fades, leg_passes, legs_stop_fades, passes}
use Rattle.settling_laws.proofs.HoldersKeep.{run_stop_settles}
use Rattle.run_table.proofs.Kept.{kept_from_sound}
use Rattle.table_model.proofs.LegReads.{had_at, had_is, leg_from_works, work_parts, works_at}
use Rattle.settling_laws.proofs.OneEach.{Comes}
use Rattle.run_table.proofs.ReportKeeps.{has_it, held_for_loss, held_for_report, loss_keeps, loss_stays, report_keeps, report_stays}
use Rattle.run_table.proofs.ReportKeeps.{work_at}
use Rattle.table_model.proofs.RunFits.{RunsFit}
use Rattle.run_table.proofs.RunnerPut.{stood}
use Rattle.table_model.proofs.Settles.{StayFit}
use Rattle.settling_laws.proofs.ArrivalKeeps.{itself}
use Rattle.settling_laws.proofs.SettlingKeeps.{settling_settles}
use Rattle.settling_laws.proofs.HaveEnded.{HaveEnded}
use Rattle.table_laws.proofs.ChangesTold.{leg_tells, legs_stop_tells, only_none, only_one}
use Rattle.table_laws.proofs.ForgetSteps.{Dropped, forgot_drops, forgot_ended, forgot_is_silent}
use Rattle.table_laws.proofs.GroupsKept.{Grows, grows_not, grows_on, new_run_grows, past_the_end, stays_grows}
use Rattle.table_laws.proofs.HolderStatus.{Goes, Status, ends_at_once, goes_over, goes_to_arrive, leg_status, status, status_by}
use Rattle.table_laws.proofs.HolderStatus.{status_by_run, status_in_job, status_in_run, status_of_leg, status_of_run}
use Rattle.table_laws.proofs.LawSoFar.{GoesOn, end_is_quiet, goes_on_still, goes_on_then, quiet_goes_on, stop_is_quiet, stops_are_quiet}
use Rattle.table_laws.proofs.LawSoFar.{unmoved_is_quiet}
use Rattle.table_laws.proofs.OnlyStops.{job_stops}
use Rattle.table_laws.proofs.OwnMoves.{own}
use Rattle.table_laws.proofs.RulesLaw.{first_arrival_keeps, settled_keeps}
use Rattle.table_laws.proofs.StopsTold.{Tells, goes_by, goes_same}
use Rattle.table_laws.proofs.Unbegun.{Still, leg_still, legs_all_still, new_run_still}
use Rattle.table_model.specs.declared.holder.Holder.{Holder}
use Rattle.table_model.specs.declared.holder.Holder.TheVariants.{Run, Leg}

-- ---- a new run

pub no_leg_yet : (j l : ℕ) (event : Admitted)
    → status_by (status_in_job l) (slice_get (map (λ _. blocked_job) (plan_of event.body)) j) ≡ Status.unarrived
no_leg_yet j l event = ap (status_by (status_in_job l)) (slice_get-map (λ _. blocked_job) (plan_of event.body) j)
    ∙ none (slice_get (plan_of event.body) j)
  where
    none : (o : Option PlannedJob) → status_by (status_in_job l) (option_map (λ _. blocked_job) o) ≡ Status.unarrived
    none None = refl
    none (Some planned) = refl

module _ (forgotten : ForgottenRuns) (runs : List RunState) (event : Admitted) where
  new_is_unseen : status runs (Run (length runs)) ≡ Status.unarrived
  new_is_unseen = ap (status_by status_of_run) (past_the_end runs (length runs) refl)

  new_run_tells : Tells runs (record { runs = runs ++ next_run forgotten runs event ∷ []; moves = Move.arrive (Run (length runs)) ∷ [] })
  new_run_tells (Run r) =
      let next = runs ++ next_run forgotten runs event ∷ [] in
      let n = Run (length runs) in
      let arrives : List Move = Move.arrive n ∷ [] in
      elim (cases_eq r (length runs)) [
        | inl same ↦ subst (λ (k : ℕ). Goes (Run k) (status runs (Run k)) (own (Run k) arrives) (status next
            (Run k)))
            (sym same)
            (goes_by n (status runs n) (status next n) (own n arrives) arrives (sym (ap (λ b. if b then arrives else []) (itself n)))
            (subst (λ (s : Status). Goes n s arrives (status next n)) (sym new_is_unseen)
            (subst (λ (s : Status). Goes n Status.unarrived arrives s) (sym (ap (status_by status_of_run) (at_the_end runs
            (next_run forgotten runs event))))
            (goes_to_arrive n))))
        | inr other ↦
            let h = Run r in
            goes_by h (status runs h) (status next h) (own h arrives) [] (sym (only_one n (Move.arrive n) refl h (λ e. other (run_is r e))))
            (goes_same h (status runs h) (status next h) (ap (status_by status_of_run) (before_the_end runs (next_run forgotten runs event) r other)))
      ]
    where
      run_is : (r : ℕ) → Run r ≡ Run (length runs) → r ≡ length runs
      run_is r e = cc
  new_run_tells (Leg q) =
      let next = runs ++ next_run forgotten runs event ∷ [] in
      let n = Run (length runs) in
      let h = Leg q in
      let arrives : List Move = Move.arrive n ∷ [] in
      goes_by h (status runs h) (status next h) (own h arrives) [] (sym (only_one n (Move.arrive n) refl h (λ e. cc)))
      (goes_same h (status runs h) (status next h) (status_by_run next q ∙ same_leg q ∙ sym (status_by_run runs q)))
    where
      same_leg : (q : LegSite)
          → status_by (status_in_run q.job q.leg) (run_at (runs ++ next_run forgotten runs event ∷ []) q.run) ≡ status_by (status_in_run q.job q.leg)
          (run_at runs q.run)
      same_leg q =
          let of_leg = status_by (status_in_run q.job q.leg) in
          elim (cases_eq q.run (length runs)) [
            | inl same ↦
                ap (λ (k : ℕ). of_leg (run_at (runs ++ next_run forgotten runs event ∷ []) k)) same ∙ ap of_leg (at_the_end runs (next_run forgotten runs event))
                ∙ no_leg_yet q.job q.leg event ∙ sym (ap of_leg (past_the_end runs q.run same))
            | inr other ↦ ap of_leg (before_the_end runs (next_run forgotten runs event) q.run other)
          ]

-- ---- the leg with a lease ends

at_work_holds : (phase : LegPhase) → is_at_work phase ≡ true → leg_holds phase ≡ true
at_work_holds leg.New e = cc
at_work_holds leg.Waiting e = cc
at_work_holds leg.Ready e = cc
at_work_holds leg.Running e = refl
at_work_holds leg.Stopping e = refl
at_work_holds (leg.Ended r) e = cc

module _ (in_group cancels : Holder → Bool) (runs : List RunState) (p : LegSite) (o : Outcome) (lease : ℕ) (works : works_at runs p
    ≡ Some lease) where
  it_holds : holds runs (Leg p) ≡ true
  it_holds =
      let from = leg_from_works runs p lease works in
      ap (passes (leg_passes leg_holds)) from.is
      ∙ at_work_holds from.value.phase (work_parts (is_at_work from.value.phase) from.value.lease lease from.gives).0

  end_tells : Tells runs (record { runs = with_leg p (leg_in_phase (leg.Ended o)) runs; moves = Move.end_with o (Leg p) ∷ [] })
  end_tells =
      let h = Leg p in
      let ends : List Move = Move.end_with o h ∷ [] in
      let from = leg_from_works runs p lease works in
      leg_tells p (leg_in_phase (leg.Ended o)) runs ends
      (λ z is. goes_by h (status_of_leg z) Status.over (own h ends) ends (sym (ap (λ b. if b then ends else []) (itself h)))
      (goes_over h (status_of_leg z) ends (ends_at_once h o)))
      (λ none. absurd (none-some from.value (sym none ∙ from.is))) (only_one h (Move.end_with o h) refl)

  end_still : Still runs (with_leg p (leg_in_phase (leg.Ended o)) runs)
  end_still =
      let f = leg_in_phase (leg.Ended o) in
      let from = leg_from_works runs p lease works in
      let z = from.value in
      let place = leg_in runs p z from.is in
      leg_still runs p z f from.is (leg_now runs p z f place) (leg_elsewhere runs p z f place)
      (λ before now. true≢false
      (sym (at_work_holds z.phase (work_parts (is_at_work z.phase) z.lease lease from.gives).0) ∙ before))

  end_goes_on : GoesOn in_group cancels runs
      (record { runs = with_leg p (leg_in_phase (leg.Ended o)) runs; moves = Move.end_with o (Leg p) ∷ [] })
  end_goes_on =
      let next = with_leg p (leg_in_phase (leg.Ended o)) runs in
      quiet_goes_on in_group cancels runs (record { runs = next; moves = Move.end_with o (Leg p) ∷ [] })
      (end_is_quiet in_group cancels runs next o (Leg p) end_tells
      (leg_fades (leg_in_phase (leg.Ended o)) p runs (λ v e. absurd (false≢true e))
      (λ v e. absurd (false≢true e))).waited end_still it_holds)

  after_end_goes_on : GoesOn in_group cancels runs (record { runs = after_end p o runs; moves = end_moves p o runs })
  after_end_goes_on =
      let ended = with_leg p (leg_in_phase (leg.Ended o)) runs in
      let change : List RunState → Transition = λ rs. record {
        runs = with_job p.run p.job with_stopped_legs rs;
        moves = option_map_or (λ job. legs_stop_moves p.run p.job job.legs) (job_at rs p.run p.job) [];
      } in
      elim (stops_others runs p o) as
      (λ b. GoesOn in_group cancels runs (record {
        runs = if b then with_job p.run p.job with_stopped_legs ended else ended;
        moves =
            Move.end_with o (Leg p) ∷ (if b then others_stop_moves p o runs else []);
      })) [
        | true ↦
            goes_on_then in_group cancels runs (record { runs = ended; moves = Move.end_with o (Leg p) ∷ [] }) change end_goes_on
            (quiet_goes_on in_group cancels ended (change ended)
            (stops_are_quiet in_group cancels ended (change ended) (legs_stop_tells p.run p.job ended) (job_stops p.run p.job ended)
            (legs_stop_fades p.run p.job ended).waited (legs_all_still ended p.run p.job)))
        | false ↦ end_goes_on
      ]

lease_end_goes_on : (in_group cancels : Holder → Bool) (runs : List RunState) (lease : ℕ) (o : Outcome)
    → ((p : LegSite) → site_of_lease runs lease ≡ Some p → works_at runs p ≡ Some lease)
    → GoesOn in_group cancels runs (record { runs = with_ended lease o runs; moves = lease_end_moves lease o runs })
lease_end_goes_on in_group cancels runs lease o works =
    elim (site_of_lease runs lease) as
    (λ x. site_of_lease runs lease ≡ x → GoesOn in_group cancels runs (record {
      runs = option_map_or (λ p. after_end p o runs) x runs;
      moves =
          option_map_or (λ p. end_moves p o runs) x [];
    })) [
      | None ↦ λ is. goes_on_still in_group cancels runs
      | Some p ↦ λ is. after_end_goes_on in_group cancels runs p o lease (works p is)
    ] refl

-- the leg with a lease that a runner holds is at work
found_has : (runs : List RunState) (lease : ℕ) (p : LegSite) → site_of_lease runs lease ≡ Some p → had_at runs p ≡ Some lease
found_has runs lease p is =
    sym (had_is runs p)
    ∙ has_it lease (leg_at runs p)
    (find_passes (λ (q : LegSite). option_map_or (has_lease lease) (leg_at runs q) false) (leg_sites runs) p is)

-- ---- the steps

module _ (g : Group) where
  -- the groups, and which holders cancel what is in progress, are those of the table after the step
  abbrev GoesOnTo : List RunState → List RunState → Transition → Type 0
  GoesOnTo reached runs m =
      (cancels : Holder → Bool) → ((h : Holder) → cancels h ≡ true → cancels_in_progress reached h ≡ true)
      → GoesOn (is_in reached g) cancels runs m

  -- a step in which a run begins again
  pub record RunsAgain (t : TableState) (c : Command) (s : Step) : Type 0 where
    pub requested : Attempt
    pub command_is : c ≡ command.Rerun requested
    pub begins : BeginsAgain t.runs (index_of t requested.run) requested.attempt
    pub is : s ≡ rerunning t requested

  -- a step in which the first runs, which have ended, are dropped
  pub record Forgets (t : TableState) (s : Step) : Type 0 where
    pub gone : ℕ
    pub ended : HaveEnded gone t.runs
    pub dropped : Dropped gone t s.table
    pub silent : s.moves ≡ []

  -- a step in which no run begins again and none is dropped
  pub record StepSays (t : TableState) (s : Step) : Type 0 where
    pub same_forgotten : s.table.forgotten.through ≡ t.forgotten.through
    pub grows : Grows t.runs s.table.runs
    pub goes_on : GoesOnTo s.table.runs t.runs (record { runs = s.table.runs; moves = s.moves })

  abbrev pub Says : TableState → Command → Step → Type 0
  Says t c s = StepSays t s ⊎ (RunsAgain t c s ⊎ Forgets t s)

  unchanged_says : (t : TableState) (r : Reply) → StepSays t (unchanged t r)
  unchanged_says t r = record {
    same_forgotten = refl;
    grows = grows_not t.runs;
    goes_on = (λ cancels requests. goes_on_still (is_in t.runs g) cancels t.runs);
  }

  -- a change followed by settling
  rest_says : (t u : TableState) (moves : List Move) (r : Reply) → u.forgotten.through ≡ t.forgotten.through → RunsFit u.runs
      → HasOneEach u.runs → Grows t.runs u.runs
      → GoesOnTo (settled u.runs) t.runs (record { runs = u.runs; moves = moves })
      → StepSays t (at_rest_after moves u r)
  rest_says t u moves r same fit each grows first =
      let rests = stays_grows u.runs (settled u.runs) (settling_settles u.runs fit).stay in
      record {
        same_forgotten = same;
        grows = grows_on t.runs u.runs (settled u.runs) grows rests;
        goes_on = (λ cancels requests.
            goes_on_then (is_in (settled u.runs) g) cancels t.runs (record { runs = u.runs; moves = moves }) settling (first cancels requests)
            (settled_keeps (settled u.runs) g cancels requests (remaining_phases u.runs) u.runs fit each (grows_not (settled u.runs))));
      }

  either_says : (t : TableState) (answer : Option Reply) (change : Step) → (answer ≡ None → StepSays t change)
      → StepSays t (option_map_or (unchanged t) answer change)
  either_says t None change says = says refl
  either_says t (Some r) change says = unchanged_says t r

  admit_says : (t : TableState) (event : Admitted) → IsSound t → StepSays t (admitted t event)
  admit_says t event s =
      either_says t (admission_answer t event) (admitting t event) (λ none.
      let kept = kept_from_sound t s in
      let now = t.runs ++ next_run t.forgotten t.runs event ∷ [] in
      let n = Run (length t.runs) in
      let u = record t { runs = (entered t event).runs } in
      let fit_u = (entered_keeps t event kept none).fit in
      let entry = stays_grows now u.runs (entered_settles t event kept.fit).stay in
      let comes : Comes t.runs now n = record { waited = waited t.forgotten t.runs event; held = held t.forgotten t.runs event } in
      rest_says t u (entered t event).moves (reply.Created (last_id t + 1)) refl fit_u
      (entered_one_each t event kept.fit s.one_of_each_group)
      (grows_on t.runs now u.runs (new_run_grows t.forgotten t.runs event) entry)
      (λ cancels requests. first_arrival_keeps (settled u.runs) g cancels requests t.runs now n (all_fit t.forgotten t.runs event kept.fit)
      (new_run_tells t.forgotten t.runs event)
      (new_is_unseen t.forgotten t.runs event) comes (new_run_waits t.forgotten t.runs event) (groups_before t.runs (next_run t.forgotten t.runs event)) s.one_of_each_group
      (new_run_still t.forgotten t.runs event (all_fit t.forgotten t.runs event kept.fit) (new_run_waits t.forgotten t.runs event))
      (stays_grows u.runs (settled u.runs) (settling_settles u.runs fit_u).stay)))

  lease_says : (t : TableState) (claim : Claimed) (p : LegSite) → IsSound t → claim_answer t claim ≡ None
      → first_fit claim.labels t.runs ≡ Some p
      → StepSays t (leasing t claim p)
  lease_says t claim p s none is =
      let kept = kept_from_sound t s in
      let lease = t.last_lease + 1 in
      let next = with_leg p (λ _. leased_leg lease) t.runs in
      let ready = fitting_leg claim.labels t.runs p is in
      let z = ready.leg_of in
      let unended : leg_has_ended z ≡ false = ap (λ (phase : LegPhase). leg_has_ended (record z { phase = phase })) ready.ready in
      let place = leg_in t.runs p z ready.is in
      let stay = leg_stays t.runs kept.fit p z (λ _. leased_leg lease) place unended refl in
      let tells : Tells t.runs (without_moves next) =
      leg_tells p (λ _. leased_leg lease) t.runs []
      (λ y at. goes_same (Leg p) (status_of_leg y) (Status.in_progress false)
      (sym (ap status_of_leg (same_Some y z (sym at ∙ ready.is)) ∙ ap leg_status ready.ready))) (λ nothing. refl) (only_none
      (Leg p)) in
      rest_says t (record t {
        last_lease = lease;
        runs = next;
        runners =
            with_runner t.runners (claiming_runner claim (Some lease) (given.Lease (kept_lease_at t.runs p lease)));
      }) [] (reply.Lease (lease_at t.runs p lease)) refl stay.fit (leased_one_each t.runs kept.fit claim.labels p lease is s.one_of_each_group)
      (stays_grows t.runs next stay)
      (λ cancels requests. quiet_goes_on (is_in (settled next) g) cancels t.runs (without_moves next)
      (unmoved_is_quiet (is_in (settled next) g) cancels t.runs next tells (leased_fades t.runs kept.fit claim.labels p lease is).waited
      (leg_still t.runs p z (λ _. leased_leg lease) ready.is (leg_now t.runs p z (λ _. leased_leg lease) place)
      (leg_elsewhere t.runs p z (λ _. leased_leg lease) place) (λ before now. true≢false now))))

  claim_says : (t : TableState) (claim : Claimed) → IsSound t → StepSays t (claimed t claim)
  claim_says t claim s =
      either_says t (claim_answer t claim) (claiming t claim) (λ none.
      elim (first_fit claim.labels t.runs) as
      (λ o. first_fit claim.labels t.runs ≡ o → StepSays t (option_map_or (leasing t claim) o (serving_nothing t claim))) [
        | None ↦ λ is.
            let u = record t { runners = with_runner t.runners (claiming_runner claim None given.Nothing) } in
            rest_says t u [] reply.Nothing refl (kept_from_sound t s).fit s.one_of_each_group (grows_not t.runs)
            (λ cancels requests. goes_on_still (is_in (settled t.runs) g) cancels t.runs)
        | Some p ↦ λ is. lease_says t claim p s none is
      ] refl)

  end_says : (t : TableState) (runners : List RunnerState) (lease : ℕ) (o : Outcome) → IsSound t → RunsFit (with_ended lease o t.runs)
      → StayFit t.runs (with_ended lease o t.runs) → ((p : LegSite) → site_of_lease t.runs lease ≡ Some p
      → works_at t.runs p ≡ Some lease)
      → StepSays t (at_rest_after (lease_end_moves lease o t.runs)
      (record t { runs = with_ended lease o t.runs; runners = runners }) reply.Ok)
  end_says t runners lease o s fit stay works =
      rest_says t (record t { runs = with_ended lease o t.runs; runners = runners }) (lease_end_moves lease o t.runs) reply.Ok refl fit
      (ended_one_each lease o t.runs (kept_from_sound t s).fit stay s.one_of_each_group) (stays_grows t.runs
      (with_ended lease o t.runs) stay)
      (λ cancels requests. lease_end_goes_on (is_in (settled (with_ended lease o t.runs)) g) cancels t.runs lease o works)

  report_says : (t : TableState) (report : Reported) → IsSound t → StepSays t (reported t report)
  report_says t report s =
      either_says t (report_answer t report) (reporting t report) (λ none.
      let kept = kept_from_sound t s in
      end_says t (with_runner t.runners (reporting_runner report)) report.lease report.result s (report_keeps t report kept none).fit
      (report_stays t report kept none)
      (λ p is. work_at t (reporting_runner report) report.lease report.result kept (held_for_report t report none) refl (refl, refl) tt p
      (found_has t.runs report.lease p is)))

  cancel_says : (t : TableState) (id : ℕ) → IsSound t → StepSays t (cancelled t id)
  cancel_says t id s =
      either_says t (cancel_answer t id) (cancelling t id) (λ none.
      let kept = kept_from_sound t s in
      let h = Run (index_of t id) in
      let stop = run_stop_settles t.runs (index_of t id) kept.fit in
      let next = (stop_holder h t.runs).runs in
      rest_says t (record t { runs = next }) (stop_holder h t.runs).moves reply.Ok refl stop.stay.fit
      (stopped_one_each (index_of t id) t.runs kept.fit s.one_of_each_group) (stays_grows t.runs next stop.stay)
      (λ cancels requests. quiet_goes_on (is_in (settled next) g) cancels t.runs (stop_holder h t.runs)
      (stop_is_quiet (is_in (settled next) g) cancels h t.runs)))

  loss_says : (t : TableState) (name : List ℕ) → IsSound t → StepSays t (lost t name)
  loss_says t name s =
      elim (runner_named t.runners name) as
      (λ o. runner_named t.runners name ≡ o → StepSays t (option_map_or
      (λ runner. option_map_or (losing t (released runner)) runner.holds (unchanged t (refused LeaseNotHeld))) o
      (unchanged t (refused NoRunner)))) [
        | None ↦ λ is. unchanged_says t (refused NoRunner)
        | Some runner ↦ λ is. elim (runner.holds) as
            (λ h. runner.holds ≡ h → StepSays t (option_map_or (losing t (released runner)) h (unchanged t (refused LeaseNotHeld)))) [
              | None ↦ λ none. unchanged_says t (refused LeaseNotHeld)
              | Some lease ↦ λ holds.
                  let kept = kept_from_sound t s in
                  let o = outcome_of_loss t.runs lease in
                  let held_too = held_for_loss t name runner lease is holds in
                  let at = stood t.runners runner.name in
                  end_says t (with_runner t.runners (released runner)) lease o s (loss_keeps t name runner lease kept is holds).fit
                  (loss_stays t name runner lease kept is holds)
                  (λ p found. work_at t (released runner) lease o kept held_too.1 refl (kept.lasts_are_own at.place runner (at.was
                  ∙ held_too.0))
                  (kept.kept_are_had at.place runner (at.was ∙ held_too.0)) p (found_has t.runs lease p found))
            ] refl
      ] refl

  rerun_says : (t : TableState) (requested : Attempt) → Says t (command.Rerun requested) (rerun t requested)
  rerun_says t requested =
      elim (rerun_answer t requested) as
      (λ o. rerun_answer t requested ≡ o → Says t (command.Rerun requested) (option_map_or (unchanged t) o (rerunning t requested))) [
        | None ↦ λ none. inr (inl (record { requested = requested; command_is = refl; begins = begins_again t requested none; is = refl }))
        | Some r ↦ λ is. inl (unchanged_says t r)
      ] refl

  forget_says : (t : TableState) (id : ℕ) → IsSound t → Forgets t (forgot t id)
  forget_says t id s = record {
    gone = forgettable t id;
    ended = forgot_ended t id s;
    dropped = forgot_drops t id;
    silent = forgot_is_silent t id;
  }

  -- no run changes
  discharge_says : (t : TableState) (name : List ℕ) → StepSays t (discharging t name)
  discharge_says t name = record {
    same_forgotten = refl;
    grows = grows_not t.runs;
    goes_on = (λ cancels requests. goes_on_still (is_in t.runs g) cancels t.runs);
  }

  pub step_says : (t : TableState) (c : Command) → IsSound t → Says t c (stepped t c)
  step_says t (command.Admit event) s = inl (admit_says t event s)
  step_says t (command.Claim claim) s = inl (claim_says t claim s)
  step_says t (command.Done report) s = inl (report_says t report s)
  step_says t (command.Beat beat) s = inl (unchanged_says t (stepped t (command.Beat beat)).reply)
  step_says t (command.Cancel id) s = inl (cancel_says t id s)
  step_says t (command.Lost name) s = inl (loss_says t name s)
  step_says t (command.Fetch id) s = inl (unchanged_says t (stepped t (command.Fetch id)).reply)
  step_says t (command.Look id) s = inl (unchanged_says t (stepped t (command.Look id)).reply)
  step_says t (command.Rerun requested) s = rerun_says t requested
  step_says t (command.Forget id) s = inr (inr (forget_says t id s))
  step_says t (command.Discharge name) s =
      inl (either_says t (discharge_answer t name) (discharging t name) (λ none. discharge_says t name))
