-- Each settling rule, and so settling, preserves the law of every group.
use Rattle.std.specs.Prelude.{◌≡◌, ℕ, zero, suc, List, [], ◌∷◌, ◌++◌, Bool, true, false, Some, None, if◌then◌else◌}
use Rattle.std.specs.Prelude.{slice_get, refl}
use Rattle.std.specs.List.{list_all}
use Rattle.std.specs.Option.{option_map_or}
use Rattle.std.proofs.Common.{ap, sym, ◌∙◌, subst}
use Rattle.std.proofs.lemmas.Bool.{and_parts, false≢true, true≢false}
use Rattle.std.proofs.lemmas.Option.{none-some, same_Some}
use Rattle.wf_value.specs.declared.outcome.JobResult.TheVariants as result
use Rattle.wf_value.specs.declared.outcome.Outcome.TheVariants as outcome
use Rattle.group_name.specs.Group.{Group}
use Rattle.needs_graph.specs.Needs.{conclusion_of}
use Rattle.table_model.specs.Settling.{arrived, displaced, room_made, started, decided, may_run, result_at, rule_at, with_leg_in}
use Rattle.table_model.specs.Groups.{cancels_in_progress, group_at}
use Rattle.table_model.specs.GroupLaw.{holder_of, same_holder, Move, Transition, and_then, without_moves}
use Rattle.table_model.specs.Groups.{HasOneBeside, HasOneEach, holds, is_in, leg_waits, may_start, run_waits, waits}
use Rattle.table_model.specs.Runs.{results_of, job_at, leg_at, run_at, with_job, with_run, LegState, JobState, RunState}
use Rattle.table_model.specs.declared.sites.LegSite.{LegSite}
use Rattle.table_model.specs.Settling.{first_site, first_rule, settled_within}
use Rattle.table_model.specs.Sound.{PhaseFits}
use Rattle.table_model.specs.Runs.{leg_has_ended, is_blocked, is_done, is_live, is_open, leg_in_phase, opened, run_in_phase, finished_as}
use Rattle.table_model.specs.LegContext.{is_stopping, planned_legs}
use Rattle.table_model.specs.declared.phases.LegPhase.{LegPhase}
use Rattle.table_model.specs.declared.phases.LegPhase.TheVariants as leg
use Rattle.table_model.specs.declared.phases.RunPhase.{RunPhase}
use Rattle.table_model.specs.declared.phases.RunPhase.TheVariants as run
use Rattle.table_model.specs.declared.sites.RuleSite.{RuleSite}
use Rattle.table_model.specs.declared.sites.RuleSite.TheVariants.{Opening}
use Rattle.table_model.proofs.JobKeeps.{open_is_live}
use Rattle.table_model.proofs.JobPhases.{is_blocked_blocked, is_open_open, no_legs}
use Rattle.table_model.proofs.Optional.{from_and_then}
use Rattle.table_model.proofs.RunFits.{RunsFit, job_in_run, jobs_fit}
use Rattle.settling_laws.proofs.ArrivalKeeps.{itself}
use Rattle.settling_laws.proofs.EachRule.{by_rule, run_ended}
use Rattle.settling_laws.proofs.HoldersFade.{job_fades, leg_fades, leg_passes, passes, waits_before_leg}
use Rattle.settling_laws.proofs.HoldersKeep.{arrival_settles, requested_settles, displaced_settles}
use Rattle.settling_laws.proofs.LivePlaces.{LivePlace, first_place_is_live}
use Rattle.settling_laws.proofs.OneEach.{Comes, GroupsStay, IsOneOf, groups_stay, newcomer_besides, one_that_waits}
use Rattle.settling_laws.proofs.OneEachRules.{decided_fades, ended_fades, first_rule_one_each, live_waits, newcomer_comes, set_itself}
use Rattle.settling_laws.proofs.RuleKeeps.{newcomer_waits}
use Rattle.settling_laws.proofs.SettlingKeeps.{first_rule_settles, settles_within}
use Rattle.table_laws.proofs.ArrivalLaw.{arrival_goes_on}
use Rattle.table_laws.proofs.ChangesTold.{leg_tells, new_legs_same, only_none, only_one, quiet_job_tells, run_tells}
use Rattle.table_laws.proofs.GroupsKept.{Grows, cancels_kept, grows_on, is_in_kept, stays_grows}
use Rattle.table_laws.proofs.HolderStatus.{Fits, Goes, Status, ends_at_once, goes_over, goes_to_arrive, goes_to_start, goes_unseen, leg_status}
use Rattle.table_laws.proofs.HolderStatus.{run_status, status, status_by, status_in_job, status_of_leg, status_of_run}
use Rattle.table_laws.proofs.LawSoFar.{GoesOn, LawSoFar, end_is_quiet, goes_on_still, goes_on_then, quiet_goes_on, start_is_quiet}
use Rattle.table_laws.proofs.LawSoFar.{unmoved_is_quiet}
use Rattle.table_laws.proofs.OwnMoves.{of_group, own}
use Rattle.table_laws.proofs.StopsTold.{Tells, goes_by}
use Rattle.table_laws.proofs.Unbegun.{AllStill, LegUnbegun, There, leg_all_still, live_job_still, new_leg_unbegun, phase_still, still_of_all}
use Rattle.table_model.specs.declared.holder.Holder.{Holder}
use Rattle.table_model.specs.declared.holder.Holder.TheVariants.{Run, Leg}

-- ---- a job opens

decided_same : (may stopping : Bool) (n l : ℕ) (y : JobState) → y.legs ≡ []
    → status_in_job l ((if may then opened n else finished_as (if stopping then result.Cancelled else result.Skipped)) y) ≡ status_in_job l y
decided_same true stopping n l y none = new_legs_same n l y.legs none
decided_same false stopping n l y none = refl

opening_tells : (runs : List RunState) → RunsFit runs → (r j : ℕ) (y : JobState) → job_at runs r j ≡ Some y → is_blocked y.phase ≡ true
    → Tells runs (without_moves (with_job r j (decided runs r j) runs))
opening_tells runs fit r j y was blocked =
    quiet_job_tells r j (decided runs r j) runs
    (λ l z is.
    let same : z ≡ y = same_Some z y (sym is ∙ was) in
    let none : z.legs ≡ [] =
    ap (λ (x : JobState). x.legs) same
    ∙ no_legs (planned_legs runs r j) (result_at runs r j y) y.phase y.legs (jobs_fit runs fit r j y was)
    (is_blocked_blocked y.phase blocked) in
    decided_same (may_run runs r j) (is_stopping runs r) (planned_legs runs r j) l z none)

-- ---- a leg

-- a leg in this phase changes as its moves say
leg_goes_by : (runs : List RunState) (p : LegSite) (z : LegState) (phase : LegPhase) (to : LegPhase) (moves : List Move)
    → leg_at runs p ≡ Some z → z.phase ≡ phase → Goes (Leg p) (leg_status phase) (own (Leg p) moves) (leg_status to)
    → (y : LegState) → leg_at runs p ≡ Some y
    → Goes (Leg p) (status_of_leg y) (own (Leg p) moves) (status_of_leg (leg_in_phase to y))
leg_goes_by runs p z phase to moves was is goes y at =
    let same : y.phase ≡ phase = ap (λ (x : LegState). x.phase) (same_Some y z (sym at ∙ was)) ∙ is in
    subst (λ (ph : LegPhase). Goes (Leg p) (leg_status ph) (own (Leg p) moves) (leg_status to)) (sym same) goes

own_itself : (h : Holder) (m : Move) → holder_of m ≡ h → own h (m ∷ []) ≡ m ∷ []
own_itself h m is = ap (λ b. if b then m ∷ [] else []) (ap (same_holder h) is ∙ itself h)

leg_set_tells : (runs : List RunState) (p : LegSite) (z : LegState) (phase to : LegPhase) (m : Move) → leg_at runs p ≡ Some z
    → z.phase ≡ phase
    → holder_of m ≡ Leg p → Goes (Leg p) (leg_status phase) (m ∷ []) (leg_status to)
    → Tells runs (record { runs = with_leg_in to p runs; moves = m ∷ [] })
leg_set_tells runs p z phase to m was is of_it goes =
    leg_tells p (leg_in_phase to) runs (m ∷ [])
    (leg_goes_by runs p z phase to (m ∷ []) was is
    (goes_by (Leg p) (leg_status phase) (leg_status to) (own (Leg p) (m ∷ [])) (m ∷ []) (sym (own_itself
    (Leg p) m of_it))
    goes))
    (λ none. absurd (none-some z (sym none ∙ was))) (only_one (Leg p) m of_it)

unseen_tells : (runs : List RunState) (p : LegSite) (z : LegState) → leg_at runs p ≡ Some z → z.phase ≡ leg.New
    → Tells runs (without_moves (with_leg_in (leg.Ended outcome.Cancelled) p runs))
unseen_tells runs p z was is =
    leg_tells p (leg_in_phase (leg.Ended outcome.Cancelled)) runs []
    (leg_goes_by runs p z leg.New (leg.Ended outcome.Cancelled) [] was is (goes_unseen (Leg p))) (λ none. refl)
    (only_none (Leg p))

-- ---- holders that have not begun

ended_unbegun : (z : LegState) → LegUnbegun z → LegUnbegun (leg_in_phase (leg.Ended outcome.Cancelled) z)
ended_unbegun z un = record { no_lease = un.no_lease; cancelled = (λ o e. cc) }

decided_unbegun : (may stopping : Bool) (n l : ℕ) (y : JobState) → There LegUnbegun (slice_get y.legs l)
    → There LegUnbegun (slice_get ((if may then opened n else finished_as (if stopping then result.Cancelled else result.Skipped)) y).legs l)
decided_unbegun true stopping n l y all = new_leg_unbegun n l
decided_unbegun false stopping n l y all = all

live_run : (runs : List RunState) (r : ℕ) → LivePlace runs (Opening r 0) → (x : RunState) → run_at runs r ≡ Some x → is_live x.phase ≡ true
live_run runs r live x at = ap (λ (v : RunState). is_live v.phase) (same_Some x live.0 (sym at ∙ live.1)) ∙ ap is_live live.2

-- a run with a job whose legs have all ended is live
closing_run : (runs : List RunState) → RunsFit runs → (r j : ℕ) (y : JobState) → job_at runs r j ≡ Some y → is_done y ≡ true
    → (x : RunState)
    → run_at runs r ≡ Some x → is_live x.phase ≡ true
closing_run runs fit r j y was done x at =
    let in_run : slice_get x.jobs j ≡ Some y = sym (job_in_run runs r j x at) ∙ was in
    let is_open_now = is_open_open y.phase (and_parts (is_open y.phase) (list_all leg_has_ended y.legs) done).0 in
    ap is_live (open_is_live x.phase x.stopping x.jobs j y (fit r x at).phase_fits in_run is_open_now)

-- ---- a run

run_set_tells : (runs : List RunState) (r : ℕ) (x : RunState) (to : RunPhase) (m : Move) → run_at runs r ≡ Some x
    → holder_of m ≡ Run r → Goes (Run r) (status_of_run x) (m ∷ []) (run_status to x.stopping)
    → Tells runs (record { runs = with_run r (run_in_phase to) runs; moves = m ∷ [] })
run_set_tells runs r x to m was of_it goes =
    run_tells r (run_in_phase to) runs (m ∷ []) (λ y. refl)
    (λ y at. subst
    (λ (v : RunState). Goes (Run r) (status_of_run v) (own (Run r) (m ∷ [])) (run_status to v.stopping))
    (sym (same_Some y x (sym at ∙ was)))
    (goes_by (Run r) (status_of_run x) (run_status to x.stopping) (own (Run r) (m ∷ [])) (m ∷ [])
    (sym (own_itself (Run r) m of_it)) goes))
    (λ none. absurd (none-some x (sym none ∙ was))) (only_one (Run r) m of_it)

-- ---- the rules, on the way to the table that is reached

module _ (reached : List RunState) (g : Group) (cancels : Holder → Bool)
    (requests : (h : Holder) → cancels h ≡ true → cancels_in_progress reached h ≡ true) where
  -- the groups are those of the table that is reached
  abbrev pub Keeps : List RunState → Transition → Type 0
  Keeps runs m = GoesOn (is_in reached g) cancels runs m

  agrees : (runs : List RunState) → RunsFit runs → Grows runs reached → (h : Holder) → IsOneOf runs h → is_in reached g h ≡ is_in runs g h
  agrees runs fit grows = is_in_kept runs reached fit grows g

  requested_now : (runs : List RunState) → RunsFit runs → Grows runs reached → (h : Holder) → IsOneOf runs h → cancels h ≡ true
      → cancels_in_progress runs h ≡ true
  requested_now runs fit grows h there e = sym (cancels_kept runs reached fit grows h there) ∙ requests h e

  -- ---- an arrival

  then_agrees : (now : List RunState) (n : Holder) → RunsFit now → Grows (arrived n now).runs reached → group_at now n ≡ Some g
      → (h : Holder) → IsOneOf (displaced g n now).runs h → is_in reached g h ≡ is_in (displaced g n now).runs g h
  then_agrees now n fit grows its =
      let c = cancels_in_progress now n in
      let mid = (displaced g n now).runs in
      let fit_mid = (displaced_settles g n now fit).stay.fit in
      let made = room_made c n now g in
      let same : (arrived n now).runs ≡ made.runs =
      ap (λ o. (option_map_or (room_made c n now) o (without_moves now)).runs) its in
      let after : Grows made.runs reached = subst (λ (rs : List RunState). Grows rs reached) same grows in
      agrees mid fit_mid (grows_on mid made.runs reached (stays_grows mid made.runs (requested_settles c g mid fit_mid).stay) after)

  -- of a newcomer that has made no move in this attempt of its run
  pub arrival_keeps : (before now : List RunState) (n : Holder) → RunsFit now
      → ((h : Holder) → (h ≡ n → ⊥) → Goes h (status before h) (own h (Move.arrive n ∷ [])) (status now h)) → Comes before now n
      → waits now n ≡ true → HasOneBeside now n → AllStill before now → Grows (arrived n now).runs reached → (start moves : List Move)
      → LawSoFar (is_in reached g) cancels start before moves → (is_in reached g n ≡ true → own n moves ≡ [])
      → LawSoFar (is_in reached g) cancels start (arrived n now).runs (moves ++ of_group (is_in reached g) (arrived n now).moves)
  arrival_keeps before now n fit set comes waiting besides still grows start moves so_far fresh =
      let fit_now : Grows now reached =
      grows_on now (arrived n now).runs reached (stays_grows now (arrived n now).runs (arrival_settles n now fit).stay) grows in
      arrival_goes_on (is_in reached g) cancels g before now n fit set comes waiting besides (agrees now fit fit_now) still
      (requested_now now fit fit_now n (one_that_waits now n waiting)) (then_agrees now n fit grows) start moves so_far fresh

  -- of a newcomer that did not exist, or was new
  pub first_arrival_keeps : (before now : List RunState) (n : Holder) → RunsFit now
      → Tells before (record { runs = now; moves = Move.arrive n ∷ [] }) → status before n ≡ Status.unarrived → Comes before now n
      → waits now n ≡ true → GroupsStay before now → HasOneEach before → AllStill before now → Grows (arrived n now).runs reached
      → Keeps before (arrived n now)
  first_arrival_keeps before now n fit set unseen comes waiting stay each still grows start moves so_far =
      arrival_keeps before now n fit (λ h other. set h) comes waiting (newcomer_besides before now n stay comes each) still grows start moves
      so_far (λ is. subst (λ (s : Status). Fits s n (own n moves)) unseen (so_far.each n is))

  -- ---- a leg advances

  -- the newcomer's group is held by its own run
  own_group_keeps : (runs : List RunState) (p : LegSite) (z : LegState) → leg_at runs p ≡ Some z → z.phase ≡ leg.New
      → Keeps runs (without_moves (with_leg_in (leg.Ended outcome.Cancelled) p runs))
  own_group_keeps runs p z was is =
      let next = with_leg_in (leg.Ended outcome.Cancelled) p runs in
      quiet_goes_on (is_in reached g) cancels runs (without_moves next)
      (unmoved_is_quiet (is_in reached g) cancels runs next (unseen_tells runs p z was is)
      (leg_fades (leg_in_phase (leg.Ended outcome.Cancelled)) p runs (λ v e. absurd (false≢true e)) (λ v e. absurd (false≢true e))).waited
      (still_of_all runs next (leg_all_still runs p (leg_in_phase (leg.Ended outcome.Cancelled)) ended_unbegun)))

  -- or the newcomer arrives
  leg_arrival_keeps : (runs : List RunState) (p : LegSite) (z : LegState) → RunsFit runs → leg_at runs p ≡ Some z → z.phase ≡ leg.New
      → HasOneEach runs → Grows (arrived (Leg p) (with_leg_in leg.Waiting p runs)).runs reached
      → Keeps runs (arrived (Leg p) (with_leg_in leg.Waiting p runs))
  leg_arrival_keeps runs p z fit was is each grows =
      let now = with_leg_in leg.Waiting p runs in
      let stay = (newcomer_waits runs p z fit was is).stay in
      first_arrival_keeps runs now (Leg p) stay.fit
      (leg_set_tells runs p z leg.New leg.Waiting (Move.arrive (Leg p)) was is refl (goes_to_arrive (Leg p)))
      (ap (status_by status_of_leg) was ∙ ap leg_status is) (newcomer_comes runs p z was)
      (ap (passes (leg_passes leg_waits)) (set_itself runs p z was (leg_in_phase leg.Waiting))) (groups_stay runs now fit stay) each
      (leg_all_still runs p (leg_in_phase leg.Waiting) (λ v un. record { no_lease = un.no_lease; cancelled = (λ o e. cc) })) grows

  leg_start_keeps : (runs : List RunState) (p : LegSite) (z : LegState) → RunsFit runs → Grows runs reached → leg_at runs p ≡ Some z
      → z.phase ≡ leg.Waiting → may_start runs (Leg p) ≡ true
      → Keeps runs (started (Leg p) (with_leg_in leg.Ready p runs))
  leg_start_keeps runs p z fit from was is may =
      let k = Leg p in
      let next = with_leg_in leg.Ready p runs in
      let waiting : waits runs k ≡ true = ap (passes (leg_passes leg_waits)) was ∙ ap leg_waits is in
      quiet_goes_on (is_in reached g) cancels runs (started k next)
      (start_is_quiet (is_in reached g) cancels g runs (agrees runs fit from) next k
      (leg_set_tells runs p z leg.Waiting leg.Ready (Move.start k) was is refl (goes_to_start k))
      (waits_before_leg (leg_in_phase leg.Ready) p runs (λ v e. absurd (false≢true e)))
      (still_of_all runs next (leg_all_still runs p (leg_in_phase leg.Ready) (λ v un. record {
        no_lease = un.no_lease;
        cancelled =
            (λ o e. cc);
      })))
      waiting may)

  -- ---- a run advances

  run_start_keeps : (runs : List RunState) (r : ℕ) (x : RunState) → RunsFit runs → Grows runs reached → run_at runs r ≡ Some x
      → x.phase ≡ run.Waiting → may_start runs (Run r) ≡ true
      → Keeps runs (started (Run r) (with_run r (run_in_phase run.Live) runs))
  run_start_keeps runs r x fit from was is may =
      let k = Run r in
      let next = with_run r (run_in_phase run.Live) runs in
      let waiting : waits runs k ≡ true = ap (passes (λ (v : RunState). run_waits v.phase)) was ∙ ap run_waits is in
      let unstopped = (subst (λ (phase : RunPhase). PhaseFits phase x.stopping x.jobs) is (fit r x was).phase_fits).0 in
      let goes : Goes k (status_of_run x) (Move.start k ∷ []) (run_status run.Live x.stopping) =
      subst (λ (s : Status). Goes k s (Move.start k ∷ []) (run_status run.Live x.stopping)) (sym (ap (λ ph. run_status ph x.stopping) is))
      (subst (λ (b : Bool). Goes k Status.waiting (Move.start k ∷ []) (Status.in_progress b)) (sym unstopped) (goes_to_start k)) in
      quiet_goes_on (is_in reached g) cancels runs (started k next)
      (start_is_quiet (is_in reached g) cancels g runs (agrees runs fit from) next k (run_set_tells runs r x run.Live
      (Move.start k) was refl goes)
      (live_waits runs r) (phase_still runs r run.Live (λ y at before now. true≢false now)) waiting may)

  run_end_keeps : (runs : List RunState) (r : ℕ) (x : RunState) → run_at runs r ≡ Some x → x.phase ≡ run.Live
      → Keeps runs (run_ended runs r x)
  run_end_keeps runs r x was is =
      let k = Run r in
      let next = with_run r (run_in_phase run.Ended) runs in
      let end = Move.end_with (conclusion_of (results_of x.jobs)) k in
      let held : holds runs k ≡ true = ap (passes (λ (v : RunState). is_live v.phase)) was ∙ ap is_live is in
      quiet_goes_on (is_in reached g) cancels runs (run_ended runs r x)
      (end_is_quiet (is_in reached g) cancels runs next (conclusion_of (results_of x.jobs)) k
      (run_set_tells runs r x run.Ended end was refl
      (goes_over k (status_of_run x) (end ∷ []) (ends_at_once k (conclusion_of (results_of x.jobs))))) (ended_fades r runs).waited
      (phase_still runs r run.Ended (λ y at before now.
      true≢false (sym (ap (λ (v : RunState). is_live v.phase) (same_Some y x (sym at ∙ was)) ∙ ap is_live is) ∙ before))) held)

  -- ---- a job opens or finishes

  opening_keeps : (runs : List RunState) (r j : ℕ) (y : JobState) → RunsFit runs → LivePlace runs (Opening r j) → job_at runs r j ≡ Some y
      → is_blocked y.phase ≡ true → Keeps runs (without_moves (with_job r j (decided runs r j) runs))
  opening_keeps runs r j y fit live was blocked =
      let next = with_job r j (decided runs r j) runs in
      quiet_goes_on (is_in reached g) cancels runs (without_moves next)
      (unmoved_is_quiet (is_in reached g) cancels runs next (opening_tells runs fit r j y was blocked) (decided_fades runs r j).waited
      (live_job_still runs r j (decided runs r j) (live_run runs r live)
      (decided_unbegun (may_run runs r j) (is_stopping runs r) (planned_legs runs r j))))

  closing_keeps : (runs : List RunState) (r j : ℕ) (y : JobState) → RunsFit runs → job_at runs r j ≡ Some y → is_done y ≡ true
      → Keeps runs (without_moves (with_job r j (finished_as (result_at runs r j y)) runs))
  closing_keeps runs r j y fit was done =
      let close = finished_as (result_at runs r j y) in
      let next = with_job r j close runs in
      quiet_goes_on (is_in reached g) cancels runs (without_moves next)
      (unmoved_is_quiet (is_in reached g) cancels runs next (quiet_job_tells r j close runs (λ l y is. refl))
      (job_fades close r j runs (record { waited = (λ l y e. e); held = (λ l y e. e) })).waited
      (live_job_still runs r j close (closing_run runs fit r j y was done) (λ l y all. all)))

  -- ---- at each place

  rule_keeps : (runs : List RunState) (m : Transition) (site : RuleSite) → RunsFit runs → LivePlace runs site → rule_at runs site ≡ Some m
      → HasOneEach runs
      → Grows runs reached → Grows m.runs reached → Keeps runs m
  rule_keeps runs m site fit live h each from =
      by_rule runs (λ at made. LivePlace runs at → Grows made.runs reached → Keeps runs made)
      (record {
        job_opens = (λ r j y was blocked needs live grows. opening_keeps runs r j y fit live was blocked);
        leg_is_cancelled = (λ p z was is live grows. own_group_keeps runs p z was is);
        leg_arrives = (λ p z was is live. leg_arrival_keeps runs p z fit was is each);
        leg_starts = (λ p z was is may live grows. leg_start_keeps runs p z fit from was is may);
        job_settles = (λ r j y was done live grows. closing_keeps runs r j y fit was done);
        run_starts = (λ r x was is may live grows. run_start_keeps runs r x fit from was is may);
        run_ends = (λ r x was is settled live grows. run_end_keeps runs r x was is);
      }) m site h live

  -- ---- settling

  first_rule_keeps : (runs : List RunState) (m : Transition) → RunsFit runs → first_rule runs ≡ Some m → HasOneEach runs → Grows runs reached
      → Grows m.runs reached → Keeps runs m
  first_rule_keeps runs m fit h each from grows =
      let made = from_and_then (rule_at runs) (first_site runs) m h in
      rule_keeps runs m made.value fit (first_place_is_live runs made.value made.is) made.gives each from grows

  pub settled_keeps : (n : ℕ) (runs : List RunState) → RunsFit runs → HasOneEach runs → Grows (settled_within n runs).runs reached
      → Keeps runs (settled_within n runs)
  settled_keeps zero runs fit each = λ grows. goes_on_still (is_in reached g) cancels runs
  settled_keeps (suc n) runs fit each =
      elim (first_rule runs) as
      (λ o. first_rule runs ≡ o → Grows (option_map_or (λ m. and_then m (settled_within n)) o (without_moves runs)).runs reached
      → Keeps runs (option_map_or (λ m. and_then m (settled_within n)) o (without_moves runs))) [
        | None ↦ λ is grows. goes_on_still (is_in reached g) cancels runs
        | Some m ↦ λ is grows.
            let one = (first_rule_settles runs m fit is).stay in
            let after = grows_on m.runs (settled_within n m.runs).runs reached
            (stays_grows m.runs (settled_within n m.runs).runs (settles_within n m.runs one.fit).stay) grows in
            goes_on_then (is_in reached g) cancels runs m (settled_within n)
            (first_rule_keeps runs m fit is each (grows_on runs m.runs reached (stays_grows runs m.runs one) after) after)
            (settled_keeps n m.runs one.fit (first_rule_one_each runs m fit is each) grows)
      ] refl
