-- A new run preserves the invariants of a table.
use Rattle.std.specs.Prelude.{◌≡◌, ℕ, ◌+◌, ◌-◌, ◌<◌, ◌≤◌, List, [], ◌∷◌, ◌++◌, map, length, nat_le, Bool, true, false, Option, Some, None}
use Rattle.std.specs.Prelude.{option_map, option_and_then, slice_get, if◌then◌else◌, refl}
use Rattle.std.specs.List.{position}
use Rattle.std.specs.Str.{bytes_eq}
use Rattle.std.proofs.Common.{arith, ap, sym, ◌∙◌, subst, inl, inr, append_assoc, length-append}
use Rattle.std.proofs.lemmas.Bool.{cases_eq, leb-false, or_parts, true≢false}
use Rattle.std.proofs.lemmas.List.{length-map, map-append}
use Rattle.std.proofs.lemmas.Option.{same_Some, slice_get-map, slice_get_past, slice_get_within}
use Rattle.std.proofs.lemmas.Slice.Eq.{bytes_eq-Decides}
use Rattle.definitions.specs.Limits.{last_attempt, last_number}
use Rattle.wf_value.specs.declared.code.Code.TheVariants.{LastCounter}
use Rattle.wf_value.proofs.OptionOr.{or_nothing}
use Rattle.definitions.specs.SmallText.{Admitted}
use Rattle.run_plan.specs.PlanOf.{plan_of}
use Rattle.run_plan.specs.declared.planned.PlannedJob.{PlannedJob}
use Rattle.run_plan.specs.declared.reply.Reply.TheVariants as reply
use Rattle.table_model.specs.Fitting.{legs_at_work}
use Rattle.table_model.specs.Runs.{run_at, blocked_job, run_in_attempt, LegState, JobState, RunState}
use Rattle.table_model.specs.declared.sites.LegSite.{LegSite}
use Rattle.table_model.specs.Settling.{result_at}
use Rattle.table_model.specs.Sound.{AttemptsAreGiven, DeliveriesDiffer, ParallelIsBounded}
use Rattle.table_model.specs.Step.{admission_answer, is_full, refused}
use Rattle.table_model.specs.TableState.{TableState, known_deliveries, last_id, run_of_delivery}
use Rattle.table_model.specs.Forgotten.{ForgottenRuns, deliveries_of, next_run, number_of_next}
use Rattle.table_model.specs.LegContext.{planned_legs}
use Rattle.table_model.proofs.Found.{none_found, found_nowhere, each_at, at_the_end, before_the_end}
use Rattle.run_table.proofs.Kept.{IsKept, StillHad, kept_still_had}
use Rattle.table_model.proofs.Identity.{identity_in}
use Rattle.table_model.proofs.LeaseReads.{leases_same}
use Rattle.table_model.proofs.LegReads.{work_of, had_at, works_at}
use Rattle.table_model.proofs.NeedsSettled.{result_in}
use Rattle.table_model.proofs.Numbered.{ids_more, numbers_more}
use Rattle.table_model.proofs.Optional.{from_map, if_none}
use Rattle.table_model.proofs.RunFits.{JobFits, RunFits, RunsFit}
use Rattle.run_table.proofs.RunnerPut.{holds_at}
use Rattle.table_model.proofs.Settles.{fits_beside}

-- ---- the new run by itself

pub job_is_blocked : (plan : List PlannedJob) (j : ℕ) (y : JobState) → slice_get (map (λ _. blocked_job) plan) j ≡ Some y → blocked_job ≡ y
job_is_blocked plan j y e = (from_map (λ _. blocked_job) (slice_get plan j) y (sym (slice_get-map (λ _. blocked_job) plan j) ∙ e)).gives

blocked_fits : (planned : ℕ) (runs : List RunState) (r j : ℕ) → JobFits planned (result_at runs r j blocked_job) blocked_job
blocked_fits planned runs r j = record { legs_fit = refl; leases_fit = (λ l z e. cc) }

pub attempt_fits : (runs : List RunState) (r id number attempt : ℕ) (event : Admitted) → RunFits runs r (run_in_attempt id number attempt event)
attempt_fits runs r id number attempt event = record {
  has_its_jobs = length-map (plan_of event.body) (λ _. blocked_job);
  phase_fits = (refl, (λ j y e. sym (ap (λ (v : JobState). v.phase) (job_is_blocked (plan_of event.body) j y e))));
  jobs_fit = (λ j y e. subst (λ (v : JobState). JobFits (planned_legs runs r j) (result_at runs r j v) v)
      (job_is_blocked (plan_of event.body) j y e) (blocked_fits (planned_legs runs r j) runs r j));
  needs_first = (λ j y e some. absurd (some (sym (ap (λ (v : JobState). v.legs) (job_is_blocked (plan_of event.body) j y e)))));
}

-- no leg of it exists
pub no_lease : (f : LegState → Option ℕ) (event : Admitted) (j l : ℕ)
    → option_and_then (λ (y : JobState). option_and_then f (slice_get y.legs l)) (slice_get (map (λ _. blocked_job) (plan_of event.body)) j) ≡ None
no_lease f event j l =
    ap (option_and_then (λ (y : JobState). option_and_then f (slice_get y.legs l)))
    (slice_get-map (λ _. blocked_job) (plan_of event.body) j) ∙ of_blocked (slice_get (plan_of event.body) j)
  where
    of_blocked : (o : Option PlannedJob)
        → option_and_then (λ (y : JobState). option_and_then f (slice_get y.legs l)) (option_map (λ _. blocked_job) o) ≡ None
    of_blocked None = refl
    of_blocked (Some planned) = refl

-- ---- the runs with the new one

module _ (forgotten : ForgottenRuns) (runs : List RunState) (event : Admitted) where
  pub all_fit : RunsFit runs → RunsFit (runs ++ next_run forgotten runs event ∷ [])
  all_fit fit r x e =
      let next = runs ++ next_run forgotten runs event ∷ [] in
      elim (cases_eq r (length runs)) [
        | inl s ↦
            let same : next_run forgotten runs event ≡ x = same_Some (next_run forgotten runs event) x
            (sym (at_the_end runs (next_run forgotten runs event)) ∙ ap (slice_get next) (sym s) ∙ e) in
            subst (RunFits next r) same (attempt_fits next r (forgotten.through + length runs + 1) (number_of_next forgotten runs event) 1 event)
        | inr n ↦
            let before = before_the_end runs (next_run forgotten runs event) r n in
            fits_beside runs next r x (ap identity_in before)
            (ap (option_map (λ (v : RunState). v.attempt)) before)
            (λ j a had. ap (option_and_then (λ (v : RunState). result_in v j)) before ∙ had) (fit r x (sym before ∙ e))
      ]

  -- no leg of the new run is at work
  still_bounded : ParallelIsBounded runs → ParallelIsBounded (runs ++ next_run forgotten runs event ∷ [])
  still_bounded bounded r j x most at is =
      let next = runs ++ next_run forgotten runs event ∷ [] in
      elim (cases_eq r (length runs)) [
        | inl s ↦
            let jobs : option_and_then (λ (v : RunState). slice_get v.jobs j) (run_at next r) ≡ slice_get (next_run forgotten runs event).jobs j =
            ap (option_and_then (λ (v : RunState). slice_get v.jobs j)) (ap (slice_get next) s ∙ at_the_end runs (next_run forgotten runs event)) in
            let blocked = job_is_blocked (plan_of event.body) j x (sym jobs ∙ at) in
            subst (λ (v : JobState). legs_at_work v ≤ most) blocked (omega arith)
        | inr n ↦
            let before = before_the_end runs (next_run forgotten runs event) r n in
            bounded r j x most (sym (ap (option_and_then (λ (v : RunState). slice_get v.jobs j)) before) ∙ at)
            (sym (ap (λ o. option_and_then (λ (planned : PlannedJob). planned.max_parallel)
            (option_and_then (λ (v : RunState). slice_get (plan_of v.admitted.body) j) o)) before) ∙ is)
      ]

  pub same_reads : (f : LegState → Option ℕ) (p : LegSite)
      → option_and_then
      (λ (x : RunState). option_and_then (λ (y : JobState). option_and_then f (slice_get y.legs p.leg)) (slice_get x.jobs p.job))
      (run_at (runs ++ next_run forgotten runs event ∷ []) p.run)
      ≡ option_and_then
      (λ (x : RunState). option_and_then (λ (y : JobState). option_and_then f (slice_get y.legs p.leg)) (slice_get x.jobs p.job))
      (run_at runs p.run)
  same_reads f p =
      let read = λ (o : Option RunState). option_and_then
      (λ (x : RunState). option_and_then (λ (y : JobState). option_and_then f (slice_get y.legs p.leg)) (slice_get x.jobs p.job)) o in
      elim (cases_eq p.run (length runs)) [
        | inl s ↦
            ap read (ap (slice_get (runs ++ next_run forgotten runs event ∷ [])) s ∙ at_the_end runs (next_run forgotten runs event)) ∙ no_lease f event p.job p.leg
            ∙ sym (ap read (slice_get_past runs p.run (omega (arith, s))))
        | inr n ↦ ap read (before_the_end runs (next_run forgotten runs event) p.run n)
      ]

-- what held of the runs before still holds of them
still_there : (forgotten : ForgottenRuns) (runs : List RunState) (event : Admitted) → StillHad runs (runs ++ next_run forgotten runs event ∷ [])
still_there forgotten runs event = record {
  runs_stay = (λ r x at. (x, as_before r x at ∙ at, omega arith));
  had = (λ p n x y at then_at same h. same_reads forgotten runs event (λ z. z.lease) p ∙ h);
  identities = (λ r x at. ap identity_in (as_before r x at));
}
  where
    as_before : (r : ℕ) (x : RunState) → run_at runs r ≡ Some x → run_at (runs ++ next_run forgotten runs event ∷ []) r ≡ run_at runs r
    as_before r x at =
        let within = slice_get_within runs r x at in before_the_end runs (next_run forgotten runs event) r (λ m. absurd (omega (arith, within, m)))

first_attempt : (forgotten : ForgottenRuns) (runs : List RunState) (event : Admitted) → AttemptsAreGiven runs
    → AttemptsAreGiven (runs ++ next_run forgotten runs event ∷ [])
first_attempt forgotten runs event given r y at =
    elim (cases_eq r (length runs)) [
      | inl s ↦
          let same : next_run forgotten runs event ≡ y = same_Some (next_run forgotten runs event) y
          (sym (at_the_end runs (next_run forgotten runs event)) ∙ ap (slice_get (runs ++ next_run forgotten runs event ∷ [])) (sym s) ∙ at) in
          subst (λ (v : RunState). (1 ≤ v.attempt) × (v.attempt ≤ last_attempt)) same (omega arith, omega arith)
      | inr n ↦ given r y (sym (before_the_end runs (next_run forgotten runs event) r n) ∙ at)
    ]

-- ---- deliveries

one_more_differs : (ds : List (List ℕ)) (d : List ℕ) → ((a : ℕ) → slice_get ds a ≡ Some d → ⊥) → DeliveriesDiffer ds
    → DeliveriesDiffer (ds ++ d ∷ [])
one_more_differs ds d fresh differ a b e at bt =
    elim (cases_eq a (length ds)) [
      | inl s ↦ elim (cases_eq b (length ds)) [
        | inl t ↦ s ∙ sym t
        | inr m ↦ absurd (fresh b (sym (before_the_end ds d b m) ∙ bt ∙ sym (ap Some (the_new a s at))))
      ]
      | inr n ↦ elim (cases_eq b (length ds)) [
        | inl t ↦ absurd (fresh a (sym (before_the_end ds d a n) ∙ at ∙ sym (ap Some (the_new b t bt))))
        | inr m ↦ differ a b e (sym (before_the_end ds d a n) ∙ at) (sym (before_the_end ds d b m) ∙ bt)
      ]
    ]
  where
    the_new : (r : ℕ) → r ≡ length ds → slice_get (ds ++ d ∷ []) r ≡ Some e → d ≡ e
    the_new r s there = same_Some d e (sym (at_the_end ds d) ∙ ap (slice_get (ds ++ d ∷ [])) (sym s) ∙ there)

deliveries_more : (known : List (List ℕ)) (runs : List RunState) (x : RunState)
    → known ++ deliveries_of (runs ++ x ∷ []) ≡ (known ++ deliveries_of runs) ++ x.admitted.delivery ∷ []
deliveries_more known runs x =
    ap (λ ds. known ++ ds) (map-append (λ (v : RunState). v.admitted.delivery) runs (x ∷ []))
    ∙ sym (append_assoc known (deliveries_of runs) (x.admitted.delivery ∷ []))

-- ---- what was checked first

nothing_mapped : {X Y : Type 0} (f : X → Y) (o : Option X) → option_map f o ≡ None → o ≡ None
nothing_mapped f None e = refl
nothing_mapped f (Some x) e = cc

-- a delivery that is not known is none of those that are
pub is_fresh : (t : TableState) (delivery : List ℕ) → run_of_delivery t delivery ≡ None → (a : ℕ)
    → slice_get (known_deliveries t) a ≡ Some delivery → ⊥
is_fresh t delivery unknown a at =
    let test : List ℕ → Bool = λ known. bytes_eq known delivery in
    let nowhere = found_nowhere test (known_deliveries t)
    (nothing_mapped (λ i. t.forgotten.through - length t.forgotten.deliveries + i + 1) (position test (known_deliveries t)) unknown) in
    let fails = each_at (λ d. test d ≡ false) (known_deliveries t) a delivery (none_found test (known_deliveries t) nowhere) at in
    true≢false (sym ((bytes_eq-Decides delivery delivery).1 refl) ∙ fails)

-- a table that is not full has room and an id for a run
pub room_left : (t : TableState) → is_full t ≡ false → (length t.runs < 100000) × (last_id t < last_number)
room_left t not_full =
    let parts = or_parts (nat_le 100000 (length t.runs)) (nat_le last_number (last_id t)) not_full in
    (leb-false 100000 (length t.runs) parts.0, leb-false last_number (last_id t) parts.1)

-- what is so where an admission is not answered yet
pub record MayEnter (t : TableState) (event : Admitted) : Type 0 where
  pub unknown : run_of_delivery t event.delivery ≡ None
  pub room : length t.runs < 100000
  pub id_left : last_id t < last_number

pub may_enter : (t : TableState) (event : Admitted) → admission_answer t event ≡ None → MayEnter t event
may_enter t event none =
    let looked = or_nothing (option_map (λ id. reply.Created id) (run_of_delivery t event.delivery))
    (if is_full t then Some (refused LastCounter) else None) none in
    let left = room_left t (if_none (is_full t) (refused LastCounter) looked.1) in
    record {
      unknown = nothing_mapped (λ id. reply.Created id) (run_of_delivery t event.delivery) looked.0;
      room = left.0;
      id_left = left.1;
    }

-- ---- the table with the new run

pub admit_keeps : (t : TableState) (event : Admitted) → IsKept t → admission_answer t event ≡ None
    → IsKept (record t { runs = t.runs ++ next_run t.forgotten t.runs event ∷ [] })
admit_keeps t event s none =
    let new = next_run t.forgotten t.runs event in
    let next = t.runs ++ new ∷ [] in
    let may = may_enter t event none in
    let room = may.room in
    let left = may.id_left in
    let more = length-append t.runs (new ∷ []) in
    let are = s.identified in
    record {
      identified = record {
        few_runs = omega (arith, more, room);
        last_id_in_range = omega (arith, more, left);
        forgotten_fit = are.forgotten_fit;
        ids_follow = ids_more t.forgotten t.runs new refl are.ids_follow;
        numbers_follow = numbers_more t.forgotten t.runs new refl are.numbers_follow;
        deliveries_differ = subst DeliveriesDiffer (sym (deliveries_more t.forgotten.deliveries t.runs new))
            (one_more_differs (known_deliveries t) event.delivery (is_fresh t event.delivery may.unknown) are.deliveries_differ);
      };
      attempts_are_given = first_attempt t.forgotten t.runs event s.attempts_are_given;
      fit = all_fit t.forgotten t.runs event s.fit;
      parallel_bounded = still_bounded t.forgotten t.runs event s.parallel_bounded;
      agree = leases_same t.last_lease (had_at t.runs) (works_at t.runs) (had_at next) (works_at next) (holds_at t.runners)
          (holds_at t.runners) (same_reads t.forgotten t.runs event (λ z. z.lease)) (same_reads t.forgotten t.runs event work_of) (λ k. refl) s.agree;
      last_lease_in_range = s.last_lease_in_range;
      runners_in_order = s.runners_in_order;
      lasts_are_own = s.lasts_are_own;
      kept_are_had =
          (λ k x e. kept_still_had t.last_lease t.last_lease t.runs next (omega arith) (still_there t.forgotten t.runs event) x.last
          (s.kept_are_had k x e));
    }
