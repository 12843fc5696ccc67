-- Stopping the legs of an open job keeps what settling keeps: what each run satisfies on its own, and the leases.
use Rattle.std.specs.Prelude.{◌≡◌, ℕ, zero, suc, ◌+◌, ◌&&◌, List, [], ◌∷◌, map, length, not, Bool, true, false, Option, Some, None}
use Rattle.std.specs.Prelude.{option_map, option_and_then, slice_get, if◌then◌else◌, refl}
use Rattle.std.specs.List.{enumerate_from}
use Rattle.std.proofs.Common.{arith, ap, sym, ◌∙◌, subst, inl}
use Rattle.std.proofs.lemmas.Bool.{and_parts}
use Rattle.std.proofs.lemmas.List.{length-map}
use Rattle.std.proofs.lemmas.Option.{slice_get-map}
use Rattle.wf_value.specs.declared.outcome.JobResult.{JobResult}
use Rattle.wf_value.specs.declared.outcome.JobResult.TheVariants as result
use Rattle.table_model.specs.Runs.{changed_at, placed, finished_result, run_at, job_at, with_job, with_run, LegState, JobState, RunState}
use Rattle.table_model.specs.Fitting.{is_at_work}
use Rattle.table_model.specs.Settling.{is_open, is_finished, result_at, finished_as}
use Rattle.table_model.specs.Sound.{LegsFit, LeaseFits, PhaseFits}
use Rattle.table_model.specs.Stops.{cancelled, stopped_in, stopped_phase, stopped_run, stopped, stopped_where, with_stop_requested}
use Rattle.table_model.specs.Stops.{with_stopped_legs}
use Rattle.table_model.specs.inner.WithinRun.{may_run_in}
use Rattle.table_model.specs.LegContext.{planned_legs}
use Rattle.table_model.specs.declared.phases.JobPhase.{JobPhase}
use Rattle.table_model.specs.declared.phases.JobPhase.TheVariants as job
use Rattle.table_model.specs.declared.phases.LegPhase.{LegPhase}
use Rattle.table_model.specs.declared.phases.LegPhase.TheVariants as leg
use Rattle.table_model.specs.declared.phases.RunPhase.{RunPhase}
use Rattle.table_model.specs.declared.phases.RunPhase.TheVariants as run
use Rattle.table_model.proofs.JobKeeps.{job_in, job_keeps, live_fits, open_is_live, with_job_of}
use Rattle.table_model.proofs.JobPhases.{all_legs, is_open_open, no_legs}
use Rattle.table_model.proofs.LegReads.{work_of, had_in_job, works_in_job}
use Rattle.table_model.proofs.Optional.{from_and_then, from_map}
use Rattle.table_model.proofs.RunFits.{JobFits, RunFits, RunsFit}
use Rattle.table_model.proofs.Settles.{Keeps, Settles, one_settles}

-- ---- a leg

pub lease_still_fits : (phase : LegPhase) (lease : Option ℕ) → LeaseFits phase lease → LeaseFits (stopped_phase phase) lease
lease_still_fits leg.New lease fits = tt
lease_still_fits leg.Waiting lease fits = tt
lease_still_fits leg.Ready lease fits = tt
lease_still_fits leg.Running lease fits = fits
lease_still_fits leg.Stopping lease fits = fits
lease_still_fits (leg.Ended r) lease fits = fits

works_still : (phase : LegPhase) → is_at_work (stopped_phase phase) ≡ is_at_work phase
works_still leg.New = refl
works_still leg.Waiting = refl
works_still leg.Ready = refl
works_still leg.Running = refl
works_still leg.Stopping = refl
works_still (leg.Ended r) = refl

pub same_work : (z : LegState) → work_of (stopped z) ≡ work_of z
same_work z = ap (λ (b : Bool). if b then z.lease else None) (works_still z.phase)

-- ---- the legs of a job

same_of_leg : (f : LegState → Option ℕ) → ((z : LegState) → f (stopped z) ≡ f z) → (o : Option LegState)
    → option_and_then f (option_map stopped o) ≡ option_and_then f o
same_of_leg f same None = refl
same_of_leg f same (Some z) = same z

pub same_reads : (f : LegState → Option ℕ) → ((z : LegState) → f (stopped z) ≡ f z) → (legs : List LegState) (l : ℕ)
    → option_and_then f (slice_get (map stopped legs) l) ≡ option_and_then f (slice_get legs l)
same_reads f same legs l = ap (option_and_then f) (slice_get-map stopped legs l) ∙ same_of_leg f same (slice_get legs l)

stopped_fits : (planned : ℕ) (before result : JobResult) (y : JobState) → y.phase ≡ job.Open → JobFits planned before y
    → JobFits planned result (with_stopped_legs y)
stopped_fits planned before result y is_open fits = record {
  legs_fit = subst (λ (phase : JobPhase). LegsFit planned result phase (map stopped y.legs)) (sym is_open)
      (length-map y.legs stopped ∙ all_legs planned before y.phase y.legs fits.legs_fit is_open);
  leases_fit = (λ l z e.
      let from = from_map stopped (slice_get y.legs l) z (sym (slice_get-map stopped y.legs l) ∙ e) in
      subst (λ (v : LegState). LeaseFits v.phase v.lease) from.gives
      (lease_still_fits from.value.phase from.value.lease (fits.leases_fit l from.value from.is)));
}

-- ---- in a table

pub stop_settles : (runs : List RunState) → RunsFit runs → (r j : ℕ) (y : JobState) → job_at runs r j ≡ Some y → y.phase ≡ job.Open
    → Settles runs (with_job r j with_stopped_legs runs)
stop_settles runs fit r j y was is_open =
    let at = job_in runs r j y was in
    let x = at.run in
    let run_fits = fit r x at.run_is in
    let live = open_is_live x.phase x.stopping x.jobs j y run_fits.phase_fits at.job_is is_open in
    one_settles runs fit r x (with_job_of j with_stopped_legs) at.run_is
    (job_keeps runs r x run_fits j y with_stopped_legs at.job_is
    (live_fits x.phase x.stopping (changed_at j with_stopped_legs x.jobs) live)
    (stopped_fits (planned_legs runs r j) (result_at runs r j y) (result_at runs r j (with_stopped_legs y)) y is_open
    (run_fits.jobs_fit j y at.job_is))
    (record {
      keeps_result = (λ a e. e);
      needs_first = (λ some. run_fits.needs_first j y at.job_is (λ none. some (ap (map stopped) none)));
    })
    (same_reads (λ z. z.lease) (λ z. refl) y.legs) (same_reads work_of same_work y.legs))

-- ---- a run that is asked to stop

pub at_placed : {X Y : Type 0} (f : ℕ × X → Y) (xs : List X) (n k : ℕ)
    → slice_get (map f (enumerate_from n xs)) k ≡ option_map (λ x. f (n + k, x)) (slice_get xs k)
at_placed f [] n k = refl
at_placed f (x ∷ xs) n zero = let at : n ≡ n + 0 = omega arith in ap (λ m. Some (f (m, x))) at
at_placed f (x ∷ xs) n (suc k) =
    let at : (n + 1) + k ≡ n + suc k = omega arith in
    at_placed f xs (n + 1) k ∙ ap (λ m. option_map (λ y. f (m, y)) (slice_get xs k)) at

pub get_placed : {X Y : Type 0} (f : ℕ × X → Y) (xs : List X) (k : ℕ)
    → slice_get (map f (placed xs)) k ≡ option_map (λ x. f (k, x)) (slice_get xs k)
get_placed f xs k =
    let at : 0 + k ≡ k = omega arith in
    at_placed f xs 0 k ∙ ap (λ m. option_map (λ y. f (m, y)) (slice_get xs k)) at

pub length-placed : {X Y : Type 0} (f : ℕ × X → Y) (xs : List X) (n : ℕ) → length (map f (enumerate_from n xs)) ≡ length xs
length-placed f [] n = refl
length-placed f (x ∷ xs) n = ap suc (length-placed f xs (n + 1))

mapped_reads : {Y : Type 0} (read : JobState → Option Y) (g : JobState → JobState) → ((y : JobState) → read (g y) ≡ read y)
    → (o : Option JobState) → option_and_then read (option_map g o) ≡ option_and_then read o
mapped_reads read g same None = refl
mapped_reads read g same (Some y) = same y

where_fits : (runs : List RunState) (r j : ℕ) (b : Bool) (y : JobState) → JobFits (planned_legs runs r j) (result_at runs r j y) y
    → JobFits (planned_legs runs r j) (result_at runs r j (stopped_where b y)) (stopped_where b y)
where_fits runs r j b y fits =
    let made : Bool → JobState = λ c. if c then with_stopped_legs y else y in
    elim (is_open y.phase && b) as
    (λ c. (is_open y.phase && b) ≡ c → JobFits (planned_legs runs r j) (result_at runs r j (made c)) (made c)) [
      | true ↦ λ is. stopped_fits (planned_legs runs r j) (result_at runs r j y) (result_at runs r j (with_stopped_legs y)) y
          (is_open_open y.phase (and_parts (is_open y.phase) b is).0) fits
      | false ↦ λ is. fits
    ] refl

where_reads : (f : LegState → Option ℕ) → ((z : LegState) → f (stopped z) ≡ f z) → (b : Bool) (l : ℕ) (y : JobState)
    → option_and_then f (slice_get (stopped_where b y).legs l) ≡ option_and_then f (slice_get y.legs l)
where_reads f same b l y =
    elim (is_open y.phase && b) as
    (λ c. option_and_then f (slice_get (if c then with_stopped_legs y else y).legs l) ≡ option_and_then f (slice_get y.legs l)) [
      | true ↦ same_reads f same y.legs l
      | false ↦ refl
    ]

-- a stop changes no job's result, and gives no job legs
pub where_result : (b : Bool) (y : JobState) → finished_result (stopped_where b y).phase ≡ finished_result y.phase
where_result b y =
    elim (is_open y.phase && b) as (λ c. finished_result (if c then with_stopped_legs y else y).phase ≡ finished_result y.phase) [
      | true ↦ refl
      | false ↦ refl
    ]

pub where_no_legs : (b : Bool) (y : JobState) → y.legs ≡ [] → (stopped_where b y).legs ≡ []
where_no_legs b y none =
    elim (is_open y.phase && b) as (λ c. (if c then with_stopped_legs y else y).legs ≡ []) [
      | true ↦ ap (map stopped) none
      | false ↦ none
    ]

keeps_nothing : (runs : List RunState) (r : ℕ) (x : RunState) → RunFits runs r x → Keeps runs r x x
keeps_nothing runs r x fits =
    record {
      stays = record { same_identity = refl; same_attempt = refl; keeps_results = (λ j a e. e); fits = fits };
      same_had = (λ j l. refl);
      same_works = (λ j l. refl);
    }

leg_facts_keep : (runs : List RunState) (r : ℕ) (x : RunState) → RunFits runs r x → x.phase ≡ run.Live → Keeps runs r x (with_stop_requested x)
leg_facts_keep runs r x fits live =
    let leg_facts = record x { stopping = true } in
    let f : ℕ × JobState → JobState = λ j. stopped_where (not (may_run_in leg_facts j.0)) j.1 in
    record {
      stays = record {
        same_identity = refl;
        same_attempt = refl;
        keeps_results = (λ j a e. ap (option_and_then (λ (y : JobState). finished_result y.phase)) (get_placed f x.jobs j)
            ∙ mapped_reads (λ y. finished_result y.phase) (λ z. f (j, z)) (where_result (not (may_run_in leg_facts j))) (slice_get x.jobs j) ∙ e);
        fits = record {
          needs_first = (λ j y e some.
              let from = from_map (λ z. f (j, z)) (slice_get x.jobs j) y (sym (get_placed f x.jobs j) ∙ e) in
              fits.needs_first j from.value from.is
              (λ none. some (sym (ap (λ (v : JobState). v.legs) from.gives) ∙ where_no_legs (not (may_run_in leg_facts j)) from.value none)));
          has_its_jobs = length-placed f x.jobs 0 ∙ fits.has_its_jobs;
          phase_fits = live_fits x.phase true (map f (placed x.jobs)) live;
          jobs_fit = (λ j y e.
              let from = from_map (λ z. f (j, z)) (slice_get x.jobs j) y (sym (get_placed f x.jobs j) ∙ e) in
              subst (λ (v : JobState). JobFits (planned_legs runs r j) (result_at runs r j v) v) from.gives
              (where_fits runs r j (not (may_run_in leg_facts j)) from.value (fits.jobs_fit j from.value from.is)));
        };
      };
      same_had = (λ j l. ap (option_and_then (λ (y : JobState). had_in_job y l)) (get_placed f x.jobs j)
          ∙ mapped_reads (λ y. had_in_job y l) (λ z. f (j, z)) (where_reads (λ z. z.lease) (λ z. refl) (not (may_run_in leg_facts j)) l)
          (slice_get x.jobs j));
      same_works = (λ j l. ap (option_and_then (λ (y : JobState). works_in_job y l)) (get_placed f x.jobs j)
          ∙ mapped_reads (λ y. works_in_job y l) (λ z. f (j, z)) (where_reads work_of same_work (not (may_run_in leg_facts j)) l)
          (slice_get x.jobs j));
    }

-- ---- a run that has not begun

all_blocked : (phase : RunPhase) (stopping : Bool) (jobs : List JobState) → PhaseFits phase stopping jobs → phase ≡ run.Waiting
    → (j : ℕ) (y : JobState) → slice_get jobs j ≡ Some y → y.phase ≡ job.Blocked
all_blocked run.Waiting stopping jobs fits e = fits.1
all_blocked run.Live stopping jobs fits e = cc
all_blocked run.Ended stopping jobs fits e = cc

blocked_has_none : (phase : JobPhase) (a : JobResult) → phase ≡ job.Blocked → finished_result phase ≡ Some a → ⊥
blocked_has_none job.Blocked a is e = cc
blocked_has_none job.Open a is e = cc
blocked_has_none (job.Finished r) a is e = cc

cancelled_keeps : (runs : List RunState) (r : ℕ) (x : RunState) → RunFits runs r x → x.phase ≡ run.Waiting → Keeps runs r x (cancelled x)
cancelled_keeps runs r x fits waiting =
    let f = finished_as result.Cancelled in
    record {
      stays = record {
        same_identity = refl;
        same_attempt = refl;
        keeps_results = (λ j a e.
            let was = from_and_then (λ (y : JobState). finished_result y.phase) (slice_get x.jobs j) a e in
            absurd (blocked_has_none was.value.phase a
            (all_blocked x.phase x.stopping x.jobs fits.phase_fits waiting j was.value was.is) was.gives));
        fits = record {
          needs_first = (λ j y e some.
              let from = from_map f (slice_get x.jobs j) y (sym (slice_get-map f x.jobs j) ∙ e) in
              fits.needs_first j from.value from.is (λ none. some (sym (ap (λ (v : JobState). v.legs) from.gives) ∙ none)));
          has_its_jobs = length-map x.jobs f ∙ fits.has_its_jobs;
          phase_fits = (λ j y e.
              let from = from_map f (slice_get x.jobs j) y (sym (slice_get-map f x.jobs j) ∙ e) in
              ap is_finished (sym from.gives));
          jobs_fit = (λ j y e.
              let from = from_map f (slice_get x.jobs j) y (sym (slice_get-map f x.jobs j) ∙ e) in
              let z = from.value in
              let was = fits.jobs_fit j z from.is in
              let none = no_legs (planned_legs runs r j) (result_at runs r j z) z.phase z.legs was.legs_fit
              (all_blocked x.phase x.stopping x.jobs fits.phase_fits waiting j z from.is) in
              subst (λ (v : JobState). JobFits (planned_legs runs r j) (result_at runs r j v) v) from.gives
              (record { legs_fit = inl (none, tt); leases_fit = was.leases_fit }));
        };
      };
      same_had = (λ j l. ap (option_and_then (λ (y : JobState). had_in_job y l)) (slice_get-map f x.jobs j)
          ∙ mapped_reads (λ y. had_in_job y l) f (λ y. refl) (slice_get x.jobs j));
      same_works = (λ j l. ap (option_and_then (λ (y : JobState). works_in_job y l)) (slice_get-map f x.jobs j)
          ∙ mapped_reads (λ y. works_in_job y l) f (λ y. refl) (slice_get x.jobs j));
    }

-- ---- a run is stopped

stopped_keeps : (runs : List RunState) (r : ℕ) (x : RunState) → RunFits runs r x → Keeps runs r x (stopped_run x)
stopped_keeps runs r x fits =
    elim (x.phase) as (λ phase. x.phase ≡ phase → Keeps runs r x (stopped_in phase x)) [
      | run.Waiting ↦ λ is. cancelled_keeps runs r x fits is
      | run.Live ↦ λ is. elim (x.stopping) as (λ b. Keeps runs r x (if b then x else with_stop_requested x)) [
        | true ↦ keeps_nothing runs r x fits
        | false ↦ leg_facts_keep runs r x fits is
      ]
      | run.Ended ↦ λ is. keeps_nothing runs r x fits
    ] refl

pub stopped_run_settles : (runs : List RunState) → RunsFit runs → (r : ℕ) (x : RunState) → run_at runs r ≡ Some x
    → Settles runs (with_run r stopped_run runs)
stopped_run_settles runs fit r x was = one_settles runs fit r x stopped_run was (stopped_keeps runs r x (fit r x was))
