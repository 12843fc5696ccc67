-- The size of a run in the text of a table: its bound, and what a change makes of it.
use Rattle.std.specs.Prelude.{◌≡◌, ℕ, zero, suc, ◌+◌, ◌*◌, ◌<◌, ◌≤◌, List, [], ◌∷◌, length, map, option_map, sum_by, replicate, take}
use Rattle.std.specs.Prelude.{Option, Some, None, slice_get, refl}
use Rattle.std.specs.List.{AllByRecursion}
use Rattle.std.specs.Option.{option_map_or}
use Rattle.std.proofs.Common.{arith, ap, below_more, get_or, sym, subst, ◌∙◌}
use Rattle.std.proofs.lemmas.List.{length-map, length-replicate, take_all}
use Rattle.std.proofs.lemmas.List.Sums.{sum_by-cons, sum_by_more}
use Rattle.std.proofs.lemmas.Option.{same_Some, slice_get-map}
use Rattle.run_plan.specs.PlanOf.{plan_of}
use Rattle.run_plan.specs.declared.planned.PlannedJob.{PlannedJob}
use Rattle.run_plan.proofs.FewLegs.{few_planned}
use Rattle.table_model.specs.inner.Cells.{JobCells, legs_planned, rooms, states}
use Rattle.table_model.specs.Changes.{changed}
use Rattle.table_model.specs.Runs.{changed_at, JobState, LegState, RunState, new_leg, opened, finished_as}
use Rattle.table_model.specs.Settling.{legs_in_plan}
use Rattle.table_runs.specs.StoredSizes.{IsSmall, job_size, leg_counts, max_run_size, run_size, texts_size}
use Rattle.table_model.specs.declared.change.Change.{Change}
use Rattle.table_model.specs.declared.change.Change.TheVariants as change
use Rattle.table_model.proofs.Changed.{length-changed_at}
use Rattle.table_model.proofs.Doors.{changed_past}

abbrev pub AreFew : List ℕ → Type 0
AreFew counts = AllByRecursion (λ n. n ≤ 256) counts

-- ---- the bound

few_jobs_size : (counts : List ℕ) → AreFew counts → sum_by job_size counts ≤ length counts * 1285
few_jobs_size [] few = omega arith
few_jobs_size (n ∷ ns) few =
    let more = sum_by-cons job_size n ns in
    let rest = few_jobs_size ns few.1 in
    let one : n ≤ 256 = few.0 in
    omega (arith, more, rest, one)

pub small_size : (r : RunState) → IsSmall r → run_size r ≤ max_run_size
small_size r small =
    let jobs = few_jobs_size (leg_counts r.jobs) small.legs in
    let many : length (leg_counts r.jobs) ≡ length r.jobs = length-map r.jobs (λ (j : JobState). length j.legs) in
    omega (arith, small.texts, small.jobs, jobs, many)

-- ---- changes of jobs

kept_at : (g : JobState → JobState) → ((j : JobState) → length (g j).legs ≡ length j.legs) → (jobs : List JobState) (i : ℕ)
    → leg_counts (changed_at i g jobs) ≡ leg_counts jobs
kept_at g same [] i = refl
kept_at g same (j ∷ js) zero = ap (λ n. n ∷ leg_counts js) (same j)
kept_at g same (j ∷ js) (suc i) = ap (λ ns. length j.legs ∷ ns) (kept_at g same js i)

kept_all : (g : JobState → JobState) → ((j : JobState) → length (g j).legs ≡ length j.legs) → (jobs : List JobState)
    → leg_counts (map g jobs) ≡ leg_counts jobs
kept_all g same [] = refl
kept_all g same (j ∷ js) = ap (λ n. n ∷ leg_counts (map g js)) (same j) ∙ ap (λ ns. length j.legs ∷ ns) (kept_all g same js)

set_at : (g : JobState → JobState) (n : ℕ) → ((j : JobState) → length (g j).legs ≡ n) → (jobs : List JobState) (i : ℕ)
    → leg_counts (changed_at i g jobs) ≡ changed_at i (λ _. n) (leg_counts jobs)
set_at g n is [] i = refl
set_at g n is (j ∷ js) zero = ap (λ k. k ∷ leg_counts js) (is j)
set_at g n is (j ∷ js) (suc i) = ap (λ ns. length j.legs ∷ ns) (set_at g n is js i)

few_set : (n : ℕ) → n ≤ 256 → (counts : List ℕ) (i : ℕ) → AreFew counts → AreFew (changed_at i (λ _. n) counts)
few_set n few [] i are = tt
few_set n few (m ∷ ms) zero are = (few, are.1)
few_set n few (m ∷ ms) (suc i) are = (are.0, few_set n few ms i are.1)

-- a job that had some legs gets more
grown_at : (counts : List ℕ) (i had more : ℕ) → slice_get counts i ≡ Some had
    → sum_by job_size (changed_at i (λ _. had + more) counts) ≡ sum_by job_size counts + 5 * more
grown_at [] i had more at = cc
grown_at (m ∷ ms) zero had more at =
    let same : m ≡ had = same_Some m had at in
    let after = sum_by-cons job_size (had + more) ms in
    let before = sum_by-cons job_size m ms in
    omega (arith, same, after, before)
grown_at (m ∷ ms) (suc i) had more at =
    let rest = grown_at ms i had more at in
    let after = sum_by-cons job_size m (changed_at i (λ _. had + more) ms) in
    let before = sum_by-cons job_size m ms in
    omega (arith, rest, after, before)

-- ---- changes of a run

-- with as many legs in each job, it is as large
same_size : (r next : RunState) → next.admitted ≡ r.admitted → leg_counts next.jobs ≡ leg_counts r.jobs → run_size next ≡ run_size r
same_size r next admitted counts =
    ap (λ a. 18 + texts_size a + sum_by job_size (leg_counts next.jobs)) admitted
    ∙ ap (λ (ns : List ℕ). 18 + texts_size r.admitted + sum_by job_size ns) counts

small_with : (r : RunState) (jobs : List JobState) → IsSmall r → length jobs ≡ length r.jobs → AreFew (leg_counts jobs)
    → (phase : RunState) → phase.admitted ≡ r.admitted → phase.jobs ≡ jobs → IsSmall phase
small_with r jobs small many few next admitted is = record {
  texts = omega (arith, small.texts, ap texts_size admitted);
  jobs = omega (arith, small.jobs, many, ap (λ (js : List JobState). length js) is);
  legs = subst (λ (js : List JobState). AreFew (leg_counts js)) (sym is) few;
}

leg_put : (l : ℕ) (leg : LegState) (j : JobState) → length (changed_at l (λ _. leg) j.legs) ≡ length j.legs
leg_put l leg j = length-changed_at l (λ _. leg) j.legs

-- a change that opens no job keeps the number of legs of each
counts_kept : (c : Change) (r : RunState) → ((j : ℕ) → c ≡ change.Open j → ⊥) → leg_counts (changed c r).jobs ≡ leg_counts r.jobs
counts_kept (change.Phase phase) r not = refl
counts_kept (change.Open j) r not = absurd (not j refl)
counts_kept (change.Settle j settled) r not = kept_at (finished_as settled) (λ _. refl) r.jobs j
counts_kept change.Cancel r not = kept_all (finished_as _) (λ _. refl) r.jobs
counts_kept change.RequestStop r not = refl
counts_kept (change.PutLeg j l leg) r not =
    kept_at (λ job. record job { legs = changed_at l (λ _. leg) job.legs }) (leg_put l leg) r.jobs j

same_event : (c : Change) (r : RunState) → (changed c r).admitted ≡ r.admitted
same_event (change.Phase phase) r = refl
same_event (change.Open j) r = refl
same_event (change.Settle j settled) r = refl
same_event change.Cancel r = refl
same_event change.RequestStop r = refl
same_event (change.PutLeg j l leg) r = refl

pub size_kept : (c : Change) (r : RunState) → ((j : ℕ) → c ≡ change.Open j → ⊥) → run_size (changed c r) ≡ run_size r
size_kept c r not = same_size r (changed c r) (same_event c r) (counts_kept c r not)

-- a job that opens gets the legs of its plan
all_new : (n : ℕ) (j : JobState) → length (opened n j).legs ≡ n
all_new n j = length-replicate n new_leg

pub size_opened : (r : RunState) (j had more : ℕ) → slice_get (leg_counts r.jobs) j ≡ Some had
    → had + more ≡ legs_in_plan (plan_of r.admitted.body) j → run_size (changed (change.Open j) r) ≡ run_size r + 5 * more
size_opened r j had more at all =
    let n = legs_in_plan (plan_of r.admitted.body) j in
    let counts : leg_counts (changed (change.Open j) r).jobs ≡ changed_at j (λ _. had + more) (leg_counts r.jobs) =
    set_at (opened n) n (all_new n) r.jobs j ∙ ap (λ (k : ℕ). changed_at j (λ _. k) (leg_counts r.jobs)) (sym all) in
    let sum = grown_at (leg_counts r.jobs) j had more at in
    let size = ap (λ (ns : List ℕ). sum_by job_size ns) counts in
    omega (arith, sum, size)

-- ---- the limits stay

few_in : (o : Option PlannedJob) → ((p : PlannedJob) → o ≡ Some p → length p.legs ≤ 256)
    → option_map_or (λ (planned : PlannedJob). length planned.legs) o 0 ≤ 256
few_in None few = omega arith
few_in (Some p) few = few p refl

pub few_opened : (body : List ℕ) (j : ℕ) → legs_in_plan (plan_of body) j ≤ 256
few_opened body j = few_in (slice_get (plan_of body) j) (few_planned body j)

kept_small : (r next : RunState) → IsSmall r → next.admitted ≡ r.admitted → length next.jobs ≡ length r.jobs
    → leg_counts next.jobs ≡ leg_counts r.jobs → IsSmall next
kept_small r next small admitted many counts =
    small_with r next.jobs small many (subst AreFew (sym counts) small.legs) next admitted refl

pub small_changed : (c : Change) (r : RunState) → IsSmall r → IsSmall (changed c r)
small_changed (change.Phase phase) r small = record { texts = small.texts; jobs = small.jobs; legs = small.legs }
small_changed (change.Open j) r small =
    let n = legs_in_plan (plan_of r.admitted.body) j in
    record {
      texts = small.texts;
      jobs = omega (arith, small.jobs, length-changed_at j (opened n) r.jobs);
      legs = subst AreFew (sym (set_at (opened n) n (all_new n) r.jobs j))
          (few_set n (few_opened r.admitted.body j) (leg_counts r.jobs) j small.legs);
    }
small_changed (change.Settle j settled) r small =
    kept_small r (changed (change.Settle j settled) r) small refl (length-changed_at j (finished_as settled) r.jobs)
    (kept_at (finished_as settled) (λ _. refl) r.jobs j)
small_changed change.Cancel r small =
    kept_small r (changed change.Cancel r) small refl (length-map r.jobs (finished_as _)) (kept_all (finished_as _) (λ _. refl) r.jobs)
small_changed change.RequestStop r small = record { texts = small.texts; jobs = small.jobs; legs = small.legs }
small_changed (change.PutLeg j l leg) r small =
    kept_small r (changed (change.PutLeg j l leg) r) small refl (length-changed_at j _ r.jobs)
    (kept_at (λ job. record job { legs = changed_at l (λ _. leg) job.legs }) (leg_put l leg) r.jobs j)

-- ---- the jobs of a run, one after another

-- the first jobs are counted, and each of them has few legs
pub record AreSizedBelow (size : ℕ) (counts : List ℕ) (i : ℕ) : Type 0 where
  pub is : size ≡ sum_by job_size (take i counts)
  pub few : (k : ℕ) → k < i → get_or counts k 0 ≤ 256
  pub most : size ≤ i * 1285

pub sized_none : (counts : List ℕ) → AreSizedBelow 0 counts 0
sized_none counts = record {
  is = ap (λ (ns : List ℕ). sum_by job_size ns) (sym (nothing counts));
  few = λ k below. absurd (omega (arith, below));
  most = omega arith;
}
  where
    nothing : (ns : List ℕ) → take 0 ns ≡ []
    nothing [] = refl
    nothing (m ∷ ms) = refl

pub sized_more : (size n : ℕ) (counts : List ℕ) (i : ℕ) → i < length counts → n ≡ get_or counts i 0 → n ≤ 256 → AreSizedBelow size counts i
    → AreSizedBelow (size + (5 + 5 * n)) counts (i + 1)
sized_more size n counts i below is few so_far = record {
  is = omega (arith, so_far.is, sum_by_more job_size counts i 0 below, is);
  few = below_more (λ k. get_or counts k 0 ≤ 256) i so_far.few (omega (arith, is, few));
  most = omega (arith, so_far.most, few);
}

few_each : (counts : List ℕ) → ((k : ℕ) → k < length counts → get_or counts k 0 ≤ 256) → AreFew counts
few_each [] each = tt
few_each (m ∷ ms) each = (each 0 (omega arith), few_each ms (λ k below. each (suc k) (omega (arith, below))))

pub sized_all : (size : ℕ) (counts : List ℕ) (i : ℕ) → length counts ≤ i → AreSizedBelow size counts i
    → (size ≡ sum_by job_size counts) × AreFew counts
sized_all size counts i all sized = (
  sized.is ∙ ap (λ (ns : List ℕ). sum_by job_size ns) (take_all i counts all),
  few_each counts (λ k below. sized.few k (omega (arith, all, below))),
)

-- ---- the jobs of a run, as the code sees them

abbrev pub counts_of : List JobCells → List ℕ
counts_of jobs = leg_counts (states jobs)

pub as_many_counts : (jobs : List JobCells) → length (counts_of jobs) ≡ length jobs
as_many_counts jobs =
    length-map (states jobs) (λ (j : JobState). length j.legs) ∙ length-map jobs (λ (j : JobCells). j.state)

pub count_at : (jobs : List JobCells) (i : ℕ) (d : JobCells) → i < length jobs → length (get_or jobs i d).state.legs ≡ get_or (counts_of jobs) i 0
count_at [] i d below = absurd (omega (arith, below))
count_at (j ∷ js) zero d below = refl
count_at (j ∷ js) (suc i) d below = count_at js i d (omega (arith, below))

pub few_room : (jobs : List JobCells) (i : ℕ) (d : JobCells) → i < length jobs → AreFew (rooms jobs) → (get_or jobs i d).room ≤ 256
few_room [] i d below few = absurd (omega (arith, below))
few_room (j ∷ js) zero d below few = few.0
few_room (j ∷ js) (suc i) d below few = few_room js i d (omega (arith, below)) few.1

-- a job has room for the legs of its plan, and a plan has few for each job
pub few_rooms : (body : List ℕ) → AreFew (legs_planned (plan_of body))
few_rooms body = few_planned_in (plan_of body) (few_planned body)
  where
    few_planned_in : (plan : List PlannedJob) → ((j : ℕ) (p : PlannedJob) → slice_get plan j ≡ Some p → length p.legs ≤ 256)
        → AreFew (legs_planned plan)
    few_planned_in [] few = tt
    few_planned_in (p ∷ ps) few = (few 0 p refl, few_planned_in ps (λ j planned at. few (suc j) planned at))

-- the room of a job is the number of legs in its plan
pub room_is : (plan : List PlannedJob) (jobs : List JobCells) (j : ℕ) (x : JobCells) → rooms jobs ≡ legs_planned plan → slice_get jobs j ≡ Some x
    → legs_in_plan plan j ≡ x.room
room_is plan jobs j x are at =
    let read : option_map (λ (k : PlannedJob). length k.legs) (slice_get plan j) ≡ option_map (λ (k : JobCells). k.room) (slice_get jobs j) =
    sym (slice_get-map (λ (k : PlannedJob). length k.legs) plan j) ∙ ap (λ (ns : List ℕ). slice_get ns j) (sym are)
    ∙ slice_get-map (λ (k : JobCells). k.room) jobs j in
    read_room (slice_get plan j) x (read ∙ ap (option_map (λ (k : JobCells). k.room)) at)
  where
    read_room : (o : Option PlannedJob) (y : JobCells) → option_map (λ (k : PlannedJob). length k.legs) o ≡ Some y.room
        → option_map_or (λ (planned : PlannedJob). length planned.legs) o 0 ≡ y.room
    read_room None y is = cc
    read_room (Some p) y is = same_Some (length p.legs) y.room is

pub counts_read : (jobs : List JobCells) (j : ℕ) (x : JobCells) → slice_get jobs j ≡ Some x
    → slice_get (counts_of jobs) j ≡ Some (length x.state.legs)
counts_read jobs j x at =
    slice_get-map (λ (k : JobState). length k.legs) (states jobs) j
    ∙ ap (option_map (λ (k : JobState). length k.legs))
    (slice_get-map (λ (k : JobCells). k.state) jobs j ∙ ap (option_map (λ (k : JobCells). k.state)) at)

-- a job that is there gets what its room has more
pub size_of_one : (r : RunState) (jobs : List JobCells) (j : ℕ) (x : JobCells) (more : ℕ) → states jobs ≡ r.jobs
    → rooms jobs ≡ legs_planned (plan_of r.admitted.body) → slice_get jobs j ≡ Some x → length x.state.legs + more ≡ x.room
    → run_size (changed (change.Open j) r) ≡ run_size r + 5 * more
size_of_one r jobs j x more seen are at room =
    size_opened r j (length x.state.legs) more
    (sym (ap (λ (js : List JobState). slice_get (leg_counts js) j) seen) ∙ counts_read jobs j x at)
    (room ∙ sym (room_is (plan_of r.admitted.body) jobs j x are at))

-- no job is there
pub size_past : (r : RunState) (j : ℕ) → length r.jobs ≤ j → run_size (changed (change.Open j) r) ≡ run_size r
size_past r j past =
    ap (λ (js : List JobState). 18 + texts_size r.admitted + sum_by job_size (leg_counts js))
    (sym (changed_past (opened (legs_in_plan (plan_of r.admitted.body) j)) r.jobs j past))
