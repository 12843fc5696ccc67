-- A stop does not raise the number of phases that remain, and neither does the room that an arrival makes.
use Rattle.std.specs.Prelude.{ℕ, zero, suc, ◌+◌, ◌≤◌, ◌&&◌, List, [], ◌∷◌, map, not, sum_by, Bool, true, false, Some, None}
use Rattle.std.specs.Prelude.{if◌then◌else◌}
use Rattle.std.specs.List.{enumerate_from}
use Rattle.std.specs.Option.{option_map_or}
use Rattle.std.proofs.Common.{arith}
use Rattle.std.proofs.lemmas.List.Sums.{sum_by-cons}
use Rattle.wf_value.specs.declared.outcome.JobResult.TheVariants as result
use Rattle.group_name.specs.Group.{Group}
use Rattle.run_plan.specs.PlanOf.{plan_of}
use Rattle.table_model.specs.Settling.{arrived, displaced, others_pending, room_made, stopped_where_requested}
use Rattle.table_model.specs.Runs.{changed_at, LegState, JobState, RunState, is_open, finished_as}
use Rattle.table_model.specs.Groups.{cancels_in_progress, group_at, in_progress_in}
use Rattle.table_model.specs.GroupLaw.{Transition, at_each, without_moves}
use Rattle.table_model.specs.LegContext.{may_run_in}
use Rattle.table_model.specs.Settling.{job_left, leg_left, leg_phases_left, remaining_phases, legs_in_plan, run_left}
use Rattle.table_model.specs.Stops.{displace, stop_holder, with_stopped_legs}
use Rattle.table_model.specs.Stops.{cancelled, stopped, stopped_in, stopped_phase, stopped_run, stopped_where, with_stop_requested}
use Rattle.table_model.specs.declared.phases.LegPhase.{LegPhase}
use Rattle.table_model.specs.declared.phases.LegPhase.TheVariants as leg
use Rattle.table_model.specs.declared.phases.RunPhase.{RunPhase}
use Rattle.table_model.specs.declared.phases.RunPhase.TheVariants as run
use Rattle.table_model.proofs.JobKeeps.{with_job_of, with_leg_of}
use Rattle.table_model.specs.declared.holder.Holder.{Holder}
use Rattle.table_model.specs.declared.holder.Holder.TheVariants.{Run, Leg}

-- ---- sums of terms that do not grow

sum_of_map : {X : Type 0} (f : X → ℕ) (g : X → X) (xs : List X) → ((x : X) → f (g x) ≤ f x) → sum_by f (map g xs) ≤ sum_by f xs
sum_of_map f g [] h = omega arith
sum_of_map f g (x ∷ xs) h =
    let rest = sum_of_map f g xs h in
    let now = h x in
    let new = sum_by-cons f (g x) (map g xs) in
    let old = sum_by-cons f x xs in
    omega (arith, rest, now, new, old)

sum_of_one : {X : Type 0} (f : X → ℕ) (g : X → X) (xs : List X) (i : ℕ) → ((x : X) → f (g x) ≤ f x)
    → sum_by f (changed_at i g xs) ≤ sum_by f xs
sum_of_one f g [] i h = omega arith
sum_of_one f g (x ∷ xs) zero h =
    let now = h x in
    let new = sum_by-cons f (g x) xs in
    let old = sum_by-cons f x xs in
    omega (arith, now, new, old)
sum_of_one f g (x ∷ xs) (suc i) h =
    let rest = sum_of_one f g xs i h in
    let new = sum_by-cons f x (changed_at i g xs) in
    let old = sum_by-cons f x xs in
    omega (arith, rest, new, old)

-- sums whose terms depend on the index

placed_sum_of_one : {X : Type 0} (f : ℕ → X → ℕ) (g : X → X) (xs : List X) (n i : ℕ) → ((m : ℕ) (x : X) → f m (g x) ≤ f m x)
    → sum_by (λ e. f e.0 e.1) (enumerate_from n (changed_at i g xs)) ≤ sum_by (λ e. f e.0 e.1) (enumerate_from n xs)
placed_sum_of_one f g [] n i h = omega arith
placed_sum_of_one {X} f g (x ∷ xs) n zero h =
    let sum : ℕ × X → ℕ = λ e. f e.0 e.1 in
    let now = h n x in
    let new = sum_by-cons sum (n, g x) (enumerate_from (n + 1) xs) in
    let old = sum_by-cons sum (n, x) (enumerate_from (n + 1) xs) in
    omega (arith, now, new, old)
placed_sum_of_one {X} f g (x ∷ xs) n (suc i) h =
    let sum : ℕ × X → ℕ = λ e. f e.0 e.1 in
    let rest = placed_sum_of_one f g xs (n + 1) i h in
    let new = sum_by-cons sum (n, x) (enumerate_from (n + 1) (changed_at i g xs)) in
    let old = sum_by-cons sum (n, x) (enumerate_from (n + 1) xs) in
    omega (arith, rest, new, old)

placed_sum_of_map : {X : Type 0} (f : ℕ → X → ℕ) (g : X → X) (xs : List X) (n : ℕ) → ((m : ℕ) (x : X) → f m (g x) ≤ f m x)
    → sum_by (λ e. f e.0 e.1) (enumerate_from n (map g xs)) ≤ sum_by (λ e. f e.0 e.1) (enumerate_from n xs)
placed_sum_of_map f g [] n h = omega arith
placed_sum_of_map {X} f g (x ∷ xs) n h =
    let sum : ℕ × X → ℕ = λ e. f e.0 e.1 in
    let rest = placed_sum_of_map f g xs (n + 1) h in
    let now = h n x in
    let new = sum_by-cons sum (n, g x) (enumerate_from (n + 1) (map g xs)) in
    let old = sum_by-cons sum (n, x) (enumerate_from (n + 1) xs) in
    omega (arith, rest, now, new, old)

placed_sum_of_placed : {X : Type 0} (f : ℕ → X → ℕ) (g : ℕ → X → X) (xs : List X) (n k : ℕ)
    → ((m i : ℕ) (x : X) → f m (g i x) ≤ f m x)
    → sum_by (λ e. f e.0 e.1) (enumerate_from n (map (λ e. g e.0 e.1) (enumerate_from k xs)))
    ≤ sum_by (λ e. f e.0 e.1) (enumerate_from n xs)
placed_sum_of_placed f g [] n k h = omega arith
placed_sum_of_placed {X} f g (x ∷ xs) n k h =
    let sum : ℕ × X → ℕ = λ e. f e.0 e.1 in
    let made : ℕ × X → X = λ e. g e.0 e.1 in
    let rest = placed_sum_of_placed f g xs (n + 1) (k + 1) h in
    let now = h n k x in
    let new = sum_by-cons sum (n, g k x) (enumerate_from (n + 1) (map made (enumerate_from (k + 1) xs))) in
    let old = sum_by-cons sum (n, x) (enumerate_from (n + 1) xs) in
    omega (arith, rest, now, new, old)

-- ---- a leg, a job and a run are stopped

phase_stopped : (phase : LegPhase) → leg_phases_left (stopped_phase phase) ≤ leg_phases_left phase
phase_stopped leg.New = omega arith
phase_stopped leg.Waiting = omega arith
phase_stopped leg.Ready = omega arith
phase_stopped leg.Running = omega arith
phase_stopped leg.Stopping = omega arith
phase_stopped (leg.Ended r) = omega arith

leg_stopped : (z : LegState) → leg_left (stopped z) ≤ leg_left z
leg_stopped z = phase_stopped z.phase

legs_stopped : (planned : ℕ) (y : JobState) → job_left planned (with_stopped_legs y) ≤ job_left planned y
legs_stopped planned y = let less = sum_of_map leg_left stopped y.legs leg_stopped in omega (arith, less)

one_leg_stopped : (planned l : ℕ) (y : JobState) → job_left planned (with_leg_of l stopped y) ≤ job_left planned y
one_leg_stopped planned l y = let less = sum_of_one leg_left stopped y.legs l leg_stopped in omega (arith, less)

where_stopped : (planned : ℕ) (b : Bool) (y : JobState) → job_left planned (stopped_where b y) ≤ job_left planned y
where_stopped planned b y =
    elim (is_open y.phase && b) as (λ c. job_left planned (if c then with_stopped_legs y else y) ≤ job_left planned y) [
      | true ↦ legs_stopped planned y
      | false ↦ omega arith
    ]

settled_lowers : (planned : ℕ) (y : JobState) → job_left planned (finished_as result.Cancelled y) ≤ job_left planned y
settled_lowers planned y = omega arith

-- the phases that remain for job `j` of a run
abbrev left_in : RunState → ℕ → JobState → ℕ
left_in x j y = job_left (legs_in_plan (plan_of x.admitted.body) j) y

told_lowers : (x : RunState) → run_left (with_stop_requested x) ≤ run_left x
told_lowers x =
    let leg_facts = record x { stopping = true } in
    let less = placed_sum_of_placed (left_in x) (λ j y. stopped_where (not (may_run_in leg_facts j)) y) x.jobs 0 0
    (λ m i y. where_stopped (legs_in_plan (plan_of x.admitted.body) m) (not (may_run_in leg_facts i)) y) in
    omega (arith, less)

cancelled_lowers : (x : RunState) → run_left (cancelled x) ≤ run_left x
cancelled_lowers x =
    let less = placed_sum_of_map (left_in x) (finished_as result.Cancelled) x.jobs 0
    (λ m y. settled_lowers (legs_in_plan (plan_of x.admitted.body) m) y) in
    omega (arith, less)

stopped_in_lowers : (phase : RunPhase) (x : RunState) → run_left (stopped_in phase x) ≤ run_left x
stopped_in_lowers run.Waiting x = cancelled_lowers x
stopped_in_lowers run.Live x =
    elim (x.stopping) as (λ b. run_left (if b then x else with_stop_requested x) ≤ run_left x) [
      | true ↦ omega arith
      | false ↦ told_lowers x
    ]
stopped_in_lowers run.Ended x = omega arith

one_leg_of_run : (j l : ℕ) (x : RunState) → run_left (with_job_of j (with_leg_of l stopped) x) ≤ run_left x
one_leg_of_run j l x =
    let less = placed_sum_of_one (left_in x) (with_leg_of l stopped) x.jobs 0 j
    (λ m y. one_leg_stopped (legs_in_plan (plan_of x.admitted.body) m) l y) in
    omega (arith, less)

-- ---- a holder

pub stop_lowers : (h : Holder) (runs : List RunState) → remaining_phases (stop_holder h runs).runs ≤ remaining_phases runs
stop_lowers (Run r) runs = sum_of_one run_left stopped_run runs r (λ x. stopped_in_lowers x.phase x)
stop_lowers (Leg p) runs = sum_of_one run_left (with_job_of p.job (with_leg_of p.leg stopped)) runs p.run
    (one_leg_of_run p.job p.leg)

each_lowers : (change : Holder → List RunState → Transition) → ((h : Holder) (runs : List RunState) → remaining_phases (change h runs).runs ≤ remaining_phases runs)
    → (hs : List Holder) (runs : List RunState) → remaining_phases (at_each change hs runs).runs ≤ remaining_phases runs
each_lowers change less [] runs = omega arith
each_lowers change less (h ∷ hs) runs =
    let first = less h runs in
    let rest = each_lowers change less hs (change h runs).runs in
    omega (arith, first, rest)

-- ---- an arrival

displaced_lowers : (g : Group) (newcomer : Holder) (runs : List RunState) → remaining_phases (displaced g newcomer runs).runs ≤ remaining_phases runs
displaced_lowers g newcomer runs = each_lowers displace stop_lowers (others_pending g newcomer runs) runs

requested_lowers : (cancels : Bool) (g : Group) (runs : List RunState) → remaining_phases (stopped_where_requested cancels g runs).runs ≤ remaining_phases runs
requested_lowers true g runs = each_lowers stop_holder stop_lowers (in_progress_in runs g) runs
requested_lowers false g runs = omega arith

room_lowers : (cancels : Bool) (newcomer : Holder) (runs : List RunState) (g : Group)
    → remaining_phases (room_made cancels newcomer runs g).runs ≤ remaining_phases runs
room_lowers cancels newcomer runs g =
    let first = displaced_lowers g newcomer runs in
    let rest = requested_lowers cancels g (displaced g newcomer runs).runs in
    omega (arith, first, rest)

pub arrival_lowers : (newcomer : Holder) (runs : List RunState) → remaining_phases (arrived newcomer runs).runs ≤ remaining_phases runs
arrival_lowers newcomer runs =
    elim (group_at runs newcomer) as
    (λ o. remaining_phases (option_map_or (room_made (cancels_in_progress runs newcomer) newcomer runs) o (without_moves runs)).runs ≤ remaining_phases runs) [
      | None ↦ omega arith
      | Some g ↦ room_lowers (cancels_in_progress runs newcomer) newcomer runs g
    ]
