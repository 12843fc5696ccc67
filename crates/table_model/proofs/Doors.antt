-- The changes of a run's cells, as contracts see them.
use Rattle.std.specs.Prelude.{◌≡◌, ℕ, zero, suc, ◌<◌, ◌≤◌, List, [], ◌∷◌, length, map, filter_map, Bool, true, false}
use Rattle.std.specs.Prelude.{slice_get, slice_set, Option, Some, None, refl}
use Rattle.std.specs.List.{cons_option}
use Rattle.std.specs.Option.{option_map_or}
use Rattle.std.proofs.Common.{arith, ap, subst, ◌∙◌, get_or}
use Rattle.std.proofs.lemmas.List.{length-set}
use Rattle.std.proofs.lemmas.Option.{gets, slice_get-map}
use Rattle.run_plan.specs.declared.planned.PlannedJob.{PlannedJob}
use Rattle.table_model.specs.inner.Cells.{JobCells, cells_of, in_state, states, rooms, legs_planned, blocked_cells, result_of}
use Rattle.table_model.specs.Runs.{changed_at, finished_result, results_of, blocked_job, LegState}
use Rattle.table_model.specs.Settling.{legs_in_plan}
use Rattle.table_model.specs.declared.phases.JobPhase.{JobPhase}

-- ---- a change at one index

pub changed_past : {X : Type 0} (f : X → X) (xs : List X) (i : ℕ) → length xs ≤ i → xs ≡ changed_at i f xs
changed_past f [] i le = refl
changed_past f (x ∷ xs) zero le = absurd (omega arith)
changed_past f (x ∷ xs) (suc i) le = ap (λ ys. x ∷ ys) (changed_past f xs i (omega arith))

-- an element that is read, changed and written back
pub changed_within : {X : Type 0} (f : X → X) (xs : List X) (i : ℕ) (x y : X) → i < length xs → x ≡ get_or xs i x → y ≡ f x
    → slice_set xs i y ≡ changed_at i f xs
changed_within f [] i x y lt is so = absurd (omega arith)
changed_within f (z ∷ xs) zero x y lt is so = ap (λ w. w ∷ xs) (so ∙ ap f is)
changed_within f (z ∷ xs) (suc i) x y lt is so = ap (λ ys. z ∷ ys) (changed_within f xs i x y (omega arith) is so)

-- a change at an index in terms of reading the element there
pub changed_by_read : {X : Type 0} (f : X → X) (xs : List X) (i : ℕ)
    → changed_at i f xs ≡ option_map_or (λ x. slice_set xs i (f x)) (slice_get xs i) xs
changed_by_read f [] i = refl
changed_by_read f (x ∷ xs) zero = refl
changed_by_read {X} f (x ∷ xs) (suc i) = ap (λ ys. x ∷ ys) (changed_by_read f xs i) ∙ suffix (slice_get xs i)
  where
    suffix : (o : Option X) → x ∷ option_map_or (λ y. slice_set xs i (f y)) o xs
        ≡ option_map_or (λ y. x ∷ slice_set xs i (f y)) o (x ∷ xs)
    suffix None = refl
    suffix (Some y) = refl

-- the facts about a change at one index of a list
pub ruleset written = (changed_by_read, gets)

-- reading with a default is the same after reading with that result as the default
pub read_again : {X : Type 0} (xs : List X) (i : ℕ) (d : X) → get_or xs i d ≡ get_or xs i (get_or xs i d)
read_again [] i d = refl
read_again (x ∷ xs) zero d = refl
read_again (x ∷ xs) (suc i) d = read_again xs i d

-- ---- the legs of a job

pub leg_written : (phase : JobPhase) (has_legs : Bool) (xs : List LegState) (left l : ℕ) (leg : LegState) (s : JobCells) → has_legs ≡ true
    → l < length xs → cells_of phase has_legs xs left ≡ s
    → cells_of phase has_legs (slice_set xs l leg) left ≡ in_state (record s.state { legs = changed_at l (λ _. leg) s.state.legs }) s
leg_written phase true xs left l leg s has lt is =
    let P : JobCells → Type 0 =
    λ t. cells_of phase true (slice_set xs l leg) left ≡ in_state (record t.state { legs = changed_at l (λ _. leg) t.state.legs }) t in
    subst P is
    (ap (λ n. record { state = record { phase = phase; legs = slice_set xs l leg }; room = n; needs_left = left }) (length-set xs l leg)
    ∙ ap (λ legs. record { state = record { phase = phase; legs = legs }; room = length xs; needs_left = left })
    (changed_within (λ _. leg) xs l (get_or xs l leg) leg lt (read_again xs l leg) refl))
leg_written phase false xs left l leg s has lt is = cc

-- nothing is written if the job has no legs or the index is past them
pub no_leg_written : (phase : JobPhase) (has_legs : Bool) (xs : List LegState) (left l : ℕ) (leg : LegState) (s : JobCells)
    → (has_legs ≡ true → length xs ≤ l) → cells_of phase has_legs xs left ≡ s
    → s ≡ in_state (record s.state { legs = changed_at l (λ _. leg) s.state.legs }) s
no_leg_written phase true xs left l leg s past is =
    let P : JobCells → Type 0 = λ t. t ≡ in_state (record t.state { legs = changed_at l (λ _. leg) t.state.legs }) t in
    subst P is (ap (λ legs. record { state = record { phase = phase; legs = legs }; room = length xs; needs_left = left })
    (changed_past (λ _. leg) xs l (past refl)))
no_leg_written phase false xs left l leg s past is =
    let P : JobCells → Type 0 = λ t. t ≡ in_state (record t.state { legs = changed_at l (λ _. leg) t.state.legs }) t in
    subst P is refl

-- a job that is written keeps its room
pub rooms_kept : (xs : List JobCells) (j : ℕ) (y : JobCells) → j < length xs → y.room ≡ (get_or xs j y).room
    → rooms (slice_set xs j y) ≡ rooms xs
rooms_kept [] j y lt same = absurd (omega arith)
rooms_kept (z ∷ xs) zero y lt same = ap (λ n. n ∷ rooms xs) same
rooms_kept (z ∷ xs) (suc j) y lt same = ap (λ ns. z.room ∷ ns) (rooms_kept xs j y (omega arith) same)

pub states_written : (xs : List JobCells) (j : ℕ) (y : JobCells) → states (slice_set xs j y) ≡ slice_set (states xs) j y.state
states_written [] j y = refl
states_written (z ∷ xs) zero y = refl
states_written (z ∷ xs) (suc j) y = ap (λ ss. z.state ∷ ss) (states_written xs j y)

-- the room of a job is read from the list of rooms
pub room_read : (xs : List JobCells) (j : ℕ) (x : JobCells) → j < length xs → (get_or xs j x).room ≡ get_or (rooms xs) j 0
room_read [] j x lt = absurd (omega arith)
room_read (z ∷ xs) zero x lt = refl
room_read (z ∷ xs) (suc j) x lt = room_read xs j x (omega arith)

pub legs_of_plan : (plan : List PlannedJob) (j : ℕ) → legs_in_plan plan j ≡ get_or (legs_planned plan) j 0
legs_of_plan [] j = refl
legs_of_plan (p ∷ plan) zero = refl
legs_of_plan (p ∷ plan) (suc j) = legs_of_plan plan j

-- the facts about the jobs of a run after a change of one job
pub ruleset job_written = (rooms_kept, states_written, room_read, legs_of_plan, written, slice_get-map)

-- the jobs of a plan, all blocked
pub blocked_rooms : (plan : List PlannedJob) → rooms (map blocked_cells plan) ≡ legs_planned plan
blocked_rooms [] = refl
blocked_rooms (p ∷ plan) = ap (λ ns. length p.legs ∷ ns) (blocked_rooms plan)

pub blocked_states : (plan : List PlannedJob) → states (map blocked_cells plan) ≡ map (λ _. blocked_job) plan
blocked_states [] = refl
blocked_states (p ∷ plan) = ap (λ js. blocked_job ∷ js) (blocked_states plan)

-- ---- results

pub results_of_cells : (xs : List JobCells) → filter_map result_of xs ≡ results_of (states xs)
results_of_cells [] = refl
results_of_cells (x ∷ xs) = ap (cons_option (finished_result x.state.phase)) (results_of_cells xs)
