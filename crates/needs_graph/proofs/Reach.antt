-- Rows of flags closed over all jobs are the ancestors of each job.
use Rattle.std.proofs.Common.{◌≡◌, ℕ, ◌<◌, List, [], ◌∷◌, Bool, true, false, eqb, length, get_or, map, ◌≤◌, sym, refl, subst, ap, ◌∙◌}
use Rattle.std.proofs.Common.{⊎_elim, arith}
use Rattle.std.specs.List.{Contains, range_with_len, filter, list_any}
use Rattle.std.proofs.lemmas.Bool.{cases_lt, false≢true, false_from_ne_true}
use Rattle.std.proofs.lemmas.Bool.Decides.{same_from_decides}
use Rattle.std.proofs.lemmas.List.{get_or-map, get_or_default, get_or_past, length-map}
use Rattle.needs_graph.specs.Needs.{needs_at, IsWalk, HasWalk, is_ancestor, dependents_of, IsClosed, indexes}
use Rattle.needs_graph.specs.inner.JobSets.{is_in}
use Rattle.needs_graph.specs.inner.JobBitmap.{is_marked, marked, closed}
use Rattle.needs_graph.specs.inner.Rows.{IsSets}
use Rattle.needs_graph.proofs.Members.{Has, Contains-from_Has, Has-from_Contains}
use Rattle.needs_graph.proofs.IndexLists.{marked_by, indexes_by, Has-filter_range, Has-filter_range_from}
use Rattle.needs_graph.proofs.Walks.{joined, no_walk_past, walk_from_is_ancestor, is_ancestor-from_walk}
use Rattle.needs_graph.proofs.Closure.{row_at, bit, IsWide, length-closed, sound, complete_step, complete_start}

-- the needs that rows of flags represent
abbrev pub needs_by : List (List Bool) → List (List ℕ)
needs_by rows = map marked rows

-- the rows are as wide as there are rows
abbrev pub IsSquare : List (List Bool) → Type 0
IsSquare rows = IsWide (length rows) rows

marked_is : (marks : List Bool) → marked marks ≡ filter (is_marked marks) (range_with_len 0 (length marks))
marked_is marks = marked_by marks (is_marked marks) (λ k below. refl)

Has-marked : (marks : List Bool) (i : ℕ) → Has (marked marks) i → (i < length marks) × (is_marked marks i ≡ true)
Has-marked marks i h =
    Has-filter_range (is_marked marks) (length marks) i (let P : List ℕ → Type 0 = λ xs. Has xs i in subst P (marked_is marks) h)

Has-marked_from : (marks : List Bool) (i : ℕ) → i < length marks → is_marked marks i ≡ true → Has (marked marks) i
Has-marked_from marks i below h =
    let P : List ℕ → Type 0 = λ xs. Has xs i in
    subst P (sym (marked_is marks)) (Has-filter_range_from (is_marked marks) (length marks) i below h)

needs_at-by : (rows : List (List Bool)) (j : ℕ) → j < length rows → needs_at (needs_by rows) j ≡ marked (row_at rows j)
needs_at-by rows j below = get_or-map marked rows j [] [] below

mark_below : (marks : List Bool) (i : ℕ) → is_marked marks i ≡ true → i < length marks
mark_below marks i h = ⊎_elim (λ less. less) (λ past. absurd (false≢true (sym (get_or_past marks i false past) ∙ h)))
    (cases_lt i (length marks))

-- a need is a mark within the rows
need_is_mark : (rows : List (List Bool)) → IsSquare rows → (j i : ℕ) → Contains (needs_at (needs_by rows) j) i
    → (j < length rows) × (i < length rows) × (bit rows j i ≡ true)
need_is_mark rows square j i h =
    ⊎_elim
    (λ below.
    let P : List ℕ → Type 0 = λ xs. Has xs i in
    let has = Has-marked (row_at rows j) i (subst P (needs_at-by rows j below) (Has-from_Contains _ i h)) in
    (below, omega (arith, square j below, has.0), has.1))
    (λ past.
    let none : needs_at (needs_by rows) j ≡ [] = get_or_past (needs_by rows) j [] (omega (arith, length-map rows marked)) in
    let P : List ℕ → Type 0 = λ xs. Has xs i in
    absurd (false≢true (subst P none (Has-from_Contains _ i h))))
    (cases_lt j (length rows))

mark_is_need : (rows : List (List Bool)) → IsSquare rows → (j i : ℕ) → j < length rows → i < length rows → bit rows j i ≡ true
    → Contains (needs_at (needs_by rows) j) i
mark_is_need rows square j i below i_below h =
    let P : List ℕ → Type 0 = λ xs. Has xs i in
    Contains-from_Has _ i (subst P (sym (needs_at-by rows j below)) (Has-marked_from (row_at rows j) i (omega (arith, square j below)) h))

pub needs_by-IsClosed : (rows : List (List Bool)) → IsSquare rows → IsClosed (needs_by rows)
needs_by-IsClosed rows square job other h = omega (arith, (need_is_mark rows square job other h).1, length-map rows marked)

bit_below : (rows : List (List Bool)) → IsSquare rows → (j i : ℕ) → j < length rows → bit rows j i ≡ true → i < length rows
bit_below rows square j i below h =
    ⊎_elim (λ less. less) (λ past. absurd (false≢true (sym (get_or_past (row_at rows j) i false (omega (arith, square j below))) ∙ h)))
    (cases_lt i (length rows))

row_below : (rows : List (List Bool)) (j i : ℕ) → bit rows j i ≡ true → j < length rows
row_below rows j i h =
    ⊎_elim (λ less. less) (λ past. absurd (false≢true (sym (ap (λ row. is_marked row i) (get_or_past rows j [] past)) ∙ h)))
    (cases_lt j (length rows))

-- ---- closed rows and walks

pub walk_from_closed : (rows : List (List Bool)) → IsSquare rows → (j i : ℕ) → j < length rows → bit (closed (length rows) rows) j i ≡ true
    → HasWalk (needs_by rows) j i
walk_from_closed rows square j i below h =
    sound (length rows) rows square (HasWalk (needs_by rows))
    (λ from to e.
    let from_in = row_below rows from to e in
    ([], mark_is_need rows square from to from_in (bit_below rows square from to from_in e) e))
    (λ from mid to v w. joined (needs_by rows) from mid to v w)
    (length rows)
    (omega arith)
    j
    i
    below
    h

closed_from_steps : (rows : List (List Bool)) → IsSquare rows → (between : List ℕ) (j i : ℕ) → IsWalk (needs_by rows) j between i
    → bit (closed (length rows) rows) j i ≡ true
closed_from_steps rows square [] j i w =
    let e = need_is_mark rows square j i w in
    complete_start (length rows) rows square j i e.0 e.2
closed_from_steps rows square (m ∷ between) j i w =
    let e = need_is_mark rows square j m w.0 in
    complete_step (length rows) rows square j m i e.0 e.1 e.2 (closed_from_steps rows square between m i w.1)

pub closed_from_walk : (rows : List (List Bool)) → IsSquare rows → (j i : ℕ) → HasWalk (needs_by rows) j i
    → bit (closed (length rows) rows) j i ≡ true
closed_from_walk rows square j i w = closed_from_steps rows square w.0 j i w.1

-- the test for an ancestor agrees with the closed rows
pub is_ancestor-is_closed : (rows : List (List Bool)) → IsSquare rows → (j i : ℕ) → j < length rows
    → bit (closed (length rows) rows) j i ≡ is_ancestor (needs_by rows) j i
is_ancestor-is_closed rows square j i below =
    same_from_decides {P = HasWalk (needs_by rows) j i} (bit (closed (length rows) rows) j i) (is_ancestor (needs_by rows) j i)
    (walk_from_closed rows square j i below, closed_from_walk rows square j i)
    (walk_from_is_ancestor (needs_by rows) j i, is_ancestor-from_walk (needs_by rows) (needs_by-IsClosed rows square) j i)

-- ---- the sets of the closed rows

pub past_is_none : (needs : List (List ℕ)) → IsClosed needs → (job other : ℕ) → length needs ≤ job → is_ancestor needs job other ≡ false
past_is_none needs closed job other past =
    false_from_ne_true _ (λ h. no_walk_past needs job other past (walk_from_is_ancestor needs job other h))

-- the set at a job's index contains exactly its ancestors
pub sets_reach : (sets : List (List ℕ)) (marks : List (List Bool)) → IsSquare marks → IsSets sets (closed (length marks) marks)
    → (job other : ℕ) → is_in (get_or sets job []) other ≡ is_ancestor (needs_by marks) job other
sets_reach sets marks square are job other =
    ⊎_elim (λ below. are.same job other ∙ is_ancestor-is_closed marks square job other below)
    (λ past.
    let none : row_at (closed (length marks) marks) job ≡ [] = get_or_past (closed (length marks) marks) job []
    (omega (arith, length-closed (length marks) marks)) in
    are.same job other
    ∙ (ap (λ row. is_marked row other) none
    ∙ sym (past_is_none (needs_by marks) (needs_by-IsClosed marks square) job other (omega (arith, length-map marks marked)))))
    (cases_lt job (length marks))

-- ---- the rows that contain a job

is_marked-is_in_list : (marks : List Bool) (i : ℕ) → is_marked marks i ≡ list_any (eqb i) (marked marks)
is_marked-is_in_list marks i =
    same_from_decides {P = is_marked marks i ≡ true} (is_marked marks i) (list_any (eqb i) (marked marks)) (λ h. h, λ h. h)
    (λ h. (Has-marked marks i h).1, λ h. Has-marked_from marks i (mark_below marks i h) h)

pub dependents-by : (rows : List (List Bool)) (job : ℕ) → indexes (λ row. is_marked row job) rows ≡ dependents_of (needs_by rows) job
dependents-by rows job =
    indexes_by (λ row. is_marked row job) rows (λ other. list_any (eqb job) (needs_at (needs_by rows) other))
    (λ k d below.
    ap (λ row. is_marked row job) (get_or_default rows k d [] below)
    ∙ (is_marked-is_in_list (row_at rows k) job ∙ ap (λ l. list_any (eqb job) l) (sym (needs_at-by rows k below))))
    ∙ ap (λ n. filter (λ other. list_any (eqb job) (needs_at (needs_by rows) other)) (range_with_len 0 n)) (sym (length-map rows marked))
