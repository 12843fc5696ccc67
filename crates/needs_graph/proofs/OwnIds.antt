-- The loop over the jobs that reach themselves.
use Rattle.std.proofs.Common.{◌≡◌, ℕ, ◌+◌, ◌<◌, List, [], ◌∷◌, ◌++◌, Bool, true, false, cond, length, get_or, map, take, sym, ap, ◌∙◌}
use Rattle.std.proofs.Common.{arith, zero-add}
use Rattle.std.specs.List.{filter, enumerate_from}
use Rattle.std.proofs.lemmas.Bool.{cond-true, cond-false}
use Rattle.std.proofs.lemmas.List.{get_or_read, map-append, append-nil, take_all}
use Rattle.std.proofs.lemmas.List.Elements.{filter_more}
use Rattle.std.proofs.lemmas.List.FromFn.{length-enumerate_from, get_or-enumerate_from}
use Rattle.needs_graph.specs.inner.JobBitmap.{is_marked}
use Rattle.needs_graph.specs.inner.Rows.{own_ids}
use Rattle.definitions.specs.Rising.{JobNeeds}

abbrev reaches_itself : List (List Bool) → ℕ × JobNeeds → Bool
reaches_itself rows e = is_marked (get_or rows e.0 []) e.0

-- the ids among the first jobs
abbrev pub own_ids_first : List JobNeeds → List (List Bool) → ℕ → List (List ℕ)
own_ids_first jobs rows i =
    map (λ e. e.1.id) (filter (λ e. is_marked (get_or rows e.0 []) e.0) (take i (enumerate_from 0 jobs)))

more : (jobs : List JobNeeds) (rows : List (List Bool)) (i : ℕ) (job : JobNeeds) → i < length jobs → job ≡ get_or jobs i job
    → own_ids_first jobs rows (i + 1) ≡ own_ids_first jobs rows i ++ map (λ (e : ℕ × JobNeeds). e.1.id)
    (cond (is_marked (get_or rows i []) i) ((i, job) ∷ []) [])
more jobs rows i job below is_job =
    let indexes = enumerate_from 0 jobs in
    let pair : ℕ × JobNeeds = (i, job) in
    let f : ℕ × JobNeeds → List ℕ = λ e. e.1.id in
    let at : get_or indexes i pair ≡ pair = get_or-enumerate_from 0 jobs i pair below
    ∙ (ap (λ n. (n, get_or jobs i job)) (zero-add i) ∙ ap (λ j. (i, j)) (sym is_job)) in
    let step = filter_more (reaches_itself rows) indexes i pair (omega (arith, length-enumerate_from 0 jobs)) in
    let here : cond (reaches_itself rows (get_or indexes i pair)) (get_or indexes i pair ∷ []) [] ≡ cond (reaches_itself rows pair)
    (pair ∷ []) [] = ap (λ e. cond (reaches_itself rows e) (e ∷ []) []) at in
    ap (map f) (step ∙ ap (λ l. filter (reaches_itself rows) (take i indexes) ++ l) here) ∙ map-append f _ _

pub more_own : (jobs : List JobNeeds) (rows : List (List Bool)) (i : ℕ) (job : JobNeeds) (row : List Bool) → i < length jobs
    → i < length rows → job ≡ get_or jobs i job → row ≡ get_or rows i row → is_marked row i ≡ true
    → own_ids_first jobs rows (i + 1) ≡ own_ids_first jobs rows i ++ job.id ∷ []
more_own jobs rows i job row below in_rows is_job is_row marked =
    let test : is_marked (get_or rows i []) i ≡ true = ap (λ r. is_marked r i) (sym (get_or_read rows i row in_rows is_row [])) ∙ marked in
    more jobs rows i job below is_job
    ∙ ap (λ l. own_ids_first jobs rows i ++ map (λ (e : ℕ × JobNeeds). e.1.id) l) (cond-true _ ((i, job) ∷ []) [] test)

pub more_other : (jobs : List JobNeeds) (rows : List (List Bool)) (i : ℕ) (job : JobNeeds) (row : List Bool) → i < length jobs
    → i < length rows → job ≡ get_or jobs i job → row ≡ get_or rows i row → is_marked row i ≡ false
    → own_ids_first jobs rows (i + 1) ≡ own_ids_first jobs rows i
more_other jobs rows i job row below in_rows is_job is_row unmarked =
    let test : is_marked (get_or rows i []) i ≡ false = ap (λ r. is_marked r i) (sym (get_or_read rows i row in_rows is_row []))
    ∙ unmarked in
    more jobs rows i job below is_job
    ∙ (ap (λ l. own_ids_first jobs rows i ++ map (λ (e : ℕ × JobNeeds). e.1.id) l) (cond-false _ ((i, job) ∷ []) [] test)
    ∙ append-nil (own_ids_first jobs rows i))

pub all_own : (jobs : List JobNeeds) (rows : List (List Bool)) (n : ℕ) → length jobs < n + 1 → own_ids_first jobs rows n ≡ own_ids jobs rows
all_own jobs rows n enough =
    ap (λ l. map (λ (e : ℕ × JobNeeds). e.1.id) (filter (reaches_itself rows) l))
    (take_all n (enumerate_from 0 jobs) (omega (arith, length-enumerate_from 0 jobs)))
