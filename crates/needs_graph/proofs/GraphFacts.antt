-- From rows of flags to the graph of the jobs, or to the refusal.
use Rattle.std.proofs.Common.{◌≡◌, ◌↔◌, ℕ, zero, suc, ◌+◌, ◌<◌, List, [], ◌∷◌, Bool, true, false, cond, Result, Ok, Err, IsTrue, length}
use Rattle.std.proofs.Common.{get_or, map, sym, refl, subst, ap, ◌∙◌, ⊎_elim, arith, add-zero, zero-add}
use Rattle.std.specs.List.{list_all, filter, enumerate_from}
use Rattle.std.proofs.lemmas.Bool.{cases_lt, false≢true, true≢false}
use Rattle.std.proofs.lemmas.List.{get_or-map, length-map}
use Rattle.std.proofs.lemmas.List.FromFn.{length-enumerate_from, get_or-enumerate_from, length-map-range_with_len}
use Rattle.std.proofs.lemmas.List.FromFn.{get_or-map-range_with_len}
use Rattle.wf_value.specs.declared.refusal.Refusal.{Refusal}
use Rattle.wf_value.specs.declared.refusal.Refusal.TheVariants.{Cycle}
use Rattle.wf_value.proofs.PassedOn.{same_Ok}
use Rattle.needs_graph.specs.Needs.{HasWalk, is_ancestor, IsClosed, IsGraph, indexes}
use Rattle.needs_graph.specs.inner.JobBitmap.{is_marked, marked, closed}
use Rattle.needs_graph.specs.Needs.{is_listed, is_job, needs_of, own_ancestors, unless_cycle, unknown_need, graph_of}
use Rattle.needs_graph.specs.inner.Rows.{needs_row, needs_rows, needs_rows_of, own_ids, dependents_by, IsSets}
use Rattle.definitions.specs.Rising.{JobNeeds}
use Rattle.needs_graph.proofs.Closure.{bit, length-closed}
use Rattle.needs_graph.proofs.Reach.{needs_by, IsSquare, needs_by-IsClosed, is_ancestor-is_closed, past_is_none, sets_reach, dependents-by}
use Rattle.needs_graph.proofs.RowSteps.{blank}
use Rattle.needs_graph.proofs.Walks.{walk_from_is_ancestor, is_ancestor-from_walk}

-- ---- the rows represent the needs

indexes_from-map : {X : Type 0} (test : X → Bool) (xs : List X) (a : ℕ)
    → map (λ e. e.0) (filter (λ e. test e.1) (enumerate_from a xs)) ≡ map (λ e. e.0) (filter (λ e. e.1) (enumerate_from a (map test xs)))
indexes_from-map test [] a = refl
indexes_from-map test (x ∷ xs) a =
    elim (test x) as
    (λ v. map (λ e. e.0)
    (cond v ((a, x) ∷ filter (λ e. test e.1) (enumerate_from (a + 1) xs)) (filter (λ e. test e.1) (enumerate_from (a + 1) xs))) ≡
    map (λ e. e.0)
    (cond v ((a, v) ∷ filter (λ e. e.1) (enumerate_from (a + 1) (map test xs)))
    (filter (λ e. e.1) (enumerate_from (a + 1) (map test xs)))))
    [ true ↦ ap (λ l. a ∷ l) (indexes_from-map test xs (a + 1)) | false ↦ indexes_from-map test xs (a + 1) ]

rows_say : (jobs others : List JobNeeds)
    → map (λ job. indexes (λ other. is_listed job.needs other.id) jobs) others ≡ map marked (map (λ job. needs_row jobs job.needs) others)
rows_say jobs [] = refl
rows_say jobs (job ∷ others) =
    let first : indexes (λ (other : JobNeeds). is_listed job.needs other.id) jobs ≡ marked (needs_row jobs job.needs) = indexes_from-map
    (λ (other : JobNeeds). is_listed job.needs other.id) jobs 0 in
    ap (λ l. l ∷ map (λ j. indexes (λ other. is_listed j.needs other.id) jobs) others) first
    ∙ ap (λ l. marked (needs_row jobs job.needs) ∷ l) (rows_say jobs others)

pub needs_of-by : (jobs : List JobNeeds) → needs_of jobs ≡ needs_by (needs_rows jobs)
needs_of-by jobs = rows_say jobs jobs

pub length-needs_rows : (jobs : List JobNeeds) → length (needs_rows jobs) ≡ length jobs
length-needs_rows jobs = length-map jobs (λ job. needs_row jobs job.needs)

pub needs_rows-IsSquare : (jobs : List JobNeeds) → IsSquare (needs_rows jobs)
needs_rows-IsSquare jobs j below =
    let in_jobs : j < length jobs = omega (arith, length-needs_rows jobs) in
    ap length (get_or-map (λ (job : JobNeeds). needs_row jobs job.needs) jobs j blank [] in_jobs)
    ∙ (length-map jobs (λ (other : JobNeeds). is_listed (get_or jobs j blank).needs other.id) ∙ sym (length-needs_rows jobs))

-- ---- ancestors and walks

needs_of-IsClosed : (jobs : List JobNeeds) → IsClosed (needs_of jobs)
needs_of-IsClosed jobs = subst IsClosed (sym (needs_of-by jobs)) (needs_by-IsClosed (needs_rows jobs) (needs_rows-IsSquare jobs))

pub walks_law : (jobs : List JobNeeds) (job other : ℕ) → IsTrue (is_ancestor (needs_of jobs) job other) ↔ HasWalk (needs_of jobs) job other
walks_law jobs job other =
    (walk_from_is_ancestor (needs_of jobs) job other, is_ancestor-from_walk (needs_of jobs) (needs_of-IsClosed jobs) job other)

-- ---- the jobs that reach themselves

kept_alike : {X Y : Type 0} (f : X → Y) (b c : Bool) (x : X) (xs ys : List X) → b ≡ c → map f xs ≡ map f ys
    → map f (cond b (x ∷ xs) xs) ≡ map f (cond c (x ∷ ys) ys)
kept_alike f true true x xs ys same h = ap (λ l. f x ∷ l) h
kept_alike f true false x xs ys same h = absurd (true≢false same)
kept_alike f false true x xs ys same h = absurd (false≢true same)
kept_alike f false false x xs ys same h = h

-- tests that agree at each index select the same elements
picked_alike : {X Y : Type 0} (f : ℕ × X → Y) (xs : List X) (a : ℕ) (t u : ℕ → Bool) → ((k : ℕ) → k < length xs → t (a + k) ≡ u (a + k))
    → map f (filter (λ e. t e.0) (enumerate_from a xs)) ≡ map f (filter (λ e. u e.0) (enumerate_from a xs))
picked_alike f [] a t u agree = refl
picked_alike f (x ∷ xs) a t u agree =
    let first : t a ≡ u a = ap t (sym (add-zero a)) ∙ (agree zero (omega arith) ∙ ap u (add-zero a)) in
    kept_alike f (t a) (u a) (a, x) _ _ first
    (picked_alike f xs (a + 1) t u
    (λ k below. let shift : a + 1 + k ≡ a + suc k = omega arith in ap t shift ∙ (agree (suc k) (omega arith) ∙ ap u (sym shift))))

pub own_ids-closed : (jobs : List JobNeeds) → own_ids jobs (closed (length (needs_rows jobs)) (needs_rows jobs)) ≡ own_ancestors jobs
own_ids-closed jobs =
    let rows = needs_rows jobs in
    picked_alike (λ (e : ℕ × JobNeeds). e.1.id) jobs 0 (λ k. bit (closed (length rows) rows) k k) (λ k. is_ancestor (needs_of jobs) k k)
    (λ k below.
    is_ancestor-is_closed rows (needs_rows-IsSquare jobs) (0 + k) (0 + k) (omega (arith, length-needs_rows jobs))
    ∙ ap (λ needs. is_ancestor needs (0 + k) (0 + k)) (sym (needs_of-by jobs)))

none_first : {X : Type 0} (test : X → Bool) (x : X) (xs : List X) → filter test (x ∷ xs) ≡ [] → (test x ≡ false) × (filter test xs ≡ [])
none_first test x xs none =
    elim (test x)
    as (λ v. cond v (x ∷ filter test xs) (filter test xs) ≡ [] → (v ≡ false) × (filter test xs ≡ []))
    [ true ↦ λ h. absurd (cc) | false ↦ λ h. (refl, h) ]
    none

none_picked : {X : Type 0} (test : X → Bool) (xs : List X) (i : ℕ) (d : X) → filter test xs ≡ [] → i < length xs
    → test (get_or xs i d) ≡ false
none_picked test [] i d none below = absurd (omega arith)
none_picked test (x ∷ xs) zero d none below = (none_first test x xs none).0
none_picked test (x ∷ xs) (suc i) d none below = none_picked test xs i d (none_first test x xs none).1 (omega arith)

map_none : {X Y : Type 0} (f : X → Y) (xs : List X) → map f xs ≡ [] → xs ≡ []
map_none f [] none = refl
map_none f (x ∷ xs) none = absurd (cc)

none_own : (jobs : List JobNeeds) → own_ancestors jobs ≡ [] → (k : ℕ) → k < length jobs → is_ancestor (needs_of jobs) k k ≡ false
none_own jobs none k below =
    let each = map_none _ (filter (λ (e : ℕ × JobNeeds). is_ancestor (needs_of jobs) e.0 e.0) (enumerate_from 0 jobs)) none in
    let blank_pair : ℕ × JobNeeds = (0, blank) in
    let at = get_or-enumerate_from 0 jobs k blank_pair below in
    let here = none_picked (λ (e : ℕ × JobNeeds). is_ancestor (needs_of jobs) e.0 e.0) (enumerate_from 0 jobs) k blank_pair each
    (omega (arith, length-enumerate_from 0 jobs)) in
    let index : (get_or (enumerate_from 0 jobs) k blank_pair).0 ≡ k = ap (λ (e : ℕ × JobNeeds). e.0) at ∙ zero-add k in
    ap (λ n. is_ancestor (needs_of jobs) n n) (sym index) ∙ here

-- ---- the outcomes of building a graph

abbrev rows_if : Bool → List (List Bool) → Result (List (List Bool)) Refusal
rows_if known rows = cond known (Ok rows) (Err unknown_need)

abbrev graph_if : Bool → Result (List (List ℕ)) Refusal → Result (List (List ℕ)) Refusal
graph_if known graph = cond known graph (Err unknown_need)

made_if : (known : Bool) (rows made : List (List Bool)) (graph : Result (List (List ℕ)) Refusal) → rows_if known rows ≡ Ok made
    → (rows ≡ made) × (graph_if known graph ≡ graph)
made_if true rows made graph h = (cc, refl)
made_if false rows made graph h = absurd (cc)

-- the rows of the jobs and their graph
record Made (jobs : List JobNeeds) (rows : List (List Bool)) : Type 0 where
  pub same : needs_rows jobs ≡ rows
  pub graph : graph_of jobs ≡ unless_cycle (own_ancestors jobs) (needs_of jobs)

made : (jobs : List JobNeeds) (rows : List (List Bool)) → needs_rows_of jobs ≡ Ok rows → Made jobs rows
made jobs rows h =
    let parts = made_if (list_all (λ job. list_all (is_job jobs) job.needs) jobs) (needs_rows jobs) rows
    (unless_cycle (own_ancestors jobs) (needs_of jobs)) h in
    record { same = parts.0; graph = parts.1 }

pub length-made : (jobs : List JobNeeds) (rows : List (List Bool)) → needs_rows_of jobs ≡ Ok rows → length rows ≡ length jobs
length-made jobs rows h = ap length (sym (made jobs rows h).same) ∙ length-needs_rows jobs

own_ids-made : (jobs : List JobNeeds) (rows : List (List Bool)) → needs_rows_of jobs ≡ Ok rows
    → own_ids jobs (closed (length rows) rows) ≡ own_ancestors jobs
own_ids-made jobs rows h = ap (λ r. own_ids jobs (closed (length r) r)) (sym (made jobs rows h).same) ∙ own_ids-closed jobs

-- 14, with the ids of the jobs that reach themselves
pub graph_cyclic : (jobs : List JobNeeds) (rows : List (List Bool)) (ids : List (List ℕ)) → needs_rows_of jobs ≡ Ok rows
    → own_ids jobs (closed (length rows) rows) ≡ ids → (ids ≡ [] → ⊥) → graph_of jobs ≡ Err (Cycle ids)
graph_cyclic jobs rows [] h own some = absurd (some refl)
graph_cyclic jobs rows (id ∷ ids) h own some =
    (made jobs rows h).graph ∙ ap (λ l. unless_cycle l (needs_of jobs)) (sym (own_ids-made jobs rows h) ∙ own)

-- the graph, if no job reaches itself
pub graph_made : (jobs : List JobNeeds) (rows : List (List Bool)) → needs_rows_of jobs ≡ Ok rows
    → own_ids jobs (closed (length rows) rows) ≡ [] → graph_of jobs ≡ Ok (map marked rows)
graph_made jobs rows h none =
    (made jobs rows h).graph
    ∙ (ap (λ l. unless_cycle l (needs_of jobs)) (sym (own_ids-made jobs rows h) ∙ none)
    ∙ ap Ok (needs_of-by jobs ∙ ap needs_by (made jobs rows h).same))

pub graph_is_graph : (jobs : List JobNeeds) (rows : List (List Bool)) (sets dependents : List (List ℕ)) → needs_rows_of jobs ≡ Ok rows
    → own_ids jobs (closed (length rows) rows) ≡ [] → IsSets sets (closed (length rows) rows) → dependents_by rows ≡ dependents
    → IsGraph (map marked rows) sets dependents
graph_is_graph jobs rows sets dependents h none are listed =
    let square : IsSquare rows = subst IsSquare (made jobs rows h).same (needs_rows-IsSquare jobs) in
    let needs : needs_of jobs ≡ needs_by rows = needs_of-by jobs ∙ ap needs_by (made jobs rows h).same in
    let closed_needs = needs_by-IsClosed rows square in
    record {
      within = closed_needs;
      acyclic = λ job.
          ⊎_elim
          (λ below. ap (λ n. is_ancestor n job job) (sym needs)
          ∙ none_own jobs (sym (own_ids-made jobs rows h) ∙ none) job (omega (arith, length-made jobs rows h)))
          (λ past. past_is_none (needs_by rows) closed_needs job job (omega (arith, length-map rows marked)))
          (cases_lt job (length rows));
      reached = sets_reach sets rows square are;
      as_many = ap length (sym listed)
          ∙ (length-map-range_with_len (λ job. indexes (λ row. is_marked row job) rows) 0 (length rows) ∙ sym (length-map rows marked));
      needed = λ job below.
          ap (λ l. get_or l job []) (sym listed)
          ∙ (get_or-map-range_with_len (λ job. indexes (λ row. is_marked row job) rows) 0 (length rows) job job []
          (omega (arith, length-map rows marked)) (zero-add job)
          ∙ dependents-by rows job);
    }

-- ---- the steps of building, from the results of the calls

abbrev gave : {X : Type 0} → X → Result X Refusal
gave x = Ok x

pub length-reached : (jobs : List JobNeeds) (direct lent reached : List (List Bool)) → needs_rows_of jobs ≡ Ok direct
    → reached ≡ closed (length direct) direct → lent ≡ reached → length jobs ≡ length lent
length-reached jobs direct lent reached made_so is same =
    sym (ap length (same ∙ is) ∙ (length-closed (length direct) direct ∙ length-made jobs direct made_so))

pub ids_are : (jobs : List JobNeeds) (direct lent reached : List (List Bool)) (ids : List (List ℕ))
    → reached ≡ closed (length direct) direct → lent ≡ reached → gave (own_ids jobs lent) ≡ gave ids
    → own_ids jobs (closed (length direct) direct) ≡ ids
ids_are jobs direct lent reached ids is same told = ap (own_ids jobs) (sym (same ∙ is)) ∙ same_Ok _ _ told

pub indexes_are : (lent rows : List (List Bool)) (told_indexes : List (List ℕ)) → lent ≡ rows → gave (map marked lent) ≡ gave told_indexes
    → map marked rows ≡ told_indexes
indexes_are lent rows told_indexes same told = ap (map marked) (sym same) ∙ same_Ok _ _ told

pub dependents_are : (lent rows : List (List Bool)) (told : List (List ℕ)) → lent ≡ rows → gave (dependents_by lent) ≡ gave told
    → dependents_by rows ≡ told
dependents_are lent rows told same told_so = ap dependents_by (sym same) ∙ same_Ok _ _ told_so
