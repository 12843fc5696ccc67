-- If the needs of each decided job have finished, then all ancestors of a job whose needs have finished have finished too, and their
-- results do not change.
use Rattle.std.specs.Prelude.{◌≡◌, ℕ, zero, suc, ◌||◌, List, [], ◌∷◌, ◌++◌, filter, length, nat_eq, Bool, true, false, is_some}
use Rattle.std.specs.Prelude.{Option, Some, None, if◌then◌else◌, refl}
use Rattle.std.specs.List.{flat_map, list_any, range_with_len, slice_index_or}
use Rattle.std.proofs.Common.{ap, ◌∙◌}
use Rattle.std.proofs.lemmas.Bool.{and_from, and_parts, eqb-true}
use Rattle.wf_value.specs.declared.outcome.JobResult.{JobResult}
use Rattle.needs_graph.specs.Needs.{ancestors_of, is_ancestor, needs_at, walk_ends, results_at}
use Rattle.table_model.specs.LegContext.{all_have_results}
use Rattle.table_model.proofs.LegFacts.{result_kept}

abbrev pub has_result : List (Option JobResult) → ℕ → Bool
has_result results j = is_some (slice_index_or results j None)

-- the needs of each job that has a result have finished
abbrev pub NeedsBefore : List (List ℕ) → List (Option JobResult) → Type 0
NeedsBefore graph results = (j : ℕ) → is_some (slice_index_or results j None) ≡ true → all_have_results results (needs_at graph j) ≡ true

-- ---- at the ends of walks

all_of_two : (results : List (Option JobResult)) (xs ys : List ℕ) → all_have_results results xs ≡ true
    → all_have_results results ys ≡ true → all_have_results results (xs ++ ys) ≡ true
all_of_two results [] ys h k = k
all_of_two results (x ∷ xs) ys h k =
    let both = and_parts (has_result results x) (all_have_results results xs) h in
    and_from (has_result results x) (all_have_results results (xs ++ ys)) both.0 (all_of_two results xs ys both.1 k)

all_of_each : (results : List (Option JobResult)) (f : ℕ → List ℕ) (xs : List ℕ) → all_have_results results xs ≡ true
    → ((x : ℕ) → has_result results x ≡ true → all_have_results results (f x) ≡ true) → all_have_results results (flat_map f xs) ≡ true
all_of_each results f [] h each = refl
all_of_each results f (x ∷ xs) h each =
    let both = and_parts (has_result results x) (all_have_results results xs) h in
    all_of_two results (f x) (flat_map f xs) (each x both.0) (all_of_each results f xs both.1 each)

walks_end_settled : (graph : List (List ℕ)) (results : List (Option JobResult)) → NeedsBefore graph results → (n j : ℕ)
    → all_have_results results (needs_at graph j) ≡ true → all_have_results results (walk_ends graph n j) ≡ true
walks_end_settled graph results before zero j h = h
walks_end_settled graph results before (suc n) j h =
    all_of_each results (walk_ends graph n) (needs_at graph j) h
    (λ k settled. walks_end_settled graph results before n k (before k settled))

-- ---- all ancestors

one_of_all : (results : List (Option JobResult)) (other : ℕ) (xs : List ℕ) → all_have_results results xs ≡ true
    → list_any (nat_eq other) xs ≡ true → has_result results other ≡ true
one_of_all results other [] h any = cc
one_of_all results other (x ∷ xs) h any =
    let both = and_parts (has_result results x) (all_have_results results xs) h in
    elim (nat_eq other x) as
    (λ b. nat_eq other x ≡ b → (b || list_any (nat_eq other) xs) ≡ true → has_result results other ≡ true) [
      | true ↦ λ is found. ap (has_result results) (eqb-true other x is) ∙ both.0
      | false ↦ λ is found. one_of_all results other xs both.1 found
    ] refl any

one_of_walks : (results : List (Option JobResult)) (ends : ℕ → List ℕ) (other : ℕ) (ns : List ℕ)
    → ((n : ℕ) → all_have_results results (ends n) ≡ true) → list_any (λ n. list_any (nat_eq other) (ends n)) ns ≡ true
    → has_result results other ≡ true
one_of_walks results ends other [] all any = cc
one_of_walks results ends other (n ∷ ns) all any =
    elim (list_any (nat_eq other) (ends n)) as
    (λ b. list_any (nat_eq other) (ends n) ≡ b → (b || list_any (λ m. list_any (nat_eq other) (ends m)) ns) ≡ true
    → has_result results other ≡ true) [
      | true ↦ λ is found. one_of_all results other (ends n) (all n) is
      | false ↦ λ is found. one_of_walks results ends other ns all found
    ] refl any

of_those_that_pass : (test : ℕ → Bool) (results : List (Option JobResult)) (xs : List ℕ)
    → ((x : ℕ) → test x ≡ true → has_result results x ≡ true) → all_have_results results (filter test xs) ≡ true
of_those_that_pass test results [] each = refl
of_those_that_pass test results (x ∷ xs) each =
    elim (test x) as (λ b. test x ≡ b → all_have_results results (if b then x ∷ filter test xs else filter test xs) ≡ true) [
      | true ↦ λ is. and_from (has_result results x) (all_have_results results (filter test xs)) (each x is)
          (of_those_that_pass test results xs each)
      | false ↦ λ is. of_those_that_pass test results xs each
    ] refl

pub ancestors_settled : (graph : List (List ℕ)) (results : List (Option JobResult)) → NeedsBefore graph results → (j : ℕ)
    → all_have_results results (needs_at graph j) ≡ true → all_have_results results (ancestors_of graph j) ≡ true
ancestors_settled graph results before j h =
    of_those_that_pass (is_ancestor graph j) results (range_with_len 0 (length graph))
    (λ other is. one_of_walks results (λ n. walk_ends graph n j) other (range_with_len 0 (length graph))
    (λ n. walks_end_settled graph results before n j h) is)

-- ---- and their results

pub results_stay : (results next : List (Option JobResult))
    → ((j : ℕ) (a : JobResult) → slice_index_or results j None ≡ Some a → slice_index_or next j None ≡ Some a) → (places : List ℕ)
    → all_have_results results places ≡ true → results_at next places ≡ results_at results places
results_stay results next keeps [] h = refl
results_stay results next keeps (p ∷ ps) h =
    let both = and_parts (has_result results p) (all_have_results results ps) h in
    ap (λ o. o ∷ results_at next ps)
    (result_kept (slice_index_or results p None) (slice_index_or next p None) both.0 (keeps p))
    ∙ ap (λ os. slice_index_or results p None ∷ os) (results_stay results next keeps ps both.1)
