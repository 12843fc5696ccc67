-- How many needs of a job have not finished: what the counts say, and how a change of one job changes them.
use Rattle.std.specs.Prelude.{◌≡◌, ℕ, zero, suc, ◌+◌, ◌-◌, ◌<◌, ◌≤◌, ◌&&◌, List, [], ◌∷◌, Bool, true, false, cond}
use Rattle.std.specs.Prelude.{count_by, is_none, is_some, length, map, nat_eq, None, not, Option, Some, refl, slice_set}
use Rattle.std.specs.List.{slice_index_or}
use Rattle.std.proofs.Common.{arith, ap, sym, ◌∙◌, get_or}
use Rattle.std.proofs.lemmas.Bool.{eqb-true, eq-eqb, true≢false}
use Rattle.std.proofs.lemmas.List.{get_or_past, length-map}
use Rattle.wf_value.specs.declared.outcome.JobResult.{JobResult}
use Rattle.needs_graph.specs.Needs.{dependents_of, needs_at}
use Rattle.run_plan.specs.PlanOf.{plan_graph}
use Rattle.run_plan.specs.declared.planned.PlannedJob.{PlannedJob}
use Rattle.table_model.specs.inner.Cells.{JobCells, states}
use Rattle.table_model.specs.Runs.{changed_at, results_so_far, finished_result, JobState}
use Rattle.table_model.specs.inner.LegCounts.{one_where}
use Rattle.table_model.specs.inner.NeedsLeft.{ArePlanned, NamedOnce, NeedsAreLeft, needs_left_at, unfinished}
use Rattle.table_model.specs.Settling.{finished_as}
use Rattle.table_model.specs.LegContext.{all_have_results}
use Rattle.table_model.proofs.NamedOnce.{as_often, count_cons, count_no, count_yes, not_same}

-- whether the job at an index has not finished
abbrev pub is_unfinished : List JobState → ℕ → Bool
is_unfinished jobs k = is_none (slice_index_or (results_so_far jobs) k None)

-- ---- what a count says

one_more : (n : ℕ) → nat_eq (1 + n) 0 ≡ false
one_more n = not_same (1 + n) 0 (λ e. absurd (omega (arith, e)))

first_has : (o : Option JobResult) (n : ℕ) (b : Bool) → b ≡ nat_eq n 0 → (is_some o && b) ≡ nat_eq (cond (is_none o) 1 0 + n) 0
first_has None n b rest = sym (one_more n)
first_has (Some r) n b rest = let same : n ≡ 0 + n = omega arith in rest ∙ ap (λ m. nat_eq m 0) same

-- the count is 0 exactly if all needs have finished
pub none_left : (results : List (Option JobResult)) (indexes : List ℕ)
    → all_have_results results indexes ≡ nat_eq (unfinished results indexes) 0
none_left results [] = refl
none_left results (p ∷ ps) =
    first_has (slice_index_or results p None) (unfinished results ps) (all_have_results results ps) (none_left results ps)
    ∙ ap (λ n. nat_eq n 0) (sym (count_cons (λ index. is_none (slice_index_or results index None)) p ps))

pub settled_by_count : (needs : List (List ℕ)) (jobs : List JobCells) (j n : ℕ) → NeedsAreLeft needs jobs → needs_left_at jobs j ≡ n
    → nat_eq n 0 ≡ all_have_results (results_so_far (states jobs)) (needs_at needs j)
settled_by_count needs jobs j n left is =
    ap (λ m. nat_eq m 0) (sym is ∙ left j) ∙ sym (none_left (results_so_far (states jobs)) (needs_at needs j))

-- a job past the end has the count 0
pub none_past : (jobs : List JobCells) (j : ℕ) → length jobs ≤ j → needs_left_at jobs j ≡ 0
none_past jobs j past =
    get_or_past (map (λ (x : JobCells). x.needs_left) jobs) j 0 (omega (arith, length-map jobs (λ (x : JobCells). x.needs_left), past))

-- ---- which jobs have finished

module _ (old new : List (Option JobResult)) where
  pub unsettled_same : ((k : ℕ) → is_none (slice_index_or new k None) ≡ is_none (slice_index_or old k None)) → (indexes : List ℕ)
      → unfinished new indexes ≡ unfinished old indexes
  unsettled_same same [] = refl
  unsettled_same same (p ∷ ps) =
      count_cons (λ index. is_none (slice_index_or new index None)) p ps
      ∙ ap (λ n. cond (is_none (slice_index_or new p None)) 1 0 + n) (unsettled_same same ps)
      ∙ ap (λ b. cond b 1 0 + unfinished old ps) (same p)
      ∙ sym (count_cons (λ index. is_none (slice_index_or old index None)) p ps)

  -- once one more job has finished, the count falls by the number of times that the job is listed
  pub unsettled_less : (j : ℕ) → is_none (slice_index_or old j None) ≡ true → is_none (slice_index_or new j None) ≡ false
      → ((k : ℕ) → (k ≡ j → ⊥) → slice_index_or new k None ≡ slice_index_or old k None) → (indexes : List ℕ)
      → unfinished old indexes ≡ unfinished new indexes + count_by (nat_eq j) indexes
  unsettled_less j was is others [] = refl
  unsettled_less j was is others (p ∷ ps) =
      let rest = unsettled_less j was is others ps in
      let cons_old = count_cons (λ index. is_none (slice_index_or old index None)) p ps in
      let cons_new = count_cons (λ index. is_none (slice_index_or new index None)) p ps in
      elim (nat_eq j p)
      as (λ b. nat_eq j p ≡ b → unfinished old (p ∷ ps) ≡ unfinished new (p ∷ ps) + count_by (nat_eq j) (p ∷ ps)) [
        | true ↦
            λ there.
            let same = eqb-true j p there in
            let was_one : one_where (is_none (slice_index_or old p None)) ≡ 1 =
            ap (λ k. one_where (is_none (slice_index_or old k None))) (sym same) ∙ ap (λ b. one_where b) was in
            let none_now : one_where (is_none (slice_index_or new p None)) ≡ 0 =
            ap (λ k. one_where (is_none (slice_index_or new k None))) (sym same) ∙ ap (λ b. one_where b) is in
            let named = count_yes (nat_eq j) p ps there in
            omega (arith, cons_old, cons_new, was_one, none_now, named, rest)
        | false ↦
            λ there.
            let elsewhere : p ≡ j → ⊥ = λ e. absurd (true≢false (sym (eq-eqb j p (sym e)) ∙ there)) in
            let same : one_where (is_none (slice_index_or new p None)) ≡ one_where (is_none (slice_index_or old p None)) =
            ap (λ o. one_where (is_none o)) (others p elsewhere) in
            let unnamed = count_no (nat_eq j) p ps there in
            omega (arith, cons_old, cons_new, same, unnamed, rest)
      ]
      refl

pub result_elsewhere : (f : JobState → JobState) (jobs : List JobState) (j k : ℕ) → (k ≡ j → ⊥)
    → slice_index_or (results_so_far (changed_at j f jobs)) k None ≡ slice_index_or (results_so_far jobs) k None
result_elsewhere f [] j k differ = refl
result_elsewhere f (x ∷ xs) zero zero differ = absurd (differ refl)
result_elsewhere f (x ∷ xs) zero (suc k) differ = refl
result_elsewhere f (x ∷ xs) (suc j) zero differ = refl
result_elsewhere f (x ∷ xs) (suc j) (suc k) differ = result_elsewhere f xs j k (λ e. differ (ap suc e))

pub settled_there : (settled : JobResult) (jobs : List JobState) (j : ℕ) → j < length jobs
    → is_unfinished (changed_at j (finished_as settled) jobs) j ≡ false
settled_there settled [] j lt = absurd (omega arith)
settled_there settled (x ∷ xs) zero lt = refl
settled_there settled (x ∷ xs) (suc j) lt = settled_there settled xs j (omega arith)

-- ---- the counts after a change

pub left_same : (needs : List (List ℕ)) (old new : List JobCells) → NeedsAreLeft needs old
    → ((k : ℕ) → needs_left_at new k ≡ needs_left_at old k) → ((k : ℕ) → is_unfinished (states new) k ≡ is_unfinished (states old) k)
    → NeedsAreLeft needs new
left_same needs old new left counts same d =
    counts d ∙ left d
    ∙ sym (unsettled_same (results_so_far (states old)) (results_so_far (states new)) same (needs_at needs d))

less : (a b c : ℕ) → a ≡ b + c → a - c ≡ b
less a b c is = omega (arith, is)

-- one more job has finished, and each job that needs it counts one less
pub left_settled : (needs : List (List ℕ)) (old new : List JobCells) (j : ℕ) (settled : JobResult) → NamedOnce needs
    → NeedsAreLeft needs old → j < length old → is_unfinished (states old) j ≡ true
    → states new ≡ changed_at j (finished_as settled) (states old)
    → ((d : ℕ) → needs_left_at new d ≡ needs_left_at old d - count_by (nat_eq d) (dependents_of needs j)) → NeedsAreLeft needs new
left_settled needs old new j settled once left lt was are counts d =
    let before = states old in
    let within : j < length before = omega (arith, lt, length-map old (λ (x : JobCells). x.state)) in
    let fewer = unsettled_less (results_so_far before) (results_so_far (changed_at j (finished_as settled) before)) j was
    (settled_there settled before j within) (result_elsewhere (finished_as settled) before j) (needs_at needs d) in
    counts d
    ∙ ap (λ n. needs_left_at old d - n) (as_often needs once j d)
    ∙ ap (λ n. n - count_by (nat_eq j) (needs_at needs d)) (left d)
    ∙ less (unfinished (results_so_far before) (needs_at needs d))
    (unfinished (results_so_far (changed_at j (finished_as settled) before)) (needs_at needs d))
    (count_by (nat_eq j) (needs_at needs d)) fewer
    ∙ ap (λ js. unfinished (results_so_far js) (needs_at needs d)) (sym are)

-- ---- a job that is written

pub left_there : (xs : List JobCells) (j : ℕ) (y : JobCells) → j < length xs → needs_left_at (slice_set xs j y) j ≡ y.needs_left
left_there [] j y lt = absurd (omega arith)
left_there (x ∷ xs) zero y lt = refl
left_there (x ∷ xs) (suc j) y lt = left_there xs j y (omega arith)

pub left_elsewhere : (xs : List JobCells) (j k : ℕ) (y : JobCells) → (k ≡ j → ⊥)
    → needs_left_at (slice_set xs j y) k ≡ needs_left_at xs k
left_elsewhere [] j k y differ = refl
left_elsewhere (x ∷ xs) zero zero y differ = absurd (differ refl)
left_elsewhere (x ∷ xs) zero (suc k) y differ = refl
left_elsewhere (x ∷ xs) (suc j) zero y differ = refl
left_elsewhere (x ∷ xs) (suc j) (suc k) y differ = left_elsewhere xs j k y (λ e. differ (ap suc e))

pub left_read : (xs : List JobCells) (j : ℕ) (x : JobCells) → j < length xs → x ≡ get_or xs j x → needs_left_at xs j ≡ x.needs_left
left_read [] j x lt is = absurd (omega arith)
left_read (z ∷ xs) zero x lt is = ap (λ (y : JobCells). y.needs_left) (sym is)
left_read (z ∷ xs) (suc j) x lt is = left_read xs j x (omega arith) is

-- a value that the written job keeps stays the same at every index
pub written_same : {X : Type 0} (f : JobCells → X) (xs : List JobCells) (j : ℕ) (x y : JobCells) → x ≡ get_or xs j x → f y ≡ f x
    → map f (slice_set xs j y) ≡ map f xs
written_same f [] j x y is same = refl
written_same f (z ∷ xs) zero x y is same = ap (λ v. v ∷ map f xs) (same ∙ ap f is)
written_same f (z ∷ xs) (suc j) x y is same = ap (λ vs. f z ∷ vs) (written_same f xs j x y is same)

-- the state of the written job changes, and no other
pub written_changed : (f : JobState → JobState) (xs : List JobCells) (j : ℕ) (x y : JobCells) → j < length xs → x ≡ get_or xs j x
    → y.state ≡ f x.state → states (slice_set xs j y) ≡ changed_at j f (states xs)
written_changed f [] j x y lt is so = absurd (omega arith)
written_changed f (z ∷ xs) zero x y lt is so = ap (λ s. s ∷ states xs) (so ∙ ap (λ (v : JobCells). f v.state) is)
written_changed f (z ∷ xs) (suc j) x y lt is so = ap (λ ss. z.state ∷ ss) (written_changed f xs j x y (omega arith) is so)

pub unsettled_read : (xs : List JobCells) (j : ℕ) (x : JobCells) → j < length xs → x ≡ get_or xs j x
    → is_unfinished (states xs) j ≡ is_none (finished_result x.state.phase)
unsettled_read [] j x lt is = absurd (omega arith)
unsettled_read (z ∷ xs) zero x lt is = ap (λ (v : JobCells). is_none (finished_result v.state.phase)) (sym is)
unsettled_read (z ∷ xs) (suc j) x lt is = unsettled_read xs j x (omega arith) is

unsettled_written : (xs : List JobCells) (j k : ℕ) (x y : JobCells) → x ≡ get_or xs j x
    → is_none (finished_result y.state.phase) ≡ is_none (finished_result x.state.phase)
    → is_unfinished (states (slice_set xs j y)) k ≡ is_unfinished (states xs) k
unsettled_written [] j k x y is same = refl
unsettled_written (z ∷ xs) zero zero x y is same = same ∙ ap (λ (v : JobCells). is_none (finished_result v.state.phase)) is
unsettled_written (z ∷ xs) zero (suc k) x y is same = refl
unsettled_written (z ∷ xs) (suc j) zero x y is same = refl
unsettled_written (z ∷ xs) (suc j) (suc k) x y is same = unsettled_written xs j k x y is same

-- the written job keeps its count, and is finished exactly if it was before
pub left_kept : (needs : List (List ℕ)) (xs : List JobCells) (j : ℕ) (x y : JobCells) → NeedsAreLeft needs xs → x ≡ get_or xs j x
    → y.needs_left ≡ x.needs_left → is_none (finished_result y.state.phase) ≡ is_none (finished_result x.state.phase)
    → NeedsAreLeft needs (slice_set xs j y)
left_kept needs xs j x y left is count settled =
    left_same needs xs (slice_set xs j y) left
    (λ k. ap (λ ns. slice_index_or ns k 0) (written_same (λ (v : JobCells). v.needs_left) xs j x y is count))
    (λ k. unsettled_written xs j k x y is settled)

pub none_where : (o : Option JobResult) (b : Bool) → is_some o ≡ b → is_none o ≡ not b
none_where None b is = ap not is
none_where (Some r) b is = ap not is

-- ---- the jobs of a plan

-- the written job keeps its room and its count, and is finished exactly if it was before
pub still_planned : (plan : List PlannedJob) (xs : List JobCells) (j : ℕ) (x y : JobCells) → ArePlanned plan xs → x ≡ get_or xs j x
    → y.room ≡ x.room → y.needs_left ≡ x.needs_left
    → is_none (finished_result y.state.phase) ≡ is_none (finished_result x.state.phase) → ArePlanned plan (slice_set xs j y)
still_planned plan xs j x y are is room count settled = (
  written_same (λ (v : JobCells). v.room) xs j x y is room ∙ are.0,
  left_kept (plan_graph plan) xs j x y are.1 is count settled,
)
