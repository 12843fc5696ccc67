-- The counts of workflows: in order, from 1 on, how they add up, and what a run more changes.
use Rattle.std.specs.Prelude.{◌≡◌, ◌≤◌, ◌+◌, ◌&&◌, ℕ, List, [], ◌∷◌, ◌++◌, filter, find, length, sum_by, cond, Bool, true, false, Option}
use Rattle.std.specs.Prelude.{Some, None, refl}
use Rattle.std.specs.Cmp.{IsTotalOrder}
use Rattle.std.specs.Cmp.Lexicographic.{nat_list_cmp_total, slice_cmp}
use Rattle.std.specs.List.{AllByRecursion}
use Rattle.std.specs.Option.{option_map_or, option_or}
use Rattle.std.specs.Ordering.{is_lt, nat_cmp, ordering_then}
use Rattle.std.specs.Str.{bytes_eq}
use Rattle.std.specs.declared.cmp.Ordering.{Ordering}
use Rattle.std.specs.declared.cmp.Ordering.TheVariants.{Less, Equal, Greater}
use Rattle.std.proofs.Common.{arith, ap, ap₂, sym, ◌∙◌, subst, inl, inr}
use Rattle.std.proofs.lemmas.Bool.{and_from, and_parts, true≢false}
use Rattle.std.proofs.lemmas.Cmp.{on_total, then_total}
use Rattle.std.proofs.lemmas.List.Folds.{find-append}
use Rattle.std.proofs.lemmas.List.Sums.{sum_by-append, sum_by-cons}
use Rattle.std.proofs.lemmas.Map.Lookups.{exact_bytes}
use Rattle.std.proofs.lemmas.Slice.Eq.{bytes_eq-Decides}
use Rattle.wf_value.proofs.OptionOr.{or_none}
use Rattle.wf_value.proofs.Rising.{Equal-from_same, name_cmp}
use Rattle.definitions.specs.SmallText.{Admitted}
use Rattle.wf_reader.specs.Event.{event_of}
use Rattle.table_model.specs.Forgotten.{WorkflowCount, counted, counts_workflow, forgotten_of, increases, next_count, put_in_order}
use Rattle.table_model.specs.Forgotten.{workflow_order}
use Rattle.table_model.specs.LegContext.{runs_of_workflow, same_workflow}
use Rattle.table_model.specs.Runs.{RunState}
use Rattle.table_model.proofs.Filters.{all_filter, find_gone, find_kept}
use Rattle.table_model.proofs.Found.{all_append}
use Rattle.table_model.proofs.InOrder.{Around, after, after_greater, after_less, around, before, put_increases}

-- ---- workflows in their order

pub workflow_total : IsTotalOrder workflow_order
workflow_total = then_total (on_total (λ count. count.repo) nat_list_cmp_total) (on_total (λ count. count.path) nat_list_cmp_total)

abbrev pub SameWorkflow : WorkflowCount → WorkflowCount → Type 0
SameWorkflow a b = (a.repo ≡ b.repo) × (a.path ≡ b.path)

both_equal : (o p : Ordering) → ordering_then o p ≡ Equal → (o ≡ Equal) × (p ≡ Equal)
both_equal Less p e = cc
both_equal Equal p e = (refl, e)
both_equal Greater p e = cc

pub equal_is_same : (a b : WorkflowCount) → workflow_order a b ≡ Equal → SameWorkflow a b
equal_is_same a b e =
    let both = both_equal (name_cmp a.repo b.repo) (name_cmp a.path b.path) e in
    (exact_bytes a.repo b.repo both.0, exact_bytes a.path b.path both.1)

pub same_is_equal : (a b : WorkflowCount) → SameWorkflow a b → workflow_order a b ≡ Equal
same_is_equal a b same =
    ap₂ ordering_then (Equal-from_same a.repo b.repo same.0) (Equal-from_same a.path b.path same.1)

-- the place of a workflow in the order does not depend on its count
same_place : (a b c : WorkflowCount) → SameWorkflow a b → workflow_order a c ≡ workflow_order b c
same_place a b c same = workflow_total.congr a b c (same_is_equal a b same)

-- ---- the count of the workflow of an event

abbrev of_event : Admitted → WorkflowCount → Type 0
of_event event count = ((event_of event.body).repo ≡ count.repo) × ((event_of event.body).path ≡ count.path)

pub counts_it : (event : Admitted) (count : WorkflowCount) → counts_workflow event count ≡ true → of_event event count
counts_it event count e =
    let both = and_parts (bytes_eq (event_of event.body).repo count.repo) (bytes_eq (event_of event.body).path count.path) e in
    ((bytes_eq-Decides (event_of event.body).repo count.repo).0 both.0, (bytes_eq-Decides (event_of event.body).path count.path).0 both.1)

pub it_counts : (event : Admitted) (count : WorkflowCount) → of_event event count → counts_workflow event count ≡ true
it_counts event count of =
    and_from _ _ ((bytes_eq-Decides (event_of event.body).repo count.repo).1 of.0)
    ((bytes_eq-Decides (event_of event.body).path count.path).1 of.1)

its_order : (event : Admitted) (count of : WorkflowCount) → counts_workflow event count ≡ true → SameWorkflow of count
    → workflow_order count of ≡ Equal
its_order event count of e same = same_is_equal count of (sym same.0, sym same.1)

-- a count of the event's workflow is equal in the order to the next one
equal_to_next : (counts : List WorkflowCount) (event : Admitted) (count : WorkflowCount) → counts_workflow event count ≡ true
    → workflow_order count (next_count counts event) ≡ Equal
equal_to_next counts event count e =
    let of = counts_it event count e in same_is_equal count (next_count counts event) (sym of.0, sym of.1)

-- so it is found neither before nor after
none_before : (counts : List WorkflowCount) (event : Admitted) (x : WorkflowCount)
    → ((count : WorkflowCount) → counts_workflow event count ≡ true → is_lt (workflow_order count x) ≡ false)
    → find (counts_workflow event) (filter (λ y. is_lt (workflow_order y x)) counts) ≡ None
none_before counts event x apart = find_gone (counts_workflow event) (λ y. is_lt (workflow_order y x)) apart counts

none_after : (counts : List WorkflowCount) (event : Admitted) (x : WorkflowCount)
    → ((count : WorkflowCount) → counts_workflow event count ≡ true → is_lt (workflow_order x count) ≡ false)
    → find (counts_workflow event) (filter (λ y. is_lt (workflow_order x y)) counts) ≡ None
none_after counts event x apart = find_gone (counts_workflow event) (λ y. is_lt (workflow_order x y)) apart counts

equal_back : (a b : WorkflowCount) → workflow_order a b ≡ Equal → workflow_order b a ≡ Equal
equal_back a b e = let same = equal_is_same a b e in same_is_equal b a (sym same.0, sym same.1)

-- ---- how they add up

abbrev pub all_runs : List WorkflowCount → ℕ
all_runs counts = sum_by (λ count. count.runs) counts

abbrev runs_in : Option WorkflowCount → ℕ
runs_in found = option_map_or (λ (count : WorkflowCount). count.runs) found 0

pub at_most_all : (event : Admitted) (counts : List WorkflowCount) → forgotten_of counts event ≤ all_runs counts
at_most_all event [] = omega arith
at_most_all event (count ∷ counts) =
    let rest = at_most_all event counts in
    let sum = sum_by-cons (λ (c : WorkflowCount). c.runs) count counts in
    elim (counts_workflow event count) as
    (λ b. option_map_or (λ (c : WorkflowCount). c.runs) (cond b (Some count) (find (counts_workflow event) counts)) 0 ≤ all_runs (count ∷ counts)) [
      | true ↦ omega (arith, sum)
      | false ↦ omega (arith, sum, rest)
    ]

module _ (counts : List WorkflowCount) (event : Admitted) where
  abbrev next : WorkflowCount
  next = next_count counts event

  abbrev prefix : List WorkflowCount
  prefix = filter (λ y. is_lt (workflow_order y next)) counts

  abbrev later : List WorkflowCount
  later = filter (λ y. is_lt (workflow_order next y)) counts

  its_before : find (counts_workflow event) prefix ≡ None
  its_before = none_before counts event next (λ count e. ap is_lt (equal_to_next counts event count e))

  its_after : find (counts_workflow event) later ≡ None
  its_after = none_after counts event next (λ count e. ap is_lt (equal_back count next (equal_to_next counts event count e)))

  found_in : (back : List WorkflowCount) → counts ≡ prefix ++ back
      → find (counts_workflow event) counts ≡ find (counts_workflow event) back
  found_in back whole =
      ap (find (counts_workflow event)) whole ∙ find-append (counts_workflow event) prefix back
      ∙ ap (λ o. option_or o (find (counts_workflow event) back)) its_before

  sum_put : all_runs (put_in_order workflow_order counts next) ≡ all_runs prefix + (next.runs + all_runs later)
  sum_put =
      sum_by-append (λ (c : WorkflowCount). c.runs) prefix (next ∷ later)
      ∙ ap (λ n. all_runs prefix + n) (sum_by-cons (λ (c : WorkflowCount). c.runs) next later)

  -- one run more is counted
  pub one_more_counted : increases workflow_order counts ≡ true → all_runs (put_in_order workflow_order counts next) ≡ all_runs counts + 1
  one_more_counted h =
      let a = around workflow_order workflow_total counts next h in
      let parts : all_runs counts ≡ all_runs prefix + all_runs a.back
      = ap all_runs a.whole ∙ sum_by-append (λ (c : WorkflowCount). c.runs) prefix a.back in
      let put = sum_put in
      elim a.ends [
        | inl there ↦
            let same = equal_is_same there.element next there.equal in
            let is_its : counts_workflow event there.element ≡ true = it_counts event there.element (sym same.0, sym same.1) in
            let found : forgotten_of counts event ≡ there.element.runs =
            ap runs_in (found_in a.back a.whole ∙ ap (find (counts_workflow event)) there.is
            ∙ ap (λ b. cond b (Some there.element) (find (counts_workflow event) later)) is_its) in
            let rest = ap all_runs there.is ∙ sum_by-cons (λ (c : WorkflowCount). c.runs) there.element later in
            omega (arith, parts, put, found, rest)
        | inr absent ↦
            let found : forgotten_of counts event ≡ 0 =
            ap runs_in (found_in a.back a.whole ∙ ap (find (counts_workflow event)) absent ∙ its_after) in
            let rest = ap all_runs absent in
            omega (arith, parts, put, found, rest)
      ]

  pub each_still_counts : AllByRecursion (λ count. 1 ≤ count.runs) counts
      → AllByRecursion (λ count. 1 ≤ count.runs) (put_in_order workflow_order counts next)
  each_still_counts each =
      let positive : 1 ≤ forgotten_of counts event + 1 = omega arith in
      all_append (λ (count : WorkflowCount). 1 ≤ count.runs) prefix (next ∷ later)
      (all_filter (λ y. is_lt (workflow_order y next)) (λ (count : WorkflowCount). 1 ≤ count.runs) counts each)
      (positive, all_filter (λ y. is_lt (workflow_order next y)) (λ (count : WorkflowCount). 1 ≤ count.runs) counts each)

  -- ---- the count of each workflow then

  found_then : (other : Admitted) → find (counts_workflow other) (put_in_order workflow_order counts next)
      ≡ option_or (find (counts_workflow other) prefix) (cond (same_workflow other event) (Some next) (find (counts_workflow other) later))
  found_then other = find-append (counts_workflow other) prefix (next ∷ later)

  abbrev of_texts : List ℕ → List ℕ → ℕ
  of_texts repo path = runs_in (find (λ (count : WorkflowCount). bytes_eq repo count.repo && bytes_eq path count.path) counts)

  same_count : (other : Admitted) → SameWorkflow (next_count counts other) next → forgotten_of counts event ≡ forgotten_of counts other
  same_count other same = ap₂ of_texts (sym same.0) (sym same.1)

  its_count : (other : Admitted) → same_workflow other event ≡ true
      → forgotten_of (put_in_order workflow_order counts next) other ≡ forgotten_of counts other + 1
  its_count other is =
      let same = counts_it other next is in
      let gone = none_before counts other next (λ count e.
      let its = counts_it other count e in
      ap is_lt (same_is_equal count next (sym its.0 ∙ same.0, sym its.1 ∙ same.1))) in
      ap runs_in (found_then other ∙ ap (λ o. option_or o (cond (same_workflow other event) (Some next) (find (counts_workflow other) later))) gone
      ∙ ap (λ b. cond b (Some next) (find (counts_workflow other) later)) is)
      ∙ ap (λ n. n + 1) (same_count other same)

  other_found : (other : Admitted) → same_workflow other event ≡ false
      → find (counts_workflow other) (put_in_order workflow_order counts next) ≡ find (counts_workflow other) counts
  other_found other isnt =
      let its = next_count counts other in
      let test = counts_workflow other in
      let then : find test (put_in_order workflow_order counts next) ≡ option_or (find test prefix) (find test later) =
      found_then other ∙ ap (λ b. option_or (find test prefix) (cond b (Some next) (find test later))) isnt in
      let place : (count : WorkflowCount) → test count ≡ true → workflow_order count next ≡ workflow_order its next =
      λ count e. let of = counts_it other count e in same_place count its next (sym of.0, sym of.1) in
      elim (workflow_order its next) as (λ o. workflow_order its next ≡ o → find test (put_in_order workflow_order counts next) ≡ find test counts) [
        | Less ↦ λ lt.
            let kept = find_kept test (λ y. is_lt (workflow_order y next)) (λ count e. ap is_lt (place count e ∙ lt)) counts in
            let gone = none_after counts other next (λ count e.
            ap is_lt (after_less workflow_order workflow_total count next (place count e ∙ lt))) in
            then ∙ ap (λ o. option_or (find test prefix) o) gone ∙ or_none (find test prefix) ∙ kept
        | Equal ↦ λ eq.
            let is : same_workflow other event ≡ true = it_counts other next (equal_is_same its next eq) in
            absurd (true≢false (sym is ∙ isnt))
        | Greater ↦ λ gt.
            let gone = none_before counts other next (λ count e. ap is_lt (place count e ∙ gt)) in
            let kept = find_kept test (λ y. is_lt (workflow_order next y))
            (λ count e. ap is_lt (after_greater workflow_order workflow_total count next (place count e ∙ gt))) counts in
            then ∙ ap (λ o. option_or o (find test later)) gone ∙ kept
      ] refl

  pub count_then : (other : Admitted)
      → forgotten_of (put_in_order workflow_order counts next) other ≡ forgotten_of counts other + cond (same_workflow other event) 1 0
  count_then other =
      elim (same_workflow other event) as
      (λ b. same_workflow other event ≡ b
      → forgotten_of (put_in_order workflow_order counts next) other ≡ forgotten_of counts other + cond b 1 0) [
        | true ↦ λ is. its_count other is
        | false ↦ λ isnt. let same = ap runs_in (other_found other isnt) in omega (arith, same)
      ] refl

-- ---- the counts after several runs

pub record Counted (before : List WorkflowCount) (runs : List RunState) (counts : List WorkflowCount) : Type 0 where
  pub in_order : increases workflow_order counts ≡ true
  pub each : AllByRecursion (λ count. 1 ≤ count.runs) counts
  pub sum : all_runs counts ≡ all_runs before + length runs
  pub of_workflow : (event : Admitted) → forgotten_of counts event ≡ forgotten_of before event + runs_of_workflow event runs

pub are_counted : (counts : List WorkflowCount) (runs : List RunState) → increases workflow_order counts ≡ true
    → AllByRecursion (λ count. 1 ≤ count.runs) counts → Counted counts runs (counted counts runs)
are_counted counts [] h each = record {
  in_order = h;
  each = each;
  sum = omega arith;
  of_workflow = (λ event. omega arith);
}
are_counted counts (run ∷ runs) h each =
    let next = next_count counts run.admitted in
    let put = put_in_order workflow_order counts next in
    let rest = are_counted put runs (put_increases workflow_order workflow_total counts next h) (each_still_counts counts run.admitted each) in
    let one = one_more_counted counts run.admitted h in
    record {
      in_order = rest.in_order;
      each = rest.each;
      sum = let sum = rest.sum in omega (arith, sum, one);
      of_workflow = (λ event.
          let later = rest.of_workflow event in
          let its = count_then counts run.admitted event in
          let both = sum_by-cons (λ (x : RunState). cond (same_workflow event x.admitted) 1 0) run runs in
          omega (arith, later, its, both));
    }
