-- The count of a workflow among the counts in order: where it stands, and that it is counted in its place.
use Rattle.std.specs.Prelude.{◌≡◌, ◌+◌, ◌<◌, ◌≤◌, ℕ, List, [], ◌∷◌, ◌++◌, filter, find, length, sum_by, cond, Bool, true, false, Option}
use Rattle.std.specs.Prelude.{Some, None, option_and_then, slice_get, slice_set, if◌then◌else◌, refl}
use Rattle.std.specs.List.{insert}
use Rattle.std.specs.Option.{option_map_or, option_or}
use Rattle.std.specs.Ordering.{is_lt}
use Rattle.std.specs.declared.cmp.Ordering.TheVariants.{Equal}
use Rattle.std.proofs.Common.{arith, ap, sym, ◌∙◌, subst, inl, inr}
use Rattle.std.proofs.lemmas.Bool.{true≢false}
use Rattle.std.proofs.lemmas.List.Folds.{find-append}
use Rattle.definitions.specs.SmallText.{Admitted}
use Rattle.wf_reader.specs.Event.{event_of}
use Rattle.table_model.specs.Forgotten.{WorkflowCount, counted, counts_workflow, forgotten_of, increases, next_count, put_in_order, workflow_order}
use Rattle.table_model.specs.Runs.{RunState}
use Rattle.table_model.proofs.Counts.{all_runs, at_most_all, counts_it, equal_is_same, it_counts, same_is_equal, workflow_total}
use Rattle.table_model.proofs.Filters.{all_pass, find_gone}
use Rattle.table_model.proofs.Found.{each_at}
use Rattle.table_model.proofs.InOrder.{after, after_equal, around, at_the_seam, before, not_after_is_equal, put_between, put_over}
use Rattle.table_model.proofs.Optional.{from_and_then, if_some}
use Rattle.forgotten_runs.specs.inner.CountIndexes.{first_count, index_in, kept_if_of, one_more}

-- ---- one more run

pub counted_more : (counts : List WorkflowCount) (runs : List RunState) (run : RunState)
    → counted counts (runs ++ run ∷ []) ≡ put_in_order workflow_order (counted counts runs) (next_count (counted counts runs) run.admitted)
counted_more counts [] run = refl
counted_more counts (x ∷ runs) run = counted_more (put_in_order workflow_order counts (next_count counts x.admitted)) runs run

-- ---- where it stands

module _ (counts : List WorkflowCount) (event : Admitted) (h : increases workflow_order counts ≡ true) where
  abbrev its : WorkflowCount
  its = first_count event

  abbrev test : WorkflowCount → Bool
  test = counts_workflow event

  equal_to_it : (count : WorkflowCount) → test count ≡ true → workflow_order count its ≡ Equal
  equal_to_it count e = let of = counts_it event count e in same_is_equal count its (sym of.0, sym of.1)

  none_before : find test (filter (before workflow_order workflow_total its) counts) ≡ None
  none_before = find_gone test (before workflow_order workflow_total its) (λ count e. ap is_lt (equal_to_it count e)) counts

  none_after : find test (filter (after workflow_order workflow_total its) counts) ≡ None
  none_after =
      find_gone test (after workflow_order workflow_total its)
      (λ count e. ap is_lt (after_equal workflow_order workflow_total count its (equal_to_it count e))) counts

  nothing_kept : (o : Option WorkflowCount) → ((count : WorkflowCount) → o ≡ Some count → test count ≡ false)
      → option_and_then (kept_if_of event) o ≡ None
  nothing_kept None none = refl
  nothing_kept (Some count) none = ap (λ b. if b then Some count else None) (none count refl)

  it_fails : (count : WorkflowCount) → after workflow_order workflow_total its count ≡ true → test count ≡ false
  it_fails count later =
      elim (test count) as (λ b. test count ≡ b → b ≡ false) [
        | true ↦ λ is.
            let equal = after_equal workflow_order workflow_total count its (equal_to_it count is) in
            let no : after workflow_order workflow_total its count ≡ false = ap is_lt equal in
            absurd (true≢false (sym later ∙ no))
        | false ↦ λ is. refl
      ] refl

  -- the count at its index is that of the workflow, or no count is
  pub found_at_index : option_and_then (kept_if_of event) (slice_get counts (index_in counts event)) ≡ find test counts
  found_at_index =
      let a = around workflow_order workflow_total counts its h in
      let prefix = filter (before workflow_order workflow_total its) counts in
      let there : slice_get counts (index_in counts event) ≡ slice_get a.back 0 =
      ap (λ cs. slice_get cs (length prefix)) a.whole ∙ at_the_seam prefix a.back in
      let finds : find test counts ≡ find test a.back =
      ap (find test) a.whole ∙ find-append test prefix a.back ∙ ap (λ o. option_or o (find test a.back)) none_before in
      elim a.ends [
        | inl is_there ↦
            let same = equal_is_same is_there.element its is_there.equal in
            let is : test is_there.element ≡ true = it_counts event is_there.element (sym same.0, sym same.1) in
            ap (option_and_then (kept_if_of event)) (there ∙ ap (λ cs. slice_get cs 0) is_there.is)
            ∙ ap (λ b. if b then Some is_there.element else None) is
            ∙ sym (finds ∙ ap (find test) is_there.is
            ∙ ap (λ b. cond b (Some is_there.element) (find test (filter (after workflow_order workflow_total its) counts))) is)
        | inr absent ↦
            ap (option_and_then (kept_if_of event)) (there ∙ ap (λ cs. slice_get cs 0) absent)
            ∙ nothing_kept (slice_get (filter (after workflow_order workflow_total its) counts) 0)
            (λ count at. it_fails count
            (each_at (λ c. after workflow_order workflow_total its c ≡ true) (filter (after workflow_order workflow_total its) counts) 0 count
            (all_pass (after workflow_order workflow_total its) counts) at))
            ∙ sym (finds ∙ ap (find test) absent ∙ none_after)
      ]

  -- ---- the count that is there grows

  -- the count at the index
  pub record IsCounted (count : WorkflowCount) : Type 0 where
    pub there : slice_get counts (index_in counts event) ≡ Some count
    pub of_it : test count ≡ true
    pub runs : count.runs ≡ forgotten_of counts event

  pub the_count : (count : WorkflowCount) → option_and_then (kept_if_of event) (slice_get counts (index_in counts event)) ≡ Some count
      → IsCounted count
  the_count count kept =
      let from = from_and_then (kept_if_of event) (slice_get counts (index_in counts event)) count kept in
      let is = if_some (test from.value) from.value count from.gives in
      record {
        there = from.is ∙ ap Some is.1;
        of_it = subst (λ (c : WorkflowCount). test c ≡ true) is.1 is.0;
        runs = ap (λ (o : Option WorkflowCount). option_map_or (λ (c : WorkflowCount). c.runs) o 0) (sym kept ∙ found_at_index);
      }

  next_is : (count : WorkflowCount) → IsCounted count → one_more count ≡ next_count counts event
  next_is count it =
      let of = counts_it event count it.of_it in
      ap (λ (repo : List ℕ). record { repo = repo; path = count.path; runs = count.runs + 1 }) (sym of.0)
      ∙ ap (λ (path : List ℕ). record { repo = (event_of event.body).repo; path = path; runs = count.runs + 1 }) (sym of.1)
      ∙ ap (λ n. record { repo = (event_of event.body).repo; path = (event_of event.body).path; runs = n + 1 }) it.runs

  pub counted_over : (count : WorkflowCount) → IsCounted count
      → slice_set counts (index_in counts event) (one_more count) ≡ put_in_order workflow_order counts (next_count counts event)
  counted_over count it =
      ap (slice_set counts (index_in counts event)) (next_is count it)
      ∙ put_over workflow_order workflow_total counts (next_count counts event) h (index_in counts event) refl count it.there
      (equal_to_it count it.of_it)

  pub few_there : (count : WorkflowCount) (most : ℕ) → IsCounted count → all_runs counts < most → count.runs < most
  few_there count most it few = let runs = it.runs in let bound = at_most_all event counts in omega (arith, runs, bound, few)

  -- ---- the first one is counted

  first_is : find test counts ≡ None → first_count event ≡ next_count counts event
  first_is none =
      let zero : forgotten_of counts event ≡ 0 = ap (λ (o : Option WorkflowCount). option_map_or (λ (c : WorkflowCount). c.runs) o 0) none in
      let one : 1 ≡ forgotten_of counts event + 1 = omega (arith, zero) in
      ap (λ n. record { repo = (event_of event.body).repo; path = (event_of event.body).path; runs = n }) one

  is_later : find test counts ≡ None → (count : WorkflowCount) → slice_get counts (index_in counts event) ≡ Some count
      → after workflow_order workflow_total (next_count counts event) count ≡ true
  is_later none count at =
      elim (after workflow_order workflow_total (next_count counts event) count) as
      (λ b. after workflow_order workflow_total (next_count counts event) count ≡ b → b ≡ true) [
        | true ↦ λ is. refl
        | false ↦ λ is.
            let equal = not_after_is_equal workflow_order workflow_total counts (next_count counts event) h (index_in counts event) refl count at is in
            let same = equal_is_same count (next_count counts event) equal in
            let passes : test count ≡ true = it_counts event count (sym same.0, sym same.1) in
            let kept : option_and_then (kept_if_of event) (slice_get counts (index_in counts event)) ≡ Some count =
            ap (option_and_then (kept_if_of event)) at ∙ ap (λ b. if b then Some count else None) passes in
            let bad : Some count ≡ None = sym kept ∙ found_at_index ∙ none in
            absurd (cc bad)
      ] refl

  pub counted_between : find test counts ≡ None
      → insert counts (index_in counts event) (first_count event) ≡ put_in_order workflow_order counts (next_count counts event)
  counted_between none =
      ap (insert counts (index_in counts event)) (first_is none)
      ∙ put_between workflow_order workflow_total counts (next_count counts event) h (index_in counts event) refl (is_later none)
