use Rattle.std.specs.Prelude.{◌≡◌, ◌<◌, ℕ, IfSome, List, Option, Some, None, find, is_some, option_and_then, option_map, slice_get, slice_set, true, false, Ok}
use Rattle.std.specs.List.{insert}
use Rattle.std.proofs.Common.{arith, ap, length, subst, sym, ◌∙◌}
use Rattle.definitions.specs.Limits.{last_number}
use Rattle.definitions.specs.SmallText.{Admitted}
use Rattle.wf_value.proofs.PassedOn.{same_Ok}
use Rattle.table_model.specs.Forgotten.{WorkflowCount, counts_workflow, increases, next_count, put_in_order, workflow_order}
use Rattle.table_model.proofs.Counts.{all_runs, one_more_counted, workflow_total}
use Rattle.table_model.proofs.InOrder.{index_in_range}
use Rattle.forgotten_runs.specs.inner.CountIndexes.{first_count, index_in, kept_if_of, one_more}
use Rattle.forgotten_runs.proofs.CountIndexes.{IsCounted, counted_between, counted_over, few_there, found_at_index, the_count}
use Rattle.forgotten_runs.proofs.workflow_counts.count_in.Goals as goal

-- ---- whether there is a count of the workflow

mapped_some : {X : Type 0} (now : X → WorkflowCount) (o : Option X) (found : Option WorkflowCount) → option_map now o ≡ found → is_some o ≡ true
    → (count : WorkflowCount) × (found ≡ Some count)
mapped_some now None found is some = cc
mapped_some now (Some x) found is some = (now x, sym is)

mapped_none : {X : Type 0} (now : X → WorkflowCount) (o : Option X) (found : Option WorkflowCount) → option_map now o ≡ found → is_some o ≡ false
    → found ≡ None
mapped_none now None found is none = sym is
mapped_none now (Some x) found is none = cc

-- ---- in the order

module _ (counts : List WorkflowCount) (event : Admitted) (index : ℕ) (at : index ≡ index_in counts event)
    (h : increases workflow_order counts ≡ true) where
  -- the count at the index
  its_count : {X : Type 0} (now : X → WorkflowCount) (o : Option X)
      → option_map now o ≡ option_and_then (kept_if_of event) (slice_get counts index) → is_some o ≡ true
      → (count : WorkflowCount) × IsCounted counts event h count
  its_count now o kept some =
      let found = mapped_some now o (option_and_then (kept_if_of event) (slice_get counts index)) kept some in
      (found.0, the_count counts event h found.0 (ap (λ n. option_and_then (kept_if_of event) (slice_get counts n)) (sym at) ∙ found.1))

  none_counted : {X : Type 0} (now : X → WorkflowCount) (o : Option X)
      → option_map now o ≡ option_and_then (kept_if_of event) (slice_get counts index) → is_some o ≡ false
      → find (counts_workflow event) counts ≡ None
  none_counted now o kept none =
      sym (found_at_index counts event h) ∙ ap (λ n. option_and_then (kept_if_of event) (slice_get counts n)) (sym at)
      ∙ mapped_none now o (option_and_then (kept_if_of event) (slice_get counts index)) kept none

  read_there : (count : WorkflowCount) → IsCounted counts event h count → slice_get counts index ≡ Some count
  read_there count it = ap (slice_get counts) at ∙ it.there

  set_there : (count : WorkflowCount) (new : List WorkflowCount) → IsCounted counts event h count
      → ((c : WorkflowCount) → slice_get counts index ≡ Some c → new ≡ slice_set counts index (one_more c))
      → new ≡ put_in_order workflow_order counts (next_count counts event)
  set_there count new it so =
      so count (read_there count it) ∙ ap (λ n. slice_set counts n (one_more count)) at ∙ counted_over counts event h count it

pub count_again-requires-clause-few : goal.count_again-requires-clause-few
count_again-requires-clause-few c =
    let counts = c.args.counts.now.items in
    let event = c.args.event.now in
    let index = c.index_in-index.result in
    let at = c.index_in-index.ensures ∙ ap (λ (cs : List WorkflowCount). index_in cs event) c.deref.ensures.value in
    let kept = c.count_at.ensures
    ∙ ap (λ (cs : List WorkflowCount). option_and_then (kept_if_of event) (slice_get cs index)) c.deref-2.ensures.value in
    let (count, it) = its_count counts event index at c.requires.order (λ k. k.now) c.count_at.result kept
    (sym c.is_some.ensures ∙ c.if-is_some.true) in
    subst (λ (o : Option WorkflowCount). IfSome o (λ k. k.runs < last_number)) (sym (read_there counts event index at c.requires.order count it))
    (few_there counts event c.requires.order count last_number it c.requires.few)

pub returns-then-is_some-clause-put : goal.returns-then-is_some-clause-put
returns-then-is_some-clause-put c =
    let counts = c.args.counts.now.items in
    let event = c.args.event.now in
    let index = c.index_in-index.result in
    let at = c.index_in-index.ensures ∙ ap (λ (cs : List WorkflowCount). index_in cs event) c.deref.ensures.value in
    let kept = c.count_at.ensures
    ∙ ap (λ (cs : List WorkflowCount). option_and_then (kept_if_of event) (slice_get cs index)) c.deref-2.ensures.value in
    let (count, it) = its_count counts event index at c.requires.order (λ k. k.now) c.count_at.result kept
    (sym c.is_some.ensures ∙ c.if-is_some.true) in
    ap Ok (sym (set_there counts event index at c.requires.order count c.count_again.new.counts.items it c.count_again.ensures))

pub returns-then-is_some-clause-sum : goal.returns-then-is_some-clause-sum
returns-then-is_some-clause-sum c =
    let counts = c.args.counts.now.items in
    let event = c.args.event.now in
    let index = c.index_in-index.result in
    let at = c.index_in-index.ensures ∙ ap (λ (cs : List WorkflowCount). index_in cs event) c.deref.ensures.value in
    let kept = c.count_at.ensures
    ∙ ap (λ (cs : List WorkflowCount). option_and_then (kept_if_of event) (slice_get cs index)) c.deref-2.ensures.value in
    let (count, it) = its_count counts event index at c.requires.order (λ k. k.now) c.count_at.result kept
    (sym c.is_some.ensures ∙ c.if-is_some.true) in
    ap all_runs (set_there counts event index at c.requires.order count c.count_again.new.counts.items it c.count_again.ensures)
    ∙ one_more_counted counts event c.requires.order

pub insert-requires : goal.insert-requires
insert-requires c =
    let counts = c.args.counts.now.items in
    let event = c.args.event.now in
    let at = c.index_in-index.ensures ∙ ap (λ (cs : List WorkflowCount). index_in cs event) c.deref.ensures.value in
    omega (
      arith,
      index_in_range workflow_order workflow_total counts (first_count event) c.requires.order c.index_in-index.result at,
      c.deref.ensures.len,
      ap length c.deref.ensures.value,
    )

pub returns-clause-put : goal.returns-clause-put
returns-clause-put c =
    let counts = c.args.counts.now.items in
    let event = c.args.event.now in
    let index = c.index_in-index.result in
    let at = c.index_in-index.ensures ∙ ap (λ (cs : List WorkflowCount). index_in cs event) c.deref.ensures.value in
    let kept = c.count_at.ensures
    ∙ ap (λ (cs : List WorkflowCount). option_and_then (kept_if_of event) (slice_get cs index)) c.deref-2.ensures.value in
    let none = none_counted counts event index at c.requires.order (λ k. k.now) c.count_at.result kept
    (sym c.is_some.ensures ∙ c.if-is_some.false) in
    ap Ok
    (sym (c.in_ok-insert.ensures.items ∙ ap (insert counts index) (sym (same_Ok _ _ c.in_ok-first.ensures))
    ∙ ap (λ n. insert counts n (first_count event)) at ∙ counted_between counts event c.requires.order none))
