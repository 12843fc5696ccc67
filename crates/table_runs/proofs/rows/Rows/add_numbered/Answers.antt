use Rattle.std.proofs.Common.{arith, ◌≡◌, ◌≤◌, ◌++◌, ◌∷◌, ◌<◌, [], ℕ, List, Ok, length, length-append, ap, ap₂, sym, subst, ◌∙◌, rules}
use Rattle.std.specs.Prelude.{cond, refl, string_bytes, true}
use Rattle.wf_value.proofs.PassedOn.{passed_on}
use Rattle.group_book.specs.Books.{BookState}
use Rattle.group_book.specs.declared.slot.Slot.{Slot}
use Rattle.group_name.specs.Group.{Group}
use Rattle.definitions.specs.SmallText.{Admitted}
use Rattle.label_lists.specs.Lists.{ListsState, OnlyGrows as ListsGrow}
use Rattle.run_marks.specs.Marked.{SameMarks}
use Rattle.table_model.specs.inner.ActiveRuns.{is_active}
use Rattle.table_model.specs.LegContext.{same_workflow}
use Rattle.table_model.specs.Runs.{RunState}
use Rattle.table_model.specs.declared.holder.Holder.{Holder}
use Rattle.table_bindings.specs.Bindings.{AreBound}
use Rattle.table_bindings.specs.inner.LabelNumbers.{LegsAreOffered}
use Rattle.table_bindings.specs.declared.bindings.RunBindings.{RunBindings}
use Rattle.table_bindings.proofs.LabelNumbers.{grows_more}
use Rattle.table_runs.specs.inner.Begun.{HasAdded}
use Rattle.table_runs.specs.inner.Counted.{AreCounted, count_of, number_among}
use Rattle.table_runs.specs.inner.Delivered.{FindsFirst}
use Rattle.table_runs.specs.inner.RowsKept.{RowState, RunsAreKept}
use Rattle.table_runs.proofs.Counting.{one_counted}
use Rattle.table_runs.proofs.Indexed.{events_more, finds_one_more}
use Rattle.table_runs.proofs.MarkedRuns.{one_more}
use Rattle.table_runs.proofs.StillBound.{added_bound, kept_grown, kept_in, kept_roomier, offered_added}
use Rattle.table_runs.proofs.RunAdded.{has_added, rows_same, stays_so}
use Rattle.table_runs.proofs.SizesKept.{size_more, size_most}
use Rattle.table_runs.proofs.StoredSizes.{small_size}
use Rattle.table_runs.proofs.rows.Rows.add_numbered.Goals as goal
use Rattle.table_runs.proofs.rows.Rows.add_numbered.Goals.{In_ok-bindings, In_ok-delivery}

pub invariant_of-self : goal.invariant_of-self
invariant_of-self c = (
  kept_in c.self.inside.runs.items c.self.inside.bindings.items c.self.inside.index c.make_room.new.self
      c.self.inside.active c.make_room.ensures.found c.make_room.ensures.counted c.make_room.ensures.lists c.self.invariant.0,
  c.self.invariant.1,
)

-- an error keeps the runs as before
still_kept : (c : In_ok-delivery)
    → RunsAreKept c.self.inside.runs.items c.self.inside.bindings.items c.make_room.new.self
    c.self.inside.active
still_kept c =
    kept_in c.self.inside.runs.items c.self.inside.bindings.items c.self.inside.index c.make_room.new.self
    c.self.inside.active c.make_room.ensures.found c.make_room.ensures.counted c.make_room.ensures.lists c.self.invariant.0

pub invariant_of-self-in_err-reserve : goal.invariant_of-self-in_err-reserve
invariant_of-self-in_err-reserve c =
    rw (c.reserve.ensures.items)
    (still_kept (goal.at.invariant_of-self-in_err-reserve c).In_ok-delivery, c.self.invariant.1)

pub invariant_of-self-in_err-reserve-2 : goal.invariant_of-self-in_err-reserve-2
invariant_of-self-in_err-reserve-2 c =
    rw (c.reserve.ensures.items, c.reserve-2.ensures.items)
    (still_kept (goal.at.invariant_of-self-in_err-reserve-2 c).In_ok-delivery, c.self.invariant.1)

-- more room for marks changes nothing
with_room : (c : In_ok-delivery) (active : List ℕ) → SameMarks c.self.inside.active active → length c.self.inside.active ≤ length active
    → RunsAreKept c.self.inside.runs.items c.self.inside.bindings.items c.make_room.new.self active
with_room c active same longer =
    kept_roomier c.self.inside.runs.items c.self.inside.bindings.items c.make_room.new.self c.self.inside.active active
    same longer (still_kept c)

pub invariant_of-self-in_err-reserve_up_to : goal.invariant_of-self-in_err-reserve_up_to
invariant_of-self-in_err-reserve_up_to c =
    rw (c.reserve.ensures.items, c.reserve-2.ensures.items) (
      with_room (goal.at.invariant_of-self-in_err-reserve_up_to c).In_ok-delivery c.reserve_up_to.new.self c.reserve_up_to.ensures.marks
          c.reserve_up_to.ensures.keeps,
      c.self.invariant.1,
    )

-- more room for lists of labels changes nothing, and entering lists neither
covered : (c : In_ok-delivery) (active : List ℕ) (lists : ListsState) → SameMarks c.self.inside.active active
    → length c.self.inside.active ≤ length active → ListsGrow c.make_room.new.self.lists lists
    → RunsAreKept c.self.inside.runs.items c.self.inside.bindings.items
    (record c.make_room.new.self { lists = lists }) active
covered c active lists same longer more =
    kept_grown c.self.inside.runs.items c.self.inside.bindings.items c.make_room.new.self active lists more
    (with_room c active same longer)

pub invariant_of-self-in_err-reserve_up_to-2 : goal.invariant_of-self-in_err-reserve_up_to-2
invariant_of-self-in_err-reserve_up_to-2 c =
    rw (c.reserve.ensures.items, c.reserve-2.ensures.items) (
      covered (goal.at.invariant_of-self-in_err-reserve_up_to-2 c).In_ok-delivery c.reserve_up_to.new.self c.reserve_up_to-2.new.self
          c.reserve_up_to.ensures.marks c.reserve_up_to.ensures.keeps c.reserve_up_to-2.ensures.grows,
      c.self.invariant.1,
    )

pub invariant_of-self-in_err-bindings : goal.invariant_of-self-in_err-bindings
invariant_of-self-in_err-bindings c =
    rw (c.reserve.ensures.items, c.reserve-2.ensures.items) (
      covered (goal.at.invariant_of-self-in_err-bindings c).In_ok-delivery c.reserve_up_to.new.self c.bind.new.lists
          c.reserve_up_to.ensures.marks c.reserve_up_to.ensures.keeps (grows_more _ _ _ c.reserve_up_to-2.ensures.grows c.bind.ensures.grows),
      c.self.invariant.1,
    )

pub invariant_of-self-in_err-expect : goal.invariant_of-self-in_err-expect
invariant_of-self-in_err-expect c =
    rw (c.reserve.ensures.items, c.reserve-2.ensures.items) (
      covered (goal.at.invariant_of-self-in_err-expect c).In_ok-delivery c.reserve_up_to.new.self c.bind.new.lists
          c.reserve_up_to.ensures.marks c.reserve_up_to.ensures.keeps (grows_more _ _ _ c.reserve_up_to-2.ensures.grows c.bind.ensures.grows),
      c.self.invariant.1,
    )

pub bind-requires-clause-place : goal.bind-requires-clause-place
bind-requires-clause-place c = c.in_ok-reserve_up_to-2.ensures.places c.len-r.result (omega arith)

pub offer_run-requires : goal.offer_run-requires
offer_run-requires c = λ j l. (c.in_ok-bindings.ensures.lists j l).place

-- its count, and what it asks for
its_number : (c : In_ok-bindings) → c.args.number ≡ number_among c.self.inside.runs.items c.args.run.admitted
its_number c =
    c.requires.number
    ∙ ap (λ (rows : RowState). number_among rows.runs c.args.run.admitted) (sym c.self.view_is)

its_bindings : (c : In_ok-bindings) → AreBound (c.self.inside.runs.items ++ c.args.run ∷ []) (c.self.inside.bindings.items ++ c.in_ok-bindings.bindings ∷ [])
its_bindings c =
    added_bound c.self.inside.runs.items c.args.run c.self.inside.bindings.items c.in_ok-bindings.bindings c.self.invariant.0.bound
    c.in_ok-bindings.ensures.says

-- the run is kept with its bindings; it is found by its delivery, counted, and marked
pub invariant_of-self-2 : goal.invariant_of-self-2
invariant_of-self-2 c =
    let items = c.self.inside.runs.items in
    let run = c.args.run in
    let event = run.admitted in
    let indexes = c.make_room.new.self.deliveries.indexes in
    let counts = c.make_room.new.self.counts.counts in
    let more = c.enter.new.self in
    let entries = c.bind.new.lists in
    let lists = c.offer_run.new.lists in
    let were = covered (goal.at.invariant_of-self-2 c).In_ok-delivery c.reserve_up_to.new.self entries c.reserve_up_to.ensures.marks
    c.reserve_up_to.ensures.keeps (grows_more _ _ _ c.reserve_up_to-2.ensures.grows c.bind.ensures.grows) in
    let bound = (goal.at.invariant_of-self-2 c).In_ok-bindings in
    let room : length items < 100000 = subst (λ (rows : RowState). length rows.runs < 100000) (sym c.self.view_is) c.requires.room in
    let r = c.len-r.result in
    let end : r ≡ length items = search rules in
    let delivery : string_bytes c.in_ok-delivery.delivery ≡ event.delivery =
    c.in_ok-delivery.ensures.copy ∙ c.delivery.ensures ∙ ap (λ (e : Admitted). e.delivery) c.prepared.ensures in
    let counted : (other : Admitted) → count_of more.counts.counts other ≡ cond (same_workflow event other) c.args.number (count_of counts other) =
    λ other. c.enter.ensures.counted other
    ∙ ap (λ (e : Admitted). cond (same_workflow e other) c.args.number (count_of counts other)) c.requires.workflow in
    rw (
      c.push_reserved.ensures.items,
      c.push_reserved-2.ensures.items,
      c.reserve.ensures.items,
      c.reserve-2.ensures.items,
    ) (
      record {
        few = omega (arith, length-append items (run ∷ []), room);
        bound = its_bindings bound;
        found = subst (λ (es : List Admitted). FindsFirst es more.deliveries.indexes) (sym (events_more items run))
            (finds_one_more items run indexes more.deliveries.indexes (string_bytes c.in_ok-delivery.delivery) r delivery end c.enter.ensures.found
            were.found);
        counted = subst (λ (es : List Admitted). AreCounted es more.counts.counts) (sym (events_more items run))
            (one_counted items run counts more.counts.counts c.args.number were.counted (its_number bound) counted);
        active = one_more is_active items run c.reserve_up_to.new.self c.mark.new.self r end c.in_ok-reserve_up_to.ensures.covers
            c.mark.ensures.keeps c.mark.ensures.puts were.active;
        offered = subst (LegsAreOffered (items ++ run ∷ []) (c.self.inside.bindings.items ++ c.in_ok-bindings.bindings ∷ [])) (sym c.enter.ensures.lists)
            (offered_added items run c.self.inside.bindings.items c.in_ok-bindings.bindings entries lists r end were.bound.as_many
            c.in_ok-bindings.ensures.lists c.offer_run.ensures.all c.offer_run.ensures.others were.offered);
      },
      size_more items run c.self.inside.text c.run_size.result c.run_size.ensures.size c.run_size.ensures.small c.self.invariant.1,
    )

pub overflow_add-self : goal.overflow_add-self
overflow_add-self c =
    let room : length c.self.inside.runs.items < 100000 =
    subst (λ (rows : RowState). length rows.runs < 100000) (sym c.self.view_is) c.requires.room in
    omega (
      arith,
      size_most c.self.inside.runs.items c.self.inside.text c.self.invariant.1 (omega (arith, room)),
      small_size c.args.run c.run_size.ensures.small,
      c.run_size.ensures.size,
    )

-- ---- nothing has changed

pub returns-in_err-delivery-clause-adds : goal.returns-in_err-delivery-clause-adds
returns-in_err-delivery-clause-adds c = stays_so c.from_residual.result _ c.from_residual.ensures.1 c.args.run c.self.view_is refl refl refl

pub returns-in_err-reserve-clause-adds : goal.returns-in_err-reserve-clause-adds
returns-in_err-reserve-clause-adds c = stays_so c.from_residual-in_err-reserve.result _ c.from_residual-in_err-reserve.ensures.1 c.args.run c.self.view_is c.reserve.ensures.items refl refl

pub returns-in_err-reserve-2-clause-adds : goal.returns-in_err-reserve-2-clause-adds
returns-in_err-reserve-2-clause-adds c = stays_so c.from_residual-in_err-reserve-2.result _ c.from_residual-in_err-reserve-2.ensures.1 c.args.run c.self.view_is c.reserve.ensures.items c.reserve-2.ensures.items refl

pub returns-in_err-reserve_up_to-clause-adds : goal.returns-in_err-reserve_up_to-clause-adds
returns-in_err-reserve_up_to-clause-adds c = stays_so c.from_residual-in_err-reserve_up_to.result _ c.from_residual-in_err-reserve_up_to.ensures.1 c.args.run c.self.view_is c.reserve.ensures.items c.reserve-2.ensures.items refl

pub returns-in_err-reserve_up_to-2-clause-adds : goal.returns-in_err-reserve_up_to-2-clause-adds
returns-in_err-reserve_up_to-2-clause-adds c = stays_so c.from_residual-in_err-reserve_up_to-2.result _ c.from_residual-in_err-reserve_up_to-2.ensures.1 c.args.run c.self.view_is c.reserve.ensures.items c.reserve-2.ensures.items refl

pub returns-in_err-bindings-clause-adds : goal.returns-in_err-bindings-clause-adds
returns-in_err-bindings-clause-adds c = stays_so c.from_residual-in_err-bindings.result _ c.from_residual-in_err-bindings.ensures.1 c.args.run c.self.view_is c.reserve.ensures.items c.reserve-2.ensures.items refl

pub returns-in_err-expect-clause-adds : goal.returns-in_err-expect-clause-adds
returns-in_err-expect-clause-adds c =
    let book : List (Group × Slot Holder) → ℕ → BookState Holder = λ es n. record { entries = es; expected = n } in
    stays_so c.from_residual-in_err-expect.result _ c.from_residual-in_err-expect.ensures.1 c.args.run c.self.view_is c.reserve.ensures.items
    c.reserve-2.ensures.items (ap₂ book c.expect.ensures.entries c.in_err-expect.ensures.same)

pub returns-in_err-expect-clause-err : goal.returns-in_err-expect-clause-err
returns-in_err-expect-clause-err c =
    passed_on (λ _. true) c.from_residual-in_err-expect.result (Ok true) (Ok true) c.in_err-expect.field-0.0 c.from_residual-in_err-expect.ensures.1
    c.in_err-expect.ensures.err (λ refused. refused)

-- ---- it is added

pub returns-clause-adds : goal.returns-clause-adds
returns-clause-adds c =
    let was = c.args.self.now in
    let items = c.self.inside.runs.items in
    let bindings = c.self.inside.bindings.items in
    let run = c.args.run in
    let b = c.in_ok-bindings.bindings in
    let kept = its_bindings (goal.at.returns-clause-adds c).In_ok-bindings in
    let all = has_added was items bindings run b c.args.book.now c.expect.new.book c.self.view_is c.self.invariant.0.bound.as_many kept
    c.in_ok-bindings.ensures.begun c.expect.ensures.entries c.in_ok-expect.ensures.more in
    subst (λ (now : RowState). HasAdded run was now c.args.book.now c.expect.new.book)
    (sym (rows_same (record { runs = items ++ run ∷ []; bindings = bindings ++ b ∷ [] }) (items ++ run ∷ []) c.push_reserved.new.self.items
    (bindings ++ b ∷ []) c.push_reserved-2.new.self.items refl
    (c.push_reserved.ensures.items ∙ ap (λ (rs : List RunState). rs ++ run ∷ []) c.reserve.ensures.items)
    (c.push_reserved-2.ensures.items ∙ ap (λ (bs : List RunBindings). bs ++ b ∷ []) c.reserve-2.ensures.items))) all
