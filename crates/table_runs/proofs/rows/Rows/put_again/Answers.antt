use Rattle.std.proofs.Common.{arith, ◌≡◌, ◌+◌, ◌-◌, ◌≤◌, ◌<◌, ◌∙◌, List, Ok, ap, length, subst, sym}
use Rattle.std.specs.Prelude.{ℕ, Some, option_map, refl, slice_get, slice_set}
use Rattle.std.proofs.lemmas.Option.{slice_get_read}
use Rattle.table_model.specs.Runs.{changed_at, again, run_at, RunState}
use Rattle.table_bindings.specs.declared.bindings.RunBindings.{RunBindings}
use Rattle.table_bindings.proofs.LabelNumbers.{grows_more}
use Rattle.table_runs.specs.inner.Begun.{HaveTickets}
use Rattle.table_runs.specs.inner.GroupsKept.{AreTold, arrivals_to_come}
use Rattle.table_runs.specs.inner.RowsKept.{RowState}
use Rattle.table_runs.proofs.ArrivalsToCome.{expected_again, its_share}
use Rattle.table_runs.proofs.NextAttempt.{next_of, put}
use Rattle.table_runs.proofs.StillBound.{bound_again, kept_again, kept_grown, offered_again}
use Rattle.table_runs.proofs.SizesKept.{size_most, size_put, size_within}
use Rattle.table_runs.proofs.StoredSizes.{small_size}
use Rattle.table_runs.proofs.ToldMore.{begun_first, next_told}
use Rattle.table_runs.proofs.rows.Rows.put_again.Goals as goal

-- more room for lists of labels changes nothing
pub invariant_of-self : goal.invariant_of-self
invariant_of-self c = (
  kept_grown c.self.inside.runs.items c.self.inside.bindings.items c.self.inside.index c.self.inside.active
      c.reserve_up_to.new.self c.reserve_up_to.ensures.grows c.self.invariant.0,
  c.self.invariant.1,
)

-- entering lists changes nothing
pub invariant_of-self-in_err-bindings : goal.invariant_of-self-in_err-bindings
invariant_of-self-in_err-bindings c = (
  kept_grown c.self.inside.runs.items c.self.inside.bindings.items c.self.inside.index c.self.inside.active
      c.bind.new.lists (grows_more _ _ _ c.reserve_up_to.ensures.grows c.bind.ensures.grows) c.self.invariant.0,
  c.self.invariant.1,
)

pub invariant_of-self-in_err-expect : goal.invariant_of-self-in_err-expect
invariant_of-self-in_err-expect c = (
  kept_grown c.self.inside.runs.items c.self.inside.bindings.items c.self.inside.index c.self.inside.active
      c.bind.new.lists (grows_more _ _ _ c.reserve_up_to.ensures.grows c.bind.ensures.grows) c.self.invariant.0,
  c.self.invariant.1,
)

pub bind-requires-clause-place : goal.bind-requires-clause-place
bind-requires-clause-place c = c.in_ok-reserve_up_to.ensures.places c.args.r (omega arith)

-- run `r` exists
within : (items now : List RunState) (r : ℕ) (next : RunState) → items ≡ now → Some next ≡ option_map again (run_at now r) → r < length items
within items now r next seen is = (next_of items r next (is ∙ ap (λ (rs : List RunState). option_map again (run_at rs r)) (sym seen))).within

pub bind-requires-clause-few : goal.bind-requires-clause-few
bind-requires-clause-few c =
    let there = within c.self.inside.runs.items c.args.self.now.runs c.args.r c.args.next (ap (λ (rows : RowState). rows.runs) c.self.view_is) c.requires.next in
    omega (arith, there, c.self.invariant.0.few)

pub mark-requires : goal.mark-requires
mark-requires c =
    let there = within c.self.inside.runs.items c.args.self.now.runs c.args.r c.args.next (ap (λ (rows : RowState). rows.runs) c.self.view_is) c.requires.next in
    omega (arith, there, c.self.invariant.0.active.covers)

pub put_at-requires : goal.put_at-requires
put_at-requires c =
    omega (arith, within c.self.inside.runs.items c.args.self.now.runs c.args.r c.args.next (ap (λ (rows : RowState). rows.runs) c.self.view_is) c.requires.next)

pub put_at-requires-2 : goal.put_at-requires-2
put_at-requires-2 c =
    omega (
      arith,
      within c.self.inside.runs.items c.args.self.now.runs c.args.r c.args.next (ap (λ (rows : RowState). rows.runs) c.self.view_is) c.requires.next,
      c.self.invariant.0.bound.as_many,
    )

pub offer_run-requires : goal.offer_run-requires
offer_run-requires c = λ j l. (c.in_ok-bindings.ensures.lists j l).place

pub invariant_of-self-2 : goal.invariant_of-self-2
invariant_of-self-2 c =
    let items = c.self.inside.runs.items in
    let r = c.args.r in
    let next = c.args.next in
    let runs_are = ap (λ (rows : RowState). rows.runs) c.self.view_is in
    let from = next_of items r next (c.requires.next ∙ ap (λ (rs : List RunState). option_map again (run_at rs r)) (sym runs_are)) in
    let entries = c.bind.new.lists in
    let lists = c.offer_run.new.lists in
    let entered = kept_grown items c.self.inside.bindings.items c.self.inside.index c.self.inside.active
    entries (grows_more _ _ _ c.reserve_up_to.ensures.grows c.bind.ensures.grows) c.self.invariant.0 in
    let offered = offered_again items c.self.inside.bindings.items entries lists r next c.in_ok-bindings.bindings from.within entered.bound.as_many
    c.in_ok-bindings.ensures.lists c.offer_run.ensures.all c.offer_run.ensures.others entered.offered in
    rw (c.put_at.ensures.items, c.put_at-2.ensures.items) (
      kept_again items c.self.inside.bindings.items (record c.self.inside.index { lists = entries })
          lists c.self.inside.active c.mark.new.self r from.was next c.in_ok-bindings.bindings offered from.within from.read
          (ap (λ (x : RunState). x.admitted) from.is)
          c.in_ok-bindings.ensures.says c.mark.ensures.keeps c.mark.ensures.puts entered,
      size_put items r c.index-was.result.now next c.self.inside.text
          (c.self.inside.text - c.run_size-before.result + c.run_size-after.result) from.within c.index-was.ensures
          c.run_size-after.ensures.small
          (omega (
            arith,
            c.run_size-before.ensures.size,
            c.run_size-after.ensures.size,
            size_within items r c.index-was.result.now c.self.inside.text c.run_size-before.result from.within c.index-was.ensures
                c.run_size-before.ensures.size c.self.invariant.1,
          ))
          c.self.invariant.1,
    )

-- the attempt before has no more bytes than all runs
pub overflow_sub-self : goal.overflow_sub-self
overflow_sub-self c =
    let items = c.self.inside.runs.items in
    let there = within items c.args.self.now.runs c.args.r c.args.next (ap (λ (rows : RowState). rows.runs) c.self.view_is) c.requires.next in
    size_within items c.args.r c.index-was.result.now c.self.inside.text c.run_size-before.result there c.index-was.ensures
    c.run_size-before.ensures.size c.self.invariant.1

pub overflow_add-self : goal.overflow_add-self
overflow_add-self c =
    omega (
      arith,
      size_most c.self.inside.runs.items c.self.inside.text c.self.invariant.1 c.self.invariant.0.few,
      small_size c.args.next c.run_size-after.ensures.small,
      c.run_size-after.ensures.size,
    )

pub returns-clause-again : goal.returns-clause-again
returns-clause-again c =
    let items = c.self.inside.runs.items in
    let r = c.args.r in
    let next = c.args.next in
    let runs_are = ap (λ (rows : RowState). rows.runs) c.self.view_is in
    let from = next_of items r next (c.requires.next ∙ ap (λ (rs : List RunState). option_map again (run_at rs r)) (sym runs_are)) in
    ap Ok (sym (c.put_at.ensures.items ∙ put items r next from ∙ ap (changed_at r again) runs_are))

-- ---- memory for arrivals

pub forgo-requires : goal.forgo-requires
forgo-requires c =
    let bindings = c.self.inside.bindings.items in
    let r = c.args.r in
    let was = c.index.result.now in
    let there = within c.self.inside.runs.items c.args.self.now.runs r c.args.next (ap (λ (rows : RowState). rows.runs) c.self.view_is) c.requires.next in
    let at : slice_get bindings r ≡ Some was =
    slice_get_read bindings (length bindings) r was refl (omega (arith, there, c.self.invariant.0.bound.as_many)) c.index.ensures in
    let enough : arrivals_to_come bindings ≤ c.args.book.now.expected =
    subst (λ (rows : RowState). arrivals_to_come rows.bindings ≤ c.args.book.now.expected) (sym c.self.view_is) c.requires.expected in
    omega (arith, its_share bindings r was at, enough, c.in_ok-expect.ensures.more)

pub returns-clause-expected : goal.returns-clause-expected
returns-clause-expected c =
    let bindings = c.self.inside.bindings.items in
    let r = c.args.r in
    let was = c.index.result.now in
    let there = within c.self.inside.runs.items c.args.self.now.runs r c.args.next (ap (λ (rows : RowState). rows.runs) c.self.view_is) c.requires.next in
    let at : slice_get bindings r ≡ Some was =
    slice_get_read bindings (length bindings) r was refl (omega (arith, there, c.self.invariant.0.bound.as_many)) c.index.ensures in
    let enough : arrivals_to_come bindings ≤ c.args.book.now.expected =
    subst (λ (rows : RowState). arrivals_to_come rows.bindings ≤ c.args.book.now.expected) (sym c.self.view_is) c.requires.expected in
    subst (λ (bs : List RunBindings). arrivals_to_come bs ≤ c.forgo.new.book.expected) (sym c.put_at-2.ensures.items)
    (expected_again bindings r was c.in_ok-bindings.bindings c.args.book.now.expected c.expect.new.book.expected c.forgo.new.book.expected at
    c.in_ok-expect.ensures.more c.forgo.ensures.expected enough)

-- ---- what is known

pub returns-clause-told : goal.returns-clause-told
returns-clause-told c = λ told.
    let items = c.self.inside.runs.items in
    let bindings = c.self.inside.bindings.items in
    let r = c.args.r in
    let next = c.args.next in
    let b = c.in_ok-bindings.bindings in
    let runs_are = ap (λ (rows : RowState). rows.runs) c.self.view_is in
    let from = next_of items r next (c.requires.next ∙ ap (λ (rs : List RunState). option_map again (run_at rs r)) (sym runs_are)) in
    let bound = bound_again items bindings r next b from.within c.in_ok-bindings.ensures.says c.self.invariant.0.bound in
    let begun = begun_first next b c.in_ok-bindings.ensures.own c.in_ok-bindings.ensures.as_many c.in_ok-bindings.ensures.later in
    let all = next_told items r bindings b next from c.self.invariant.0.bound.as_many bound begun in
    rw (c.put_at.ensures.items, c.put_at-2.ensures.items)
    (subst (λ (rs : List RunState). AreTold rs (slice_set bindings r b)) (sym (put items r next from))
    (all.0 (subst (λ (rows : RowState). AreTold rows.runs rows.bindings) (sym c.self.view_is) told)))

pub returns-clause-tickets : goal.returns-clause-tickets
returns-clause-tickets c =
    let items = c.self.inside.runs.items in
    let bindings = c.self.inside.bindings.items in
    let r = c.args.r in
    let next = c.args.next in
    let b = c.in_ok-bindings.bindings in
    let runs_are = ap (λ (rows : RowState). rows.runs) c.self.view_is in
    let from = next_of items r next (c.requires.next ∙ ap (λ (rs : List RunState). option_map again (run_at rs r)) (sym runs_are)) in
    let bound = bound_again items bindings r next b from.within c.in_ok-bindings.ensures.says c.self.invariant.0.bound in
    let begun = begun_first next b c.in_ok-bindings.ensures.own c.in_ok-bindings.ensures.as_many c.in_ok-bindings.ensures.later in
    let all = next_told items r bindings b next from c.self.invariant.0.bound.as_many bound begun in
    rw (c.put_at.ensures.items, c.put_at-2.ensures.items)
    (subst (λ (rs : List RunState). HaveTickets r rs (slice_set bindings r b)) (sym (put items r next from)) all.1)
