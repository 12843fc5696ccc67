use Rattle.std.specs.Prelude.{List, length, true, false, refl}
use Rattle.std.proofs.Common.{◌≡◌, ap, arith, subst, sym, ◌∙◌}
use Rattle.table_model.specs.Groups.{HasOneEach}
use Rattle.table_model.specs.Runs.{RunState}
use Rattle.table_model.specs.declared.holder.Holder.{Holder}
use Rattle.table_runs.specs.inner.GroupsKept.{GroupsAreKept}
use Rattle.table_runs.specs.inner.MarkedRuns.{AreMarked, is_due}
use Rattle.table_runs.specs.inner.RowsKept.{RowState}
use Rattle.table_runs.specs.inner.Seating.{HasSeats, HaveKeys}
use Rattle.table_runs.specs.declared.runs.of.GroupSlot.TheVariants.{InProgress, Pending}
use Rattle.table_runs.proofs.AllSeated.{all_are_due, all_exact, all_kept, keys_then, seats_then, start_keys, start_seats, two_in_progress, two_pending}
use Rattle.table_runs.proofs.Seating.{are_seated, one_each_seated, one_is_taken, said_of}
use Rattle.table_runs.proofs.runs.Runs.of_rows.Goals as goal

pub seat_all-requires : goal.seat_all-requires
seat_all-requires c =
    record {
      seats = start_seats c.args.rows c.args.book c.requires.stored c.requires.empty;
      keys = start_keys c.args.rows c.args.book c.requires.stored c.requires.empty;
    }

pub returns-then-not-seat_all-clause-of : goal.returns-then-not-seat_all-clause-of
returns-then-not-seat_all-clause-of c =
    let rows = c.args.rows in
    let book = c.args.book in
    let everybody = λ (h : Holder). true in
    let stored = c.requires.stored in
    let empty = c.requires.empty in
    λ one.
    two_in_progress rows book stored empty
    (one_is_taken InProgress everybody rows.runs rows.bindings c.seat_all.new.rows.bindings book.entries c.seat_all.new.book.entries
    c.seat_all.result c.if-not-seat_all.true c.seat_all.ensures.taken) one

pub seat_all-requires-2 : goal.seat_all-requires-2
seat_all-requires-2 c =
    let rows = c.args.rows in
    let book = c.args.book in
    let everybody = λ (h : Holder). true in
    let stored = c.requires.stored in
    let empty = c.requires.empty in
    let first = c.seat_all.new.rows.bindings in
    let mid = c.seat_all.new.book in
    let seats =
    are_seated InProgress everybody rows.runs rows.bindings first book.entries mid.entries c.seat_all.result c.if-not-seat_all.false
    c.seat_all.ensures.taken in
    let kept = subst (λ (rs : List RunState). HasSeats InProgress rs first mid) c.seat_all.ensures.runs c.seat_all.ensures.seats in
    record {
      seats = subst (λ (rs : List RunState). HasSeats Pending rs first mid) (sym c.seat_all.ensures.runs)
          (seats_then rows book stored empty first mid seats kept);
      keys = subst (λ (rs : List RunState). HaveKeys Pending everybody rs first) (sym c.seat_all.ensures.runs)
          (keys_then rows book stored empty first mid seats kept);
    }

pub returns-then-not-seat_all-2-clause-of : goal.returns-then-not-seat_all-2-clause-of
returns-then-not-seat_all-2-clause-of c =
    let rows = c.args.rows in
    let book = c.args.book in
    let everybody = λ (h : Holder). true in
    let stored = c.requires.stored in
    let empty = c.requires.empty in
    let first = c.seat_all.new.rows.bindings in
    let mid = c.seat_all.new.book in
    let seats =
    are_seated InProgress everybody rows.runs rows.bindings first book.entries mid.entries c.seat_all.result c.if-not-seat_all.false
    c.seat_all.ensures.taken in
    let kept = subst (λ (rs : List RunState). HasSeats InProgress rs first mid) c.seat_all.ensures.runs c.seat_all.ensures.seats in
    let now = c.seat_all-2.new.rows.bindings in
    let new = c.seat_all-2.new.book in
    let said =
    said_of Pending everybody everybody rows.runs c.seat_all.new.rows.runs first now mid.entries new.entries c.seat_all-2.result refl
    c.seat_all.ensures.runs c.seat_all-2.ensures.taken in
    λ one.
    two_pending rows book stored empty first mid seats kept
    (one_is_taken Pending everybody rows.runs first now mid.entries new.entries c.seat_all-2.result c.if-not-seat_all-2.true said) one

pub invariant_of-result : goal.invariant_of-result
invariant_of-result c =
    let rows = c.args.rows in
    let book = c.args.book in
    let everybody = λ (h : Holder). true in
    let stored = c.requires.stored in
    let empty = c.requires.empty in
    let first = c.seat_all.new.rows.bindings in
    let mid = c.seat_all.new.book in
    let seats =
    are_seated InProgress everybody rows.runs rows.bindings first book.entries mid.entries c.seat_all.result c.if-not-seat_all.false
    c.seat_all.ensures.taken in
    let kept = subst (λ (rs : List RunState). HasSeats InProgress rs first mid) c.seat_all.ensures.runs c.seat_all.ensures.seats in
    let now = c.seat_all-2.new.rows.bindings in
    let new = c.seat_all-2.new.book in
    let said =
    said_of Pending everybody everybody rows.runs c.seat_all.new.rows.runs first now mid.entries new.entries c.seat_all-2.result refl
    c.seat_all.ensures.runs c.seat_all-2.ensures.taken in
    let later = are_seated Pending everybody rows.runs first now mid.entries new.entries c.seat_all-2.result c.if-not-seat_all-2.false said in
    let same = c.seat_all-2.ensures.runs ∙ c.seat_all.ensures.runs in
    let still = subst (λ (rs : List RunState). HasSeats Pending rs now new) same c.seat_all-2.ensures.seats in
    let inside = c.rows.inside.runs in
    let as_many = ap (λ (r : RowState). length r.runs) c.rows.view_is ∙ ap (λ (rs : List RunState). length rs) same in
    let many : c.len.result ≡ length rows.runs = omega (arith, c.len.ensures, as_many, inside.ok.0, inside.ok.1) in
    let due : AreMarked (is_due rows.runs) rows.runs c.in_ok-due.due = all_are_due rows.runs c.len.result c.in_ok-due.due many
    c.in_ok-due.ensures.covers c.in_ok-due.ensures.marks in (
      subst (λ (rs : List RunState). GroupsAreKept rs now new) (sym same)
          (all_kept rows book stored empty first mid seats kept now new later still),
      subst (λ (rs : List RunState). AreMarked (is_due rs) rs c.in_ok-due.due) (sym same) due,
    )

pub returns-clause-of : goal.returns-clause-of
returns-clause-of c =
    let rows = c.args.rows in
    let book = c.args.book in
    let everybody = λ (h : Holder). true in
    let stored = c.requires.stored in
    let empty = c.requires.empty in
    let first = c.seat_all.new.rows.bindings in
    let mid = c.seat_all.new.book in
    let seats =
    are_seated InProgress everybody rows.runs rows.bindings first book.entries mid.entries c.seat_all.result c.if-not-seat_all.false
    c.seat_all.ensures.taken in
    let kept = subst (λ (rs : List RunState). HasSeats InProgress rs first mid) c.seat_all.ensures.runs c.seat_all.ensures.seats in
    let now = c.seat_all-2.new.rows.bindings in
    let new = c.seat_all-2.new.book in
    let said =
    said_of Pending everybody everybody rows.runs c.seat_all.new.rows.runs first now mid.entries new.entries c.seat_all-2.result refl
    c.seat_all.ensures.runs c.seat_all-2.ensures.taken in
    let later = are_seated Pending everybody rows.runs first now mid.entries new.entries c.seat_all-2.result c.if-not-seat_all-2.false said in
    let same = c.seat_all-2.ensures.runs ∙ c.seat_all.ensures.runs in
    let still = subst (λ (rs : List RunState). HasSeats Pending rs now new) same c.seat_all-2.ensures.seats in
    (same, one_each_seated rows.runs new.entries (all_exact rows book stored empty first mid seats kept now new later still))
