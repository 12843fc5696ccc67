use Rattle.std.specs.Prelude.{◌≡◌, suc, List, true, refl}
use Rattle.std.proofs.Common.{arith, ◌+◌, ap, subst, sym, ◌∙◌}
use Rattle.table_model.specs.GroupLaw.{same_holder}
use Rattle.table_model.specs.Runs.{RunState}
use Rattle.table_model.specs.declared.holder.Holder.{Holder}
use Rattle.table_model.specs.declared.holder.Holder.TheVariants.{Leg}
use Rattle.table_model.specs.declared.sites.LegSite.{LegSite}
use Rattle.table_runs.specs.inner.Seating.{HaveKeys, TakeSeats, in_job, legs_below}
use Rattle.table_runs.proofs.Seating.{are_seated, one_is_taken, said_of}
use Rattle.table_runs.proofs.SeatSteps.{all_legs_seated, keys_still, leg_in_its_job, leg_site, leg_seated, leg_taken, no_leg_seated}
use Rattle.table_runs.proofs.SeatsInOrder.{leg_is_another}
use Rattle.table_runs.proofs.runs.of.seat_legs.Goals as goal

pub loop-l-init : goal.loop-l-init
loop-l-init c = (
  refl,
  c.requires.seats,
  no_leg_seated c.args.slot c.args.rows.now.runs c.args.r c.args.j c.args.rows.now.bindings c.args.book.now.entries,
)

pub seat-requires-clause-seats : goal.seat-requires-clause-seats
seat-requires-clause-seats c = c.loop-l.invariant.1

pub seat-requires-clause-keys : goal.seat-requires-clause-keys
seat-requires-clause-keys c =
    let runs = c.args.rows.now.runs in
    let now = c.loop-l.rows.bindings in
    subst (λ (p : LegSite). HaveKeys c.args.slot (λ h. same_holder h (Leg p)) c.loop-l.rows.runs now) (sym c.new.ensures)
    (subst (λ (rs : List RunState). HaveKeys c.args.slot (λ h. same_holder h (Leg (leg_site c.args.r c.args.j c.loop-l.l))) rs now)
    (sym c.loop-l.invariant.0)
    (keys_still c.args.slot runs (in_job c.args.r c.args.j) (legs_below c.args.r c.args.j c.loop-l.l)
    (λ h. same_holder h (Leg (leg_site c.args.r c.args.j c.loop-l.l))) c.args.rows.now.bindings now c.args.book.now.entries
    c.loop-l.book.entries c.requires.keys c.loop-l.invariant.2
    (leg_in_its_job c.args.r c.args.j c.loop-l.l)
    (leg_is_another c.args.r c.args.j c.loop-l.l)))

pub loop-l-preserved : goal.loop-l-preserved
loop-l-preserved c =
    let step : suc c.loop-l.l ≡ c.loop-l.l + 1 = omega arith in
    let runs = c.args.rows.now.runs in
    let this = λ (h : Holder). same_holder h (Leg (leg_site c.args.r c.args.j c.loop-l.l)) in
    let said =
    said_of c.args.slot (λ h. same_holder h (Leg c.new.result)) this runs c.loop-l.rows.runs c.loop-l.rows.bindings c.seat.new.rows.bindings
    c.loop-l.book.entries c.seat.new.book.entries c.seat.result (ap (λ (p : LegSite). λ (h : Holder). same_holder h (Leg p)) c.new.ensures)
    c.loop-l.invariant.0 c.seat.ensures.taken in (
      c.seat.ensures.runs ∙ c.loop-l.invariant.0,
      c.seat.ensures.seats,
      subst (λ n. TakeSeats c.args.slot (legs_below c.args.r c.args.j n) runs c.args.rows.now.bindings c.seat.new.rows.bindings
          c.args.book.now.entries c.seat.new.book.entries) step
          (leg_seated c.args.slot runs c.args.rows.now.bindings c.loop-l.rows.bindings c.seat.new.rows.bindings c.args.book.now.entries
          c.loop-l.book.entries c.seat.new.book.entries c.args.r c.args.j c.loop-l.l c.loop-l.invariant.2
          (are_seated c.args.slot this runs c.loop-l.rows.bindings c.seat.new.rows.bindings c.loop-l.book.entries c.seat.new.book.entries
          c.seat.result c.if-not-seat.false said)),
    )

pub returns-then-not-seat-clause-taken : goal.returns-then-not-seat-clause-taken
returns-then-not-seat-clause-taken c =
    let runs = c.args.rows.now.runs in
    let this = λ (h : Holder). same_holder h (Leg (leg_site c.args.r c.args.j c.loop-l.l)) in
    let said =
    said_of c.args.slot (λ h. same_holder h (Leg c.new.result)) this runs c.loop-l.rows.runs c.loop-l.rows.bindings c.seat.new.rows.bindings
    c.loop-l.book.entries c.seat.new.book.entries c.seat.result (ap (λ (p : LegSite). λ (h : Holder). same_holder h (Leg p)) c.new.ensures)
    c.loop-l.invariant.0 c.seat.ensures.taken in
    leg_taken c.args.slot runs c.args.rows.now.bindings c.loop-l.rows.bindings c.seat.new.rows.bindings c.args.book.now.entries
    c.loop-l.book.entries c.seat.new.book.entries c.args.r c.args.j c.loop-l.l c.loop-l.invariant.2
    (one_is_taken c.args.slot this runs c.loop-l.rows.bindings c.seat.new.rows.bindings c.loop-l.book.entries c.seat.new.book.entries
    c.seat.result c.if-not-seat.true said)

pub returns-clause-taken : goal.returns-clause-taken
returns-clause-taken c =
    let e : c.loop-l.l ≡ c.leg_count-l-end.result = omega arith in
    all_legs_seated c.args.slot c.args.rows.now.runs c.args.rows.now.bindings c.loop-l.rows.bindings c.loop-l.rows.bindings
    c.args.book.now.entries c.loop-l.book.entries c.loop-l.book.entries c.args.r c.args.j c.loop-l.l (e ∙ c.leg_count-l-end.ensures) c.loop-l.invariant.2
