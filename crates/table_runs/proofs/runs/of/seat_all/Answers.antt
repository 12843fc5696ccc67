use Rattle.std.specs.Prelude.{◌≡◌, suc, ◌||◌, List, length, true, refl}
use Rattle.std.proofs.Common.{arith, ◌+◌, ap, rules, subst, sym, ◌∙◌}
use Rattle.table_model.specs.GroupLaw.{same_holder}
use Rattle.table_model.specs.Runs.{RunState}
use Rattle.table_model.specs.declared.holder.Holder.{Holder}
use Rattle.table_model.specs.declared.holder.Holder.TheVariants.{Run}
use Rattle.table_runs.specs.inner.RowsKept.{RowState}
use Rattle.table_runs.specs.inner.Seating.{HaveKeys, TakeSeats, legs_of_run, runs_below}
use Rattle.table_runs.proofs.Seating.{are_seated, one_is_taken, said_of}
use Rattle.table_runs.proofs.SeatSteps.{all_runs_seated, keys_still, leg_after_its_run, legs_taken, no_run_seated, run_itself, run_itself_taken, run_seated}
use Rattle.table_runs.proofs.SeatsInOrder.{run_is_another}
use Rattle.table_runs.proofs.runs.of.seat_all.Goals as goal

pub loop-r-init : goal.loop-r-init
loop-r-init c = (
  refl,
  c.requires.seats,
  no_run_seated c.args.slot c.args.rows.now.runs c.args.rows.now.bindings c.args.book.now.entries,
)

pub seat-requires-clause-seats : goal.seat-requires-clause-seats
seat-requires-clause-seats c = c.loop-r.invariant.1

pub seat-requires-clause-keys : goal.seat-requires-clause-keys
seat-requires-clause-keys c =
    let runs = c.args.rows.now.runs in
    let this = λ (h : Holder). same_holder h (Run c.loop-r.r) in
    subst (λ (rs : List RunState). HaveKeys c.args.slot this rs c.loop-r.rows.bindings) (sym c.loop-r.invariant.0)
    (keys_still c.args.slot runs (λ h. true) (runs_below c.loop-r.r) this c.args.rows.now.bindings c.loop-r.rows.bindings
    c.args.book.now.entries c.loop-r.book.entries c.requires.keys c.loop-r.invariant.2 (λ h e. refl)
    (λ h e. run_is_another c.loop-r.r h (ap (λ b. b || legs_of_run c.loop-r.r h) e)))

pub seat_jobs-requires-clause-seats : goal.seat_jobs-requires-clause-seats
seat_jobs-requires-clause-seats c = c.seat.ensures.seats

pub seat_jobs-requires-clause-keys : goal.seat_jobs-requires-clause-keys
seat_jobs-requires-clause-keys c =
    let runs = c.args.rows.now.runs in
    let r = c.loop-r.r in
    let this = λ (h : Holder). same_holder h (Run r) in
    let was = c.args.rows.now.bindings in
    let half = c.loop-r.rows.bindings in
    let third = c.seat.new.rows.bindings in
    let old = c.args.book.now.entries in
    let mid = c.loop-r.book.entries in
    let later = c.seat.new.book.entries in
    let said = said_of c.args.slot this this runs c.loop-r.rows.runs half third mid later c.seat.result refl c.loop-r.invariant.0 c.seat.ensures.taken in
    let one = are_seated c.args.slot this runs half third mid later c.seat.result c.if-not-seat.false said in
    subst (λ (rs : List RunState). HaveKeys c.args.slot (legs_of_run r) rs third) (sym (c.seat.ensures.runs ∙ c.loop-r.invariant.0))
    (keys_still c.args.slot runs (λ h. true) (λ h. runs_below r h || same_holder h (Run r)) (legs_of_run r) was third old later c.requires.keys
    (run_itself c.args.slot runs r was half third old mid later c.loop-r.invariant.2 one) (λ h e. refl) (leg_after_its_run r))

pub loop-r-preserved : goal.loop-r-preserved
loop-r-preserved c =
    let step : suc c.loop-r.r ≡ c.loop-r.r + 1 = omega arith in
    let runs = c.args.rows.now.runs in
    let r = c.loop-r.r in
    let this = λ (h : Holder). same_holder h (Run r) in
    let was = c.args.rows.now.bindings in
    let half = c.loop-r.rows.bindings in
    let third = c.seat.new.rows.bindings in
    let now = c.seat_jobs.new.rows.bindings in
    let old = c.args.book.now.entries in
    let mid = c.loop-r.book.entries in
    let later = c.seat.new.book.entries in
    let new = c.seat_jobs.new.book.entries in
    let said = said_of c.args.slot this this runs c.loop-r.rows.runs half third mid later c.seat.result refl c.loop-r.invariant.0 c.seat.ensures.taken in
    let one = are_seated c.args.slot this runs half third mid later c.seat.result c.if-not-seat.false said in
    let legs_said =
    said_of c.args.slot (legs_of_run r) (legs_of_run r) runs c.seat.new.rows.runs third now later new c.seat_jobs.result refl
    (c.seat.ensures.runs ∙ c.loop-r.invariant.0) c.seat_jobs.ensures.taken in
    let legs = are_seated c.args.slot (legs_of_run r) runs third now later new c.seat_jobs.result c.if-not-seat_jobs.false legs_said in (
      c.seat_jobs.ensures.runs ∙ c.seat.ensures.runs ∙ c.loop-r.invariant.0,
      c.seat_jobs.ensures.seats,
      subst (λ n. TakeSeats c.args.slot (runs_below n) runs was now old new) step
          (run_seated c.args.slot runs r was half third old mid later c.loop-r.invariant.2 now new one legs),
    )

pub returns-then-not-seat-clause-taken : goal.returns-then-not-seat-clause-taken
returns-then-not-seat-clause-taken c =
    let runs = c.args.rows.now.runs in
    let r = c.loop-r.r in
    let this = λ (h : Holder). same_holder h (Run r) in
    let was = c.args.rows.now.bindings in
    let half = c.loop-r.rows.bindings in
    let third = c.seat.new.rows.bindings in
    let old = c.args.book.now.entries in
    let mid = c.loop-r.book.entries in
    let later = c.seat.new.book.entries in
    let said = said_of c.args.slot this this runs c.loop-r.rows.runs half third mid later c.seat.result refl c.loop-r.invariant.0 c.seat.ensures.taken in
    run_itself_taken c.args.slot runs r was half third old mid later c.loop-r.invariant.2
    (one_is_taken c.args.slot this runs half third mid later c.seat.result c.if-not-seat.true said)

pub returns-then-not-seat_jobs-clause-taken : goal.returns-then-not-seat_jobs-clause-taken
returns-then-not-seat_jobs-clause-taken c =
    let runs = c.args.rows.now.runs in
    let r = c.loop-r.r in
    let this = λ (h : Holder). same_holder h (Run r) in
    let was = c.args.rows.now.bindings in
    let half = c.loop-r.rows.bindings in
    let third = c.seat.new.rows.bindings in
    let now = c.seat_jobs.new.rows.bindings in
    let old = c.args.book.now.entries in
    let mid = c.loop-r.book.entries in
    let later = c.seat.new.book.entries in
    let new = c.seat_jobs.new.book.entries in
    let said = said_of c.args.slot this this runs c.loop-r.rows.runs half third mid later c.seat.result refl c.loop-r.invariant.0 c.seat.ensures.taken in
    let one = are_seated c.args.slot this runs half third mid later c.seat.result c.if-not-seat.false said in
    let legs_said =
    said_of c.args.slot (legs_of_run r) (legs_of_run r) runs c.seat.new.rows.runs third now later new c.seat_jobs.result refl
    (c.seat.ensures.runs ∙ c.loop-r.invariant.0) c.seat_jobs.ensures.taken in
    legs_taken c.args.slot runs r was half third old mid later c.loop-r.invariant.2 now new one
    (one_is_taken c.args.slot (legs_of_run r) runs third now later new c.seat_jobs.result c.if-not-seat_jobs.true legs_said)

pub returns-clause-taken : goal.returns-clause-taken
returns-clause-taken c =
    let e : c.loop-r.r ≡ c.len-r-end.result = omega arith in
    let many : c.len-r-end.result ≡ length c.rows.inside.runs.items = search rules in
    let now = c.loop-r.rows.bindings in
    let new = c.loop-r.book.entries in
    all_runs_seated c.args.slot c.args.rows.now.runs c.args.rows.now.bindings now now c.args.book.now.entries new new c.loop-r.r
    (e ∙ many ∙ ap (λ (w : RowState). length w.runs) c.rows.view_is) c.loop-r.invariant.2
