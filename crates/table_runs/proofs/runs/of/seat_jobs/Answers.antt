use Rattle.std.specs.Prelude.{◌≡◌, suc, List, refl}
use Rattle.std.proofs.Common.{arith, ◌+◌, subst, sym, ◌∙◌}
use Rattle.table_model.specs.Runs.{RunState}
use Rattle.table_runs.specs.inner.Seating.{HaveKeys, TakeSeats, in_job, jobs_below, legs_of_run}
use Rattle.table_runs.proofs.Seating.{are_seated, one_is_taken, said_of}
use Rattle.table_runs.proofs.SeatSteps.{all_jobs_seated, job_of_its_run, job_seated, job_taken, keys_still, no_job_seated}
use Rattle.table_runs.proofs.SeatsInOrder.{job_is_another}
use Rattle.table_runs.proofs.runs.of.seat_jobs.Goals as goal

pub loop-j-init : goal.loop-j-init
loop-j-init c = (
  refl,
  c.requires.seats,
  no_job_seated c.args.slot c.args.rows.now.runs c.args.r c.args.rows.now.bindings c.args.book.now.entries,
)

pub seat_legs-requires-clause-seats : goal.seat_legs-requires-clause-seats
seat_legs-requires-clause-seats c = c.loop-j.invariant.1

pub seat_legs-requires-clause-keys : goal.seat_legs-requires-clause-keys
seat_legs-requires-clause-keys c =
    let runs = c.args.rows.now.runs in
    let now = c.loop-j.rows.bindings in
    subst (λ (rs : List RunState). HaveKeys c.args.slot (in_job c.args.r c.loop-j.j) rs now) (sym c.loop-j.invariant.0)
    (keys_still c.args.slot runs (legs_of_run c.args.r) (jobs_below c.args.r c.loop-j.j) (in_job c.args.r c.loop-j.j) c.args.rows.now.bindings now
    c.args.book.now.entries c.loop-j.book.entries c.requires.keys c.loop-j.invariant.2 (job_of_its_run c.args.r c.loop-j.j)
    (job_is_another c.args.r c.loop-j.j))

pub loop-j-preserved : goal.loop-j-preserved
loop-j-preserved c =
    let step : suc c.loop-j.j ≡ c.loop-j.j + 1 = omega arith in
    let runs = c.args.rows.now.runs in
    let these = in_job c.args.r c.loop-j.j in
    let said =
    said_of c.args.slot these these runs c.loop-j.rows.runs c.loop-j.rows.bindings c.seat_legs.new.rows.bindings c.loop-j.book.entries
    c.seat_legs.new.book.entries c.seat_legs.result refl c.loop-j.invariant.0 c.seat_legs.ensures.taken in (
      c.seat_legs.ensures.runs ∙ c.loop-j.invariant.0,
      c.seat_legs.ensures.seats,
      subst (λ n. TakeSeats c.args.slot (jobs_below c.args.r n) runs c.args.rows.now.bindings c.seat_legs.new.rows.bindings
          c.args.book.now.entries c.seat_legs.new.book.entries) step
          (job_seated c.args.slot runs c.args.rows.now.bindings c.loop-j.rows.bindings c.seat_legs.new.rows.bindings c.args.book.now.entries
          c.loop-j.book.entries c.seat_legs.new.book.entries c.args.r c.loop-j.j c.loop-j.invariant.2
          (are_seated c.args.slot these runs c.loop-j.rows.bindings c.seat_legs.new.rows.bindings c.loop-j.book.entries
          c.seat_legs.new.book.entries c.seat_legs.result c.if-not-seat_legs.false said)),
    )

pub returns-then-not-seat_legs-clause-taken : goal.returns-then-not-seat_legs-clause-taken
returns-then-not-seat_legs-clause-taken c =
    let runs = c.args.rows.now.runs in
    let these = in_job c.args.r c.loop-j.j in
    let said =
    said_of c.args.slot these these runs c.loop-j.rows.runs c.loop-j.rows.bindings c.seat_legs.new.rows.bindings c.loop-j.book.entries
    c.seat_legs.new.book.entries c.seat_legs.result refl c.loop-j.invariant.0 c.seat_legs.ensures.taken in
    job_taken c.args.slot runs c.args.rows.now.bindings c.loop-j.rows.bindings c.seat_legs.new.rows.bindings c.args.book.now.entries
    c.loop-j.book.entries c.seat_legs.new.book.entries c.args.r c.loop-j.j c.loop-j.invariant.2
    (one_is_taken c.args.slot these runs c.loop-j.rows.bindings c.seat_legs.new.rows.bindings c.loop-j.book.entries
    c.seat_legs.new.book.entries c.seat_legs.result c.if-not-seat_legs.true said)

pub returns-clause-taken : goal.returns-clause-taken
returns-clause-taken c =
    let e : c.loop-j.j ≡ c.job_count-j-end.result = omega arith in
    all_jobs_seated c.args.slot c.args.rows.now.runs c.args.rows.now.bindings c.loop-j.rows.bindings c.loop-j.rows.bindings
    c.args.book.now.entries c.loop-j.book.entries c.loop-j.book.entries c.args.r c.loop-j.j (e ∙ c.job_count-j-end.ensures) c.loop-j.invariant.2
