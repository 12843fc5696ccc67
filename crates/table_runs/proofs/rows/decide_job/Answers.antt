use Rattle.std.specs.Prelude.{◌≡◌, ◌≤◌, None, length, slice_get}
use Rattle.std.proofs.Common.{List, ap, arith}
use Rattle.std.proofs.lemmas.Option.{slice_get_past}
use Rattle.table_bindings.specs.declared.bindings.JobBindings.{JobBindings}
use Rattle.table_runs.proofs.Begun.{undecided_stays}
use Rattle.table_runs.proofs.rows.decide_job.Goals as goal

pub returns-in-None-clause-decided : goal.returns-in-None-clause-decided
returns-in-None-clause-decided c =
    let jobs = c.args.bindings.now.jobs in
    let past : length jobs ≤ c.args.j =
    omega (arith, c.in-None.ensures.lookup.3, ap (λ (js : List JobBindings). length js) c.as_slice.ensures) in
    let none : slice_get jobs c.args.j ≡ None = slice_get_past jobs c.args.j past in
    undecided_stays c.args.j c.args.run.now c.args.bindings.now c.requires none
