use Rattle.std.proofs.Common.{ap, arith}
use Rattle.std.specs.Prelude.{List, length}
use Rattle.table_model.specs.Runs.{RunState}
use Rattle.table_runs.specs.inner.RowsKept.{RowState}
use Rattle.table_runs.proofs.Indexed.{found_run, found_within}
use Rattle.table_runs.proofs.rows.Rows.position.Goals as goal

pub returns : goal.returns
returns c =
    let items = c.self.inside.runs.items in
    let runs_are = ap (λ (rows : RowState). rows.runs) c.self.view_is in
    let found = found_run items c.args.self.now.runs c.self.inside.index.deliveries.indexes c.args.delivery.now c.index_of.result runs_are
    c.self.invariant.0.found c.index_of.ensures in
    let few = c.self.invariant.0.few in
    let all = ap (λ (runs : List RunState). length runs) runs_are in
    record { found = found; most = found_within c.args.self.now.runs c.args.delivery.now _ c.index_of.result found (omega (arith, few, all)) }
