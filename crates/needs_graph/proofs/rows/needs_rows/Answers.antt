use Rattle.std.proofs.Common.{◌≡◌, ◌∙◌, ap, sym, arith}
use Rattle.wf_value.proofs.PassedOn.{passed_on}
use Rattle.needs_graph.specs.inner.Rows.{needs_row_of}
use Rattle.needs_graph.proofs.RowSteps.{rows_refused}
use Rattle.needs_graph.proofs.rows.needs_rows.Goals as goal

pub returns-in_err-needs_row : goal.returns-in_err-needs_row
returns-in_err-needs_row c =
    let jobs = c.args.jobs.now in
    let same : c.in_ok-lookup.lookup ≡ jobs = cc (c.in_ok-lookup.ensures) in
    passed_on _ _ _ _ c.in_err-needs_row.field-0.0 c.from_residual-in_err-needs_row.ensures.1 c.in_err-needs_row.ensures
    (λ refused.
    let here = ap (λ js. needs_row_of js c.needs.result.now) (sym same) ∙ refused in
    rows_refused jobs c.loop-job.job-index c.job-item.result _ (omega arith) c.job-item.is (ap (needs_row_of jobs) (sym c.needs.ensures)
    ∙ here))
