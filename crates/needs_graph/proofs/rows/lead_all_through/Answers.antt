use Rattle.std.proofs.Common.{◌<◌, ◌∙◌, length, ap, set, sym, arith}
use Rattle.std.proofs.lemmas.List.Edits.{map_over_more}
use Rattle.needs_graph.specs.inner.JobBitmap.{through}
use Rattle.needs_graph.proofs.rows.lead_all_through.Goals as goal

pub loop-row-preserved : goal.loop-row-preserved
loop-row-preserved c =
    let at = c.loop-row.row-index in
    let before = c.args.rows.now in
    let below : at < length before = omega arith in
    ap (λ row. set c.loop-row.rows at row) (c.lead_through.ensures ∙ ap (through c.args.job c.args.others.now) (sym c.row-item.is))
    ∙ map_over_more (through c.args.job c.args.others.now) before c.loop-row.rows at c.row-item.result below c.loop-row.invariant
    c.row-item.is
