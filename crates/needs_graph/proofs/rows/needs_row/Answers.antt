use Rattle.std.proofs.Common.{◌∙◌, ◌<◌, length, ap, refl, set, true, inr, arith}
use Rattle.needs_graph.proofs.RowSteps.{row_none, row_more, known_more, unknown_at}
use Rattle.needs_graph.proofs.rows.needs_row.Goals as goal

pub loop-id-init : goal.loop-id-init
loop-id-init c = (let none = row_none c.args.jobs.now in cc (c.in_ok-row.ensures), refl)

pub returns-in-None : goal.returns-in-None
returns-in-None c = inr
    (unknown_at c.args.jobs.now c.args.ids.now c.loop-id.id-index c.id-item.result (omega arith) c.id-item.is c.in-None.ensures)

pub loop-id-preserved : goal.loop-id-preserved
loop-id-preserved c =
    let index = c.in-Some.index in
    let jobs = c.args.jobs.now in
    let ids = c.args.ids.now in
    let at = c.loop-id.id-index in
    let below : at < length ids = omega arith in
    let held = c.in-Some.ensures in (
      c.insert.ensures
          ∙ (ap (λ row. set row index true) c.loop-id.invariant.0
          ∙ row_more jobs c.requires ids at index c.id-item.result below c.id-item.is held.0 held.1),
      known_more jobs ids at index c.id-item.result below c.id-item.is held.0 held.1 c.loop-id.invariant.1,
    )
