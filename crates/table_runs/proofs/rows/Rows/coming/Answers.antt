use Rattle.std.proofs.Common.{◌≡◌, ◌<◌, ap, subst, sym, ◌∙◌, rules}
use Rattle.std.specs.Prelude.{length}
use Rattle.definitions.specs.SmallText.{Admitted}
use Rattle.table_runs.specs.inner.Counted.{number_among}
use Rattle.table_runs.specs.inner.RowsKept.{RowState}
use Rattle.table_runs.proofs.Counting.{few_counted, next_counted}
use Rattle.table_runs.proofs.rows.Rows.coming.Goals as goal

pub next-counted-requires : goal.next-counted-requires
next-counted-requires c =
    few_counted c.self.inside.runs.items c.self.inside.index.counts.counts c.self.invariant.0.counted c.in_ok-workflow.workflow _
    (subst (λ (rows : RowState). length rows.runs < 100000) (sym c.self.view_is) c.requires)

pub returns-clause-number : goal.returns-clause-number
returns-clause-number c =
    let items = c.self.inside.runs.items in
    let event = c.args.event.now in
    let is : c.new.result ≡ c.next-counted.result.number = search rules in
    let same : c.in_ok-workflow.workflow ≡ event = search rules in
    is
    ∙ next_counted items c.self.inside.index.counts.counts c.self.invariant.0.counted c.in_ok-workflow.workflow c.next-counted.result.number
    c.next-counted.ensures.number
    ∙ ap (λ (e : Admitted). number_among items e) same
    ∙ ap (λ (rows : RowState). number_among rows.runs event) c.self.view_is
