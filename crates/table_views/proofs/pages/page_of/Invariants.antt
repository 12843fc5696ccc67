use Rattle.std.proofs.Common.{◌≡◌, ℕ, ◌<◌}
use Rattle.table_views.specs.Pages.{rows_from, weight_from}
use Rattle.table_views.proofs.pages.page_of.Given as goal

-- the rows at the indices so far, whose weight was not enough before the last of them
abbrev pub invariant-loop-count : goal.invariant-loop-count
invariant-loop-count g l = record {
  rows : l.rows.items ≡ rows_from (g.S.Source.rows l.source) l.from l.count;
  weight : l.weight ≡ weight_from (g.S.Source.weigh l.source) l.from l.count;
  unfilled : (k : ℕ) → k < l.count → weight_from (g.S.Source.weigh l.source) l.from k < l.full;
}
