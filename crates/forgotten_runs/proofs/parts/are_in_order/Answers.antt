use Rattle.std.proofs.Common.{rules}
use Rattle.std.proofs.lemmas.Fn.{always_returns_same}
use Rattle.table_model.specs.Forgotten.{workflow_order}
use Rattle.forgotten_runs.proofs.Increasing.{below, increase_told}
use Rattle.forgotten_runs.proofs.parts.are_in_order.Goals as goal

pub returns : goal.returns
returns c =
    increase_told workflow_order c.args.counts.now c.is_sorted_by.result
    (c.is_sorted_by.ensures.cases (below workflow_order) (always_returns_same _ _ _ (λ a r g called. search rules)))
