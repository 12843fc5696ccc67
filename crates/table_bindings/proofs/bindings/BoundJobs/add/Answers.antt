use Rattle.std.proofs.Common.{List, subst}
use Rattle.table_bindings.specs.GroupKeys.{AreLater}
use Rattle.table_bindings.specs.declared.groups.GroupRequest.{GroupRequest}
use Rattle.table_bindings.proofs.bindings.BoundJobs.add.Goals as goal

pub returns-clause-keys : goal.returns-clause-keys
returns-clause-keys c = (
  c.in_ok-keys.keys,
  c.in_ok-push-2.ensures.items,
  subst (λ (groups : List GroupRequest). AreLater groups c.in_ok-keys.keys) c.as_slice.ensures c.in_ok-keys.ensures.later,
)

pub returns-clause-lists : goal.returns-clause-lists
returns-clause-lists c = (c.in_ok-numbers.numbers, c.in_ok-push-3.ensures.items, c.in_ok-numbers.ensures.numbers)
