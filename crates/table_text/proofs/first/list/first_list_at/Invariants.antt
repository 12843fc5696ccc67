use Rattle.std.proofs.Common.{◌≡◌, ◌-◌}
use Rattle.command_encodings.specs.inner.Reading.{items_at, with_prefix}
use Rattle.table_text.proofs.first.list.first_list_at.Given as goal

-- the values so far and the remaining ones make up all
abbrev pub invariant-loop : goal.invariant-loop
invariant-loop g l =
    with_prefix l.values.items (items_at g.T.ReadFirstAt.first_prefix_at (l.count - l.counter) l.rest) ≡ items_at g.T.ReadFirstAt.first_prefix_at l.count l.bytes
