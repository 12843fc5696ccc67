use Rattle.std.proofs.Common.{◌≡◌, take}
use Rattle.wf_value.proofs.try_copy.copy_items.Given as goal

-- the values so far are copied
abbrev pub invariant-loop-item : goal.invariant-loop-item
invariant-loop-item g l = l.copies.items ≡ take l.item-index l.items
