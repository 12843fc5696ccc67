use Rattle.std.proofs.Common.{◌≡◌, take}
use Rattle.label_lists.proofs.known_lists.copies_of.Given as goal

abbrev pub invariant-loop-runs : goal.invariant-loop-runs
invariant-loop-runs l = l.copies.items ≡ take l.runs-index l.requesting
