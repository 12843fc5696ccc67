use Rattle.std.proofs.Common.{◌≡◌, ◌≤◌, length, take}
use Rattle.std.specs.Hash as fed
use Rattle.std.specs.List.{flat_map, fold}
use Rattle.label_lists.proofs.label_list.hash_labels.Given as goal

abbrev pub invariant-loop-i : goal.invariant-loop-i
invariant-loop-i g l = (l.i ≤ length l.labels) × (l.state ≡ fold g.H.Hasher.write l.initial.state (flat_map fed.str (take l.i l.labels)))
