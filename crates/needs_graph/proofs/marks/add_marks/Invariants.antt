use Rattle.std.proofs.Common.{◌≡◌, take}
use Rattle.needs_graph.specs.inner.JobBitmap.{either}
use Rattle.needs_graph.proofs.marks.add_marks.Given as goal

-- the first marks of the second set are added
abbrev pub invariant-loop-i : goal.invariant-loop-i
invariant-loop-i l = l.marks ≡ either l.initial.marks (take l.i l.others)
