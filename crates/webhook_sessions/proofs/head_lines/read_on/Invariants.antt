use Rattle.std.proofs.Common.{◌-◌, length}
use Rattle.webhook_sessions.specs.inner.HeadLines.{AreUnfinishedLines}
use Rattle.webhook_sessions.proofs.head_lines.read_on.Given as goal

-- so many lines were read, and the head is incomplete
abbrev pub invariant-lines : goal.invariant-lines
invariant-lines l = AreUnfinishedLines l.bytes l.known

abbrev pub decreases-lines : goal.decreases-lines
decreases-lines l = length l.bytes - l.known.read
