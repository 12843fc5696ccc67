use Rattle.std.proofs.Common.{ℕ, List, length}
use Rattle.std.specs.Io.KnownBytes.{Appends}
use Rattle.program_commands.specs.PlainStore.{without_disk}
use Rattle.program_commands.proofs.Plays.{Leads}
use Rattle.program_commands.proofs.play.play.Given as goal

abbrev pub invariant-loop-line : goal.invariant-loop-line
invariant-loop-line g l =
    (out : List ℕ) × Appends (g.W.Write.contents l.initial.writer) (g.W.Write.contents l.writer) out
    × Leads (without_disk l.fn.store) (g.D.Disk.fault_count l.fn.store.disk) l.script (without_disk l.store) (g.D.Disk.fault_count l.store.disk) l.rest out

abbrev pub decreases-loop-line : goal.decreases-loop-line
decreases-loop-line g l = length l.rest
