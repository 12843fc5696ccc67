use Rattle.std.proofs.Common.{◌≡◌, ℕ, ◌++◌, List}
use Rattle.std.specs.Io.KnownBytes.{Appends}
use Rattle.program_commands.specs.Show.{lines_of}
use Rattle.program_commands.proofs.Showing.{lines_after}
use Rattle.program_commands.proofs.show.write_views.Given as goal

abbrev pub invariant-loop-index : goal.invariant-loop-index
invariant-loop-index g l =
    (out : List ℕ) × Appends (g.W.Write.contents l.initial.writer) (g.W.Write.contents l.writer) out
    × (out ++ lines_after l.form l.runs l.index ≡ lines_of l.form l.runs)
