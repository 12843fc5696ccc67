use Rattle.std.proofs.Common.{◌≡◌, ◌++◌, ℕ, List, drop}
use Rattle.std.specs.Io.KnownBytes.{Appends}
use Rattle.program_commands.specs.Check.{leg_lines}
use Rattle.program_commands.proofs.Checks.{numbered_lines}
use Rattle.program_commands.proofs.check.write_legs.Given as goal

-- the lines so far come before those of the remaining legs
abbrev pub invariant-loop-number : goal.invariant-loop-number
invariant-loop-number g l =
    (out : List ℕ) × Appends (g.W.Write.contents l.initial.writer) (g.W.Write.contents l.writer) out
    × (out ++ numbered_lines l.job l.number (drop l.number l.legs) ≡ leg_lines l.job l.legs)
