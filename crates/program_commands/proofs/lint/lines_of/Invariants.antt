use Rattle.std.proofs.Common.{◌≡◌, take}
use Rattle.std.specs.Prelude.{string_bytes}
use Rattle.workflow_lint.specs.Lines.{finding_lines}
use Rattle.program_commands.proofs.lint.lines_of.Given as goal

-- the lines of the faults so far
abbrev pub invariant-loop-finding : goal.invariant-loop-finding
invariant-loop-finding l = string_bytes l.text ≡ finding_lines (take l.finding-index l.found)
