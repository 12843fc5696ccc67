use Rattle.std.proofs.Common.{◌≡◌}
use Rattle.act_disk.proofs.file_calls.grow.Given as goal

abbrev pub invariant-loop : goal.invariant-loop
invariant-loop g l = g.F.SystemFile.calls l.file ≡ g.F.SystemFile.calls l.fn.file
