use Rattle.std.proofs.Common.{◌≡◌, map, take}
use Rattle.covered_log.specs.Standings.{standing_of}
use Rattle.covered_log.proofs.standings.ToldRuns.of.Given as goal

-- how the runs so far stand
abbrev pub invariant-loop-run : goal.invariant-loop-run
invariant-loop-run l = l.standings.items ≡ map standing_of (take l.run-index l.runs)
