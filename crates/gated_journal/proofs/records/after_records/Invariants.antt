use Rattle.std.proofs.Common.{ℕ, List, length}
use Rattle.gated_journal.specs.Scanned.{Parts}
use Rattle.gated_journal.proofs.records.after_records.Given as goal

abbrev pub invariant-loop-body : goal.invariant-loop-body
invariant-loop-body l = (bodies : List (List ℕ)) × Parts l.bytes bodies l.rest

abbrev pub decreases-loop-body : goal.decreases-loop-body
decreases-loop-body l = length l.rest
