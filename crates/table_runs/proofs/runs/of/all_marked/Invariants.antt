use Rattle.std.proofs.Common.{◌≡◌, ℕ}
use Rattle.std.specs.Prelude.{◌<◌, true}
use Rattle.run_marks.specs.Marked.{Covers, is_marked}
use Rattle.table_runs.proofs.runs.of.all_marked.Given as goal

-- the runs before the index are marked
abbrev pub invariant-loop-r : goal.invariant-loop-r
invariant-loop-r l = Covers l.marks l.count × ((i : ℕ) → i < l.r → is_marked l.marks i ≡ true)
