use Rattle.std.proofs.Common.{◌≡◌, take}
use Rattle.std.specs.Prelude.{[]}
use Rattle.table_runs.specs.inner.Seating.{AreStored}
use Rattle.table_runs.proofs.runs.of.rows_again.Given as goal

-- the runs before the index are added
abbrev pub invariant-loop-r : goal.invariant-loop-r
invariant-loop-r l = record {
  runs : l.rows.runs ≡ take l.r l.runs;
  stored : AreStored l.rows l.book;
  entries : l.book.entries ≡ [];
}
