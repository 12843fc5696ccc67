use Rattle.std.proofs.Common.{◌≡◌, ℕ, ◌++◌, drop, map, take}
use Rattle.std.specs.List.{flat_map}
use Rattle.std.specs.Prelude.{slice_get}
use Rattle.table_model.specs.Runs.{RunState, placed}
use Rattle.covered_log.specs.Lines.{entries_of, with_all}
use Rattle.covered_log.specs.Standings.{news_of, told_of}
use Rattle.covered_log.proofs.log.CoveredLog.look_at_all.Given as goal

-- what was told of the runs so far, and how they stand by that; the others stand as they did
abbrev pub invariant-loop-r : goal.invariant-loop-r
invariant-loop-r l = record {
  news : l.self.changes
      ≡ with_all l.fn.self.changes (flat_map
      (λ (x : ℕ × RunState). news_of l.look.at l.look.cancelled.now l.look.names.now l.look.table.now (slice_get l.fn.standings x.0) x.0 x.1) (placed (take l.r l.runs)));
  told : l.standings
      ≡ map (λ (x : ℕ × RunState). told_of l.look.names.now l.look.table.now (slice_get l.fn.standings x.0) x.0 x.1) (placed (take l.r l.runs))
      ++ drop l.r l.fn.standings;
  entries : entries_of l.self.changes ≡ entries_of l.fn.self.changes;
}
