use Rattle.std.proofs.Common.{◌≡◌, take}
use Rattle.covered_log.specs.Lines.{entries_of, with_all}
use Rattle.covered_log.specs.Standings.{of_legs}
use Rattle.covered_log.proofs.log.CoveredLog.tell_legs.Given as goal

-- the legs so far
abbrev pub invariant-loop-news : goal.invariant-loop-news
invariant-loop-news l = record {
  told : l.self.changes ≡ with_all l.fn.self.changes (of_legs l.at (take l.news-index l.legs));
  entries : entries_of l.self.changes ≡ entries_of l.fn.self.changes;
}
