use Rattle.std.proofs.Common.{◌≡◌, ◌<◌, drop, take}
use Rattle.service_views.specs.Keeping.{Notes}
use Rattle.service_views.proofs.kept.Kept.note_new.Given as goal

-- the entries so far
abbrev pub invariant-loop-index : goal.invariant-loop-index
invariant-loop-index g l = record {
  notes : Notes (drop l.fn.self.changes.taken (take l.index l.store.history)) l.now l.fn.self l.self;
  -- where there is nothing new
  stays : l.store.covered < l.fn.self.changes.taken → l.index ≡ l.fn.self.changes.taken;
}
