use Rattle.std.proofs.Common.{◌≡◌, ◌<◌, drop, map, take}
use Rattle.covered_log.specs.Lines.{with_all}
use Rattle.service_views.specs.Following.{entered}
use Rattle.service_views.specs.GivenLeases.{NotesOf}
use Rattle.service_views.proofs.changes.Changes.enter_new.Given as goal

-- the entries so far
abbrev pub invariant-loop-index : goal.invariant-loop-index
invariant-loop-index g l = record {
  told : l.self.log.changes ≡ with_all l.fn.self.log.changes (map (entered l.at) (drop l.fn.self.taken (take l.index l.store.history)));
  leases : NotesOf (drop l.fn.self.taken (take l.index l.store.history)) l.fn.self.leases l.self.leases;
  standings : l.self.standings ≡ l.fn.self.standings;
  taken : l.self.taken ≡ l.fn.self.taken;
  -- where there is nothing new
  stays : l.store.covered < l.fn.self.taken → l.index ≡ l.fn.self.taken;
}
