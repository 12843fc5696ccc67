use Rattle.std.proofs.Common.{◌≡◌, ◌<◌, drop, take}
use Rattle.service_views.specs.Following.{cancelled_in}
use Rattle.service_views.proofs.changes.cancelled_since.Given as goal

-- those of the entries so far
abbrev pub invariant-loop-index : goal.invariant-loop-index
invariant-loop-index g l = record {
  runs : l.runs.items ≡ cancelled_in (drop l.taken (take l.index l.store.history));
  -- where there is nothing new
  stays : l.store.covered < l.taken → l.index ≡ l.taken;
}
