use Rattle.std.proofs.Common.{◌≡◌, None}
use Rattle.std.specs.Prelude.{IfSome}
use Rattle.act_store.specs.Checkpoints.{left_of, refusal_of_begin}
use Rattle.service_startup.proofs.Upgrading.{IsOfWhole}
use Rattle.service_startup.proofs.upgrade.make_checkpoint.Given as goal

-- the history, its base and the layout are unchanged, `left` bytes of a checkpoint of the whole store remain, and a disk that is honest was so before
abbrev pub invariant-loop-left : goal.invariant-loop-left
invariant-loop-left g l = record {
  history : l.store.history ≡ l.fn.store.history;
  base : l.store.base ≡ l.fn.store.base;
  layout : l.store.layout ≡ l.fn.store.layout;
  left : l.left ≡ left_of l.store.begun;
  whole : IfSome l.store.begun (IsOfWhole l.store);
  allowed : refusal_of_begin l.fn.store ≡ None;
  honest : g.D.Disk.honest l.store.disk → g.D.Disk.honest l.fn.store.disk;
}

abbrev pub decreases-loop-left : goal.decreases-loop-left
decreases-loop-left g l = l.left
