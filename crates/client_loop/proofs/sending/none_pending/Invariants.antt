use Rattle.std.proofs.Common.{◌≡◌, drop}
use Rattle.client_loop.specs.Entering.{part_of}
use Rattle.client_loop.proofs.sending.none_pending.Given as goal

abbrev pub invariant-loop-position : goal.invariant-loop-position
invariant-loop-position g l =
    part_of l.number (drop l.store.covered l.store.history) ≡ part_of l.number (drop l.position l.store.history)
