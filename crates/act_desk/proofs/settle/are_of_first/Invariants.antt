use Rattle.std.specs.Prelude.{◌<◌, All, take}
use Rattle.act_store.specs.declared.entry.Entry.{Entry}
use Rattle.act_desk.proofs.settle.are_of_first.Given as goal

abbrev pub invariant-loop-index : goal.invariant-loop-index
invariant-loop-index g l = All (λ (e : Entry). e.seat < l.seats) (take l.index l.store.history)
