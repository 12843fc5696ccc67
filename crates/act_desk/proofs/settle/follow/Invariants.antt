use Rattle.std.specs.Prelude.{◌≡◌, ◌≤◌, ◌++◌, take, length, IfSome}
use Rattle.act_sessions.specs.Exchange.{exchanges_in}
use Rattle.act_store.specs.declared.entry.Entry.{Entry}
use Rattle.act_desk.specs.Settled.{IsOfLast, entries_of, if_any, part_of}
use Rattle.act_desk.proofs.settle.follow.Given as goal

abbrev pub invariant-loop-index : goal.invariant-loop-index
invariant-loop-index g l = record {
  within : l.found.asked ≤ length l.asked;
  part : part_of l.seat (take l.index l.store.history) ≡ entries_of l.seat (exchanges_in (take l.found.asked l.asked)) ++ if_any l.found.over;
  over : IfSome l.found.over (IsOfLast l.seat (exchanges_in l.asked));
  all : IfSome l.found.over (λ (e : Entry). l.found.asked ≡ length l.asked);
}
