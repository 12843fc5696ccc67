use Rattle.std.specs.Prelude.{◌≡◌, ◌≤◌, ℕ, take, length}
use Rattle.act_sessions.specs.Exchange.{exchanges_in}
use Rattle.act_desk.specs.Settled.{entries_of}
use Rattle.act_desk.proofs.settle.skip.Given as goal

abbrev pub invariant-loop-i : goal.invariant-loop-i
invariant-loop-i l = record {
  within : l.i ≤ length l.asked;
  none : (seat : ℕ) → entries_of seat (exchanges_in (take l.i l.asked)) ≡ entries_of seat (exchanges_in (take l.at l.asked));
}
