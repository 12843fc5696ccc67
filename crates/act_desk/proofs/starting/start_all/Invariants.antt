use Rattle.std.specs.Prelude.{◌≡◌, ◌+◌, ◌<◌, ◌≤◌, ℕ, get_or, vec_items, vec_len, vec_capacity}
use Rattle.std.specs.Vec.Iter.{into_iter_items, into_iter_len}
use Rattle.act_desk.proofs.starting.start_all.Given as goal

abbrev pub invariant-loop-work : goal.invariant-loop-work
invariant-loop-work g l =
    let rest = l.work-iterator in let done = vec_len l.running in record {
      number : done + into_iter_len rest ≡ vec_len l.fn.works;
      room : vec_len l.fn.works ≤ vec_capacity l.running;
      left : (k : ℕ) (w : _) → k < into_iter_len rest → get_or (into_iter_items rest) k w ≡ get_or (vec_items l.fn.works) (done + k) w;
      each : (i : ℕ) (r : _) (w : _) → i < done → get_or (vec_items l.running) i r ≡ get_or (vec_items l.fn.works) i w;
    }
