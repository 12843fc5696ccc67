use Rattle.std.specs.Prelude.{◌≡◌, ◌+◌, ◌<◌, ◌≤◌, ℕ, get_or, vec_items, vec_len, vec_capacity}
use Rattle.std.specs.Vec.Iter.{into_iter_items, into_iter_len}
use Rattle.act_sessions.specs.declared.transcript.Transcript.{Transcript}
use Rattle.act_desk.specs.Settled.{HasEnded}
use Rattle.act_desk.proofs.starting.join_all.Given as goal

abbrev pub invariant-loop-session : goal.invariant-loop-session
invariant-loop-session g l =
    let rest = l.session-iterator in let done = vec_len l.transcripts in record {
      number : done + into_iter_len rest ≡ vec_len l.fn.running;
      room : vec_len l.fn.running ≤ vec_capacity l.transcripts;
      left : (k : ℕ) (r : _) → k < into_iter_len rest → get_or (into_iter_items rest) k r ≡ get_or (vec_items l.fn.running) (done + k) r;
      each : (i : ℕ) (r : _) (t : Transcript) → i < done → HasEnded (g.W.Work.ends (get_or (vec_items l.fn.running) i r)) (get_or (vec_items l.transcripts) i t);
    }
