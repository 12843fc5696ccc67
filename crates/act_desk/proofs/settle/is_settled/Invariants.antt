use Rattle.std.specs.Prelude.{◌<◌, ℕ, get_or, take}
use mathlib.Core.List.{IsPrefix}
use Rattle.act_sessions.specs.Exchange.{exchanges_by}
use Rattle.act_sessions.specs.declared.transcript.Transcript.{Transcript}
use Rattle.act_desk.specs.Settled.{Agrees, entries_of, part_of}
use Rattle.act_desk.proofs.settle.is_settled.Given as goal

abbrev pub invariant-loop-k : goal.invariant-loop-k
invariant-loop-k g l = record {
  agree : (i : ℕ) (t : Transcript) → i < l.k → Agrees i (exchanges_by (get_or l.transcripts i t)) l.store.history;
  covers : (i : ℕ) (t : Transcript) → i < l.k
      → IsPrefix (entries_of i (exchanges_by (get_or l.transcripts i t))) (part_of i (take l.covered l.store.history));
}
