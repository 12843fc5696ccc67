use Rattle.std.specs.Prelude.{◌≢◌, ◌<◌, ℕ, get_or}
use Rattle.act_sessions.specs.declared.transcript.Ending.TheVariants.{Broken}
use Rattle.act_sessions.specs.declared.transcript.Transcript.{Transcript}
use Rattle.act_desk.proofs.settle.any_broken.Given as goal

abbrev pub invariant-loop-transcript : goal.invariant-loop-transcript
invariant-loop-transcript l = (k : ℕ) (t : Transcript) → k < l.transcript-index → (get_or l.transcripts k t).ending ≢ Broken
