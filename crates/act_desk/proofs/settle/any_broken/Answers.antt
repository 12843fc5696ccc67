use Rattle.std.proofs.Common.{◌∙◌, ap, sym}
use Rattle.act_sessions.specs.declared.transcript.Transcript.{Transcript}
use Rattle.act_desk.proofs.settle.any_broken.Goals as goal

pub returns-then-is_broken-clause-some : goal.returns-then-is_broken-clause-some
returns-then-is_broken-clause-some c =
    λ yes none. none c.loop-transcript.transcript-index c.transcript-item.result c.loop-transcript-test.true
    (ap (λ (t : Transcript). t.ending) (sym c.transcript-item.is) ∙ c.is_broken.ensures.broken c.if-is_broken.true)
