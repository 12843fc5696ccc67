use Rattle.std.proofs.Common.{inl, inr}
use Rattle.act_desk.proofs.alone.AloneAnswer.ask.Goals as goal

pub returns-clause-survives : goal.returns-clause-survives
returns-clause-survives g c =
    elim c.twice-told.ensures.either [ inl same ↦ rw same c.submit-answer.ensures.survives | inr memory ↦ rw memory.0 tt ]
