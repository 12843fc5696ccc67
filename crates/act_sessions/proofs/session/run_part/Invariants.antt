use Rattle.act_sessions.specs.Session.{moment, Goes}
use Rattle.act_sessions.proofs.Going.{at}
use Rattle.act_sessions.proofs.session.run_part.Given as goal

abbrev pub invariant-rounds : goal.invariant-rounds
invariant-rounds g l =
    Goes g.P.Protocol.rules (at l.initial.count l.initial.held) (g.R.Read.remaining l.initial.reader) (g.R.Read.remaining l.reader)
    (moment (g.W.Write.contents l.initial.writer) (g.A.Answer.asked l.initial.answerer) l.initial.transcript)
    (moment (g.W.Write.contents l.writer) (g.A.Answer.asked l.answerer) l.transcript) (at l.turns l.held)
