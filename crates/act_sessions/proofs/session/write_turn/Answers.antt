use Rattle.std.proofs.Common.{List, ℕ, refl, ap, subst}
use Rattle.act_sessions.specs.Exchange.{exchanges_in}
use Rattle.act_sessions.specs.Session.{moment}
use Rattle.act_sessions.specs.inner.Turns.{Says}
use Rattle.act_sessions.proofs.Turning.{turn_written, turn_starved}
use Rattle.act_sessions.proofs.session.write_turn.Goals as goal

pub returns-in-Some : goal.returns-in-Some
returns-in-Some g c =
    let asked = g.A.Answer.asked in
    let out = g.W.Write.contents c.args.writer.now in
    let mid = moment out (asked c.take_turn.new.answerer) c.take_turn.new.submitter in
    let new = moment (g.W.Write.contents c.say.new.writer) (asked c.take_turn.new.answerer) c.say.new.transcript in
    turn_written g.P.Protocol.rules asked c.args.count c.args.request.demand c.args.request.closes out c.args.transcript.now
    c.take_turn.new.submitter c.args.answerer.now c.take_turn.new.answerer new c.in-Some.text c.say.result c.in-Some.ensures
    (subst (λ (words : List ℕ). Says mid new words c.in-Some.text.last c.say.result) c.deref.ensures.value (c.say.ensures.written (asked c.take_turn.new.answerer)))
    refl (ap (λ v. exchanges_in v.items) c.say.ensures.asked)

pub returns-in-None : goal.returns-in-None
returns-in-None g c =
    turn_starved g.P.Protocol.rules g.A.Answer.asked c.args.count c.args.request.demand c.args.request.closes (g.W.Write.contents c.args.writer.now)
    c.args.transcript.now c.take_turn.new.submitter c.args.answerer.now c.take_turn.new.answerer c.in-None.ensures
