use Rattle.std.specs.Prelude.{Option}
use Rattle.act_sessions.specs.declared.transcript.Transcript.{Transcript}
use Rattle.act_sessions.specs.Exchange.{Response}
use Rattle.act_sessions.specs.Taking.{IsRecorded}
use Rattle.act_sessions.proofs.Taken.{command_taken}
use Rattle.act_sessions.proofs.Turning.{listed_with}
use Rattle.act_sessions.proofs.recording.TranscriptSubmit.submit.Goals as goal

pub returns : goal.returns
returns g c =
    let asked = g.A.Answer.asked in
    let answer = c.ask-answer.result in
    let new : Transcript = record c.make_ready.new.transcript { asked = c.push_reserved.new.self } in
    let listed = listed_with c.args.self.now.asked.items c.make_ready.new.transcript.asked.items c.push_reserved.new.self.items c.in_ok-copy.copy c.args.command answer
    c.push_reserved.ensures.items c.in_ok-copy.ensures.asked c.in_ok-copy.ensures.copy.0 in
    command_taken g.P.Protocol.rules c.args.count
    (λ (r : Option Response). IsRecorded asked c.args.self.now c.args.answerer.now c.args.command r new c.ask-answer.new.self) c.args.command c.args.closes answer
    c.text_of_answer-text.result ((c.ask-answer.ensures, listed), c.in_ok-copy.ensures.written) (c.text_of_answer-text.ensures c.args.command)
