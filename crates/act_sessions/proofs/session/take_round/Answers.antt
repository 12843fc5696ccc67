use Rattle.std.proofs.Common.{Ok, Err}
use Rattle.std.specs.Prelude.{Some, None}
use Rattle.std.proofs.lemmas.Result.{err_from_is_err_and}
use Rattle.act_sessions.specs.inner.Hearing.{Awaits}
use Rattle.act_sessions.specs.Session.{moment}
use Rattle.act_sessions.specs.inner.Turns.{TakesTurn}
use Rattle.act_sessions.proofs.Rounds.{round_heard, round_failed, round_at_end, round_waiting}
use Rattle.act_sessions.proofs.session.take_round.Goals as goal

pub returns-in_err-request : goal.returns-in_err-request
returns-in_err-request g c from input begin goes =
    let p = g.P.Protocol.rules in
    let i1 = g.R.Read.remaining c.args.reader.now in
    let i2 = g.R.Read.remaining c.await_request.new.reader in
    let mid = moment (g.W.Write.contents c.args.writer.now) (g.A.Answer.asked c.args.answerer.now) c.args.transcript.now in
    let is = err_from_is_err_and c.from_residual.result c.from_residual.ensures.1 in
    let e = c.in_err-request.field-0.0 in
    let heard : Awaits p i1 i2 c.args.held.now c.await_request.new.held (Err e) = c.in_err-request.ensures in
    rw (is.1, is.2) (round_waiting p g.met.P.Protocol.steady from input i1 i2 begin mid c.args.held.now c.args.count c.await_request.new.held e goes heard)

pub returns-in_err-last-in-Some : goal.returns-in_err-last-in-Some
returns-in_err-last-in-Some g c from input begin goes =
    let p = g.P.Protocol.rules in
    let i1 = g.R.Read.remaining c.args.reader.now in
    let i2 = g.R.Read.remaining c.await_request.new.reader in
    let mid = moment (g.W.Write.contents c.args.writer.now) (g.A.Answer.asked c.args.answerer.now) c.args.transcript.now in
    let new = moment (g.W.Write.contents c.write_turn.new.writer) (g.A.Answer.asked c.write_turn.new.answerer) c.write_turn.new.transcript in
    let is = err_from_is_err_and c.from_residual-in_err-last-in-Some.result c.from_residual-in_err-last-in-Some.ensures.1 in
    let heard : Awaits p i1 i2 c.args.held.now c.await_request.new.held (Ok (Some c.in-Some.request)) = rw c.in-Some.is at c.in_ok-request.ensures in
    let e = c.in_err-last-in-Some.field-0.0 in
    let took : TakesTurn p c.args.count c.in-Some.request mid new (Err e) = c.in_err-last-in-Some.ensures in
    rw (is.1, is.2) (round_failed p g.met.P.Protocol.steady from input i1 i2 begin mid new c.args.held.now c.args.count c.await_request.new.held c.in-Some.request e goes heard took)

pub returns-in_ok-last-in-Some : goal.returns-in_ok-last-in-Some
returns-in_ok-last-in-Some g c from input begin goes =
    let p = g.P.Protocol.rules in
    let i1 = g.R.Read.remaining c.args.reader.now in
    let i2 = g.R.Read.remaining c.await_request.new.reader in
    let mid = moment (g.W.Write.contents c.args.writer.now) (g.A.Answer.asked c.args.answerer.now) c.args.transcript.now in
    let new = moment (g.W.Write.contents c.write_turn.new.writer) (g.A.Answer.asked c.write_turn.new.answerer) c.write_turn.new.transcript in
    let heard : Awaits p i1 i2 c.args.held.now c.await_request.new.held (Ok (Some c.in-Some.request)) = rw c.in-Some.is at c.in_ok-request.ensures in
    let took : TakesTurn p c.args.count c.in-Some.request mid new (Ok c.in_ok-last-in-Some.last) = c.in_ok-last-in-Some.ensures in
    round_heard p g.met.P.Protocol.steady from input i1 i2 begin mid new c.args.held.now c.args.count c.await_request.new.held c.in-Some.request c.in_ok-last-in-Some.last goes heard took

pub returns-in-None : goal.returns-in-None
returns-in-None g c from input begin goes =
    let p = g.P.Protocol.rules in
    let i1 = g.R.Read.remaining c.args.reader.now in
    let i2 = g.R.Read.remaining c.await_request.new.reader in
    let mid = moment (g.W.Write.contents c.args.writer.now) (g.A.Answer.asked c.args.answerer.now) c.args.transcript.now in
    let heard : Awaits p i1 i2 c.args.held.now c.await_request.new.held (Ok None) = rw c.in-None.is at c.in_ok-request.ensures in
    round_at_end p g.met.P.Protocol.steady from input i1 i2 begin mid c.args.held.now c.args.count c.await_request.new.held goes heard
