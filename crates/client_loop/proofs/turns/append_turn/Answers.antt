use Rattle.std.proofs.Common.{List, subst}
use Rattle.act_sessions.specs.Exchange.{Exchange}
use Rattle.client_loop.specs.declared.author.Author.{Author}
use Rattle.client_loop.specs.inner.Turns.{TakesTurn}
use Rattle.client_loop.proofs.TurnsSoFar.{turn_appended}
use Rattle.client_loop.proofs.turns.append_turn.Goals as goal

pub returns : goal.returns
returns g c =
    let p = g.P.Protocol.rules in
    let author : Author = record { number = c.args.number; exchanges = c.replace.result } in
    let after = c.take_turn-text.new in
    subst
    (λ (l : List Exchange). TakesTurn p c.args.number c.args.count c.args.request (record { store = c.args.store.now; exchanges = l; out = c.args.out.now.items })
    (record { store = after.answerer; exchanges = after.submitter.exchanges; out = c.append.new.out.items }) c.append.result) c.replace.ensures.value
    (turn_appended p c.args.count c.args.request.demand c.args.request.closes author after.submitter c.args.store.now after.answerer c.args.out.now.items
    c.append.new.out.items c.take_turn-text.result c.append.result c.take_turn-text.ensures c.append.ensures)
