use Rattle.client_loop.specs.inner.Turns.{Goes}
use Rattle.client_loop.proofs.turns.take_turns.Given as goal

abbrev pub invariant-rounds : goal.invariant-rounds
invariant-rounds g l =
    Goes g.P.Protocol.rules l.initial.number l.initial.count l.initial.held
    (record { store = l.initial.store; exchanges = l.initial.exchanges; out = l.initial.out.items })
    (record { store = l.store; exchanges = l.exchanges; out = l.out.items }) l.turns l.held
