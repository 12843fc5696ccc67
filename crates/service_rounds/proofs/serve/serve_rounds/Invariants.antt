use Rattle.std.proofs.Common.{◌≤◌, ◌+◌, ◌-◌}
use Rattle.service_rounds.specs.Rounds.{RoundsEnded}
use Rattle.service_rounds.proofs.serve.serve_rounds.Given as goal

-- so many rounds have ended
abbrev pub invariant-loop : goal.invariant-loop
invariant-loop g l =
    (l.counter ≤ l.rounds - 1 + 1)
    × RoundsEnded l.hooks l.runners l.sessions l.counter l.broken (g.O.Write.contents l.fn.out) (g.O.Write.contents l.out)
    l.fn.store.base l.round.store.base l.round.store.history
