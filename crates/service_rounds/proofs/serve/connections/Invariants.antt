use Rattle.std.specs.Prelude.{◌≡◌, ◌+◌, length}
use Rattle.service_rounds.specs.Connections.{Alternate}
use Rattle.service_rounds.proofs.serve.connections.Given as goal

-- two sessions in each step
abbrev pub invariant-loop : goal.invariant-loop
invariant-loop l = (length l.connections.items ≡ l.counter + l.counter) × Alternate l.hooks l.runners l.connections.items
