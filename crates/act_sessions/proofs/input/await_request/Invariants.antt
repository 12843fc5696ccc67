use Rattle.std.proofs.Common.{◌≡◌, ◌-◌, ◌≤◌, ◌++◌, List, ℕ, length}
use Rattle.std.specs.Io.KnownBytes.{Consumes}
use Rattle.act_sessions.proofs.input.await_request.Given as goal

-- what is held has grown by the bytes that were read
abbrev pub invariant-pieces : goal.invariant-pieces
invariant-pieces g l =
    (piece : List ℕ) × Consumes (g.R.Read.remaining l.initial.reader) (g.R.Read.remaining l.reader) piece
    × (l.held ≡ l.initial.held ++ piece) × (length l.held ≤ g.P.Protocol.rules.limit)

abbrev pub decreases-pieces : goal.decreases-pieces
decreases-pieces g l = g.P.Protocol.rules.limit - length l.held
