use Rattle.std.proofs.Common.{◌≤◌, ℕ, List, length, ◌*◌}
use Rattle.std.specs.Io.KnownBytes.{Consumes}
use Rattle.service_rounds.proofs.closing.discard.Given as goal

-- each read takes at most a chunk
abbrev pub invariant-loop : goal.invariant-loop
invariant-loop g l =
    (thrown : List ℕ) × Consumes (g.R.Read.remaining l.initial.reader) (g.R.Read.remaining l.reader) thrown × (length thrown ≤ l.counter * 16_384)
