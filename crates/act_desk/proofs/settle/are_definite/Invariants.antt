use Rattle.std.specs.Prelude.{◌≡◌, ◌<◌, ℕ, get_or, true}
use Rattle.act_sessions.specs.declared.transcript.LoggedExchange.{LoggedExchange}
use Rattle.act_desk.specs.Settled.{is_definite}
use Rattle.act_desk.proofs.settle.are_definite.Given as goal

abbrev pub invariant-loop-one : goal.invariant-loop-one
invariant-loop-one l = (k : ℕ) (one : LoggedExchange) → k < l.one-index → is_definite (get_or l.asked k one).answer ≡ true
