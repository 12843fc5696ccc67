-- The sessions of a round, and the protocol of each port.
use Rattle.std.specs.Prelude.{◌≡◌, ◌⊎◌, List, [], ◌∷◌, ⊤}
use Rattle.std.specs.declared.net.tcp.TcpListener.{TcpListener}
use Rattle.act_sessions.specs.Ends.{EndsOverSome}
use Rattle.act_sessions.specs.declared.transcript.Ending.TheVariants.{Broken}
use Rattle.act_sessions.specs.declared.transcript.Transcript.{Transcript}
use Rattle.runner_sessions.specs.Line.{runner_rules}
use Rattle.webhook_sessions.specs.Hooks.{hooks}
use Rattle.service_rounds.specs.declared.connection.Connection.{Connection}
use Rattle.service_rounds.specs.declared.connection.Connection.TheVariants.{Hook, Runner}

-- no stream could be accepted: nothing was asked, and nothing was written
pub record IsUnaccepted (t : Transcript) : Type 0 where
  pub asked : t.asked.items ≡ []
  pub written : t.written ≡ 0
  pub ending : t.ending ≡ Broken

-- For some input, the transcript is that of a session of HTTP on one port, and of runner lines on the other; or no
-- stream came.
abbrev pub IsHeard : Connection → Transcript → Type 0
IsHeard (Hook listener) t = EndsOverSome hooks t ⊎ IsUnaccepted t
IsHeard (Runner listener) t = EndsOverSome runner_rules t ⊎ IsUnaccepted t

-- one session on each port alternately, that of HTTP first
abbrev pub Alternate : TcpListener → TcpListener → List Connection → Type 0
Alternate hook_port runner_port [] = ⊤
Alternate hook_port runner_port (Hook h ∷ []) = ⊥
Alternate hook_port runner_port (Hook h ∷ Hook more ∷ connections) = ⊥
Alternate hook_port runner_port (Hook h ∷ Runner r ∷ connections) =
    (h.now ≡ hook_port) × (r.now ≡ runner_port) × Alternate hook_port runner_port connections
Alternate hook_port runner_port (Runner r ∷ connections) = ⊥
