-- The rounds of a service whose sessions have ended.
use Rattle.std.specs.Prelude.{◌≡◌, ℕ, ◌+◌, ◌-◌, Bool, true, false, List, [], ◌∷◌, ◌++◌, length, Option}
use Rattle.std.specs.Io.KnownBytes.{Appends}
use Rattle.std.specs.List.{All}
use Rattle.std.specs.declared.net.tcp.TcpListener.{TcpListener}
use Rattle.act_desk.specs.Settled.{HaveEnded, IsSettled, NoneBroken}
use Rattle.act_sessions.specs.declared.transcript.Transcript.{Transcript}
use Rattle.table_model.specs.TableState.{TableState}
use Rattle.act_store.specs.Entries.{table_after}
use Rattle.act_store.specs.declared.entry.Entry.{Entry}
use Rattle.service_startup.specs.Reports.{service_lines}
use Rattle.service_rounds.specs.Connections.{Alternate, IsHeard}
use Rattle.service_rounds.specs.declared.connection.Connection.{Connection}

-- These sessions have ended, each with input in its port's protocol or without a stream, and the history is what they
-- asked. `broken` is true exactly if a stream failed or could not be accepted.
pub record AreHeld (connections : List Connection) (broken : Bool) (history : List Entry) : Type 0 where
  pub transcripts : List Transcript
  pub ended : HaveEnded IsHeard connections transcripts
  pub settled : IsSettled transcripts history
  pub good : broken ≡ false → NoneBroken transcripts
  pub bad : broken ≡ true → NoneBroken transcripts → ⊥

-- a round with `sessions` sessions on each port
pub record IsRound (hooks runners : TcpListener) (sessions : ℕ) (broken : Bool) (history : List Entry) : Type 0 where
  pub connections : List Connection
  pub count : length connections ≡ sessions + sessions
  pub alternate : Alternate hooks runners connections
  pub held : AreHeld connections broken history

abbrev pub AreGood : TcpListener → TcpListener → ℕ → List (List Entry) → Type 0
AreGood hooks runners sessions histories = All (IsRound hooks runners sessions false) histories

-- the table after these histories, the first of which begins at the given table, and each other one at the table where the one before ended
abbrev pub table_after_all : TableState → List (List Entry) → TableState
table_after_all base [] = base
table_after_all base (history ∷ histories) = table_after_all (table_after base history) histories

-- So many rounds of a service that was given this table have ended, the last one with this history, which begins at `base`. A line is
-- written for each. If `broken` is false, no stream failed in any of them.
pub record RoundsEnded (hooks runners : TcpListener) (sessions rounds : ℕ) (broken : Bool) (old new : Option (List ℕ)) (given base : TableState)
    (history : List Entry) : Type 0 where
  pub before : List (List Entry)
  pub count : length before + 1 ≡ rounds
  pub begins : base ≡ table_after_all given before
  pub announced : Appends old new (service_lines (before ++ history ∷ []))
  pub good : broken ≡ false → AreGood hooks runners sessions (before ++ history ∷ [])

-- All rounds of a service that was given this table have ended, at least one, the last one with this history, which begins at `base`, the
-- table after the histories of all other rounds. A line is written for each, and no stream failed in any of them.
pub record HasServed (hooks runners : TcpListener) (sessions rounds : ℕ) (old new : Option (List ℕ)) (given base : TableState)
    (history : List Entry) : Type 0 where
  pub before : List (List Entry)
  pub count : length before ≡ rounds - 1
  pub begins : base ≡ table_after_all given before
  pub announced : Appends old new (service_lines (before ++ history ∷ []))
  pub good : AreGood hooks runners sessions (before ++ history ∷ [])
