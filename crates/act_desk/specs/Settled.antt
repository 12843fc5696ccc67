-- What the sessions submitted, compared with the history of the store.
use Rattle.std.specs.Prelude.{◌≡◌, ◌≢◌, ◌⊎◌, ◌==◌, ◌||◌, ◌<◌, ℕ, Bool, true, List, [], ◌∷◌, ◌++◌, filter, flat_map, length, get_or, Ok, Err, ⊤, Option, Some, None, IfSome, All}
use mathlib.Core.List.{IsPrefix}
use Rattle.wf_value.specs.declared.code.Code.{Code}
use Rattle.wf_value.specs.declared.code.Code.TheVariants.{HistoryFull, AreaFull, OldLayout}
use Rattle.act_sessions.specs.declared.transcript.Ending.TheVariants.{Broken, Memory}
use Rattle.act_sessions.specs.declared.transcript.Transcript.{Transcript}
use Rattle.act_sessions.specs.Exchange.{Response, Exchange, leaves_open, exchanges_by, is_one_of}
use Rattle.act_store.specs.declared.entry.Entry.{Entry}

-- the entries of a seat
abbrev pub part_of : ℕ → List Entry → List Entry
part_of seat history = filter (λ (e : Entry). e.seat == seat) history

-- a command that got a reply is in the history with that reply
abbrev pub entries_of_one : ℕ → Exchange → List Entry
entries_of_one seat (command, Ok reply) = record { seat = seat; command = command; reply = reply } ∷ []
entries_of_one seat (command, Err refusal) = []

abbrev pub entries_of : ℕ → List Exchange → List Entry
entries_of seat exchanges = flat_map (entries_of_one seat) exchanges

-- these answers say that the command was not entered: a full history, a full area, and an area of an earlier layout
abbrev pub unentered_codes : List Code
unentered_codes = HistoryFull ∷ AreaFull ∷ OldLayout ∷ []

-- An answer that settles whether its command was entered. A reply says that it was.
abbrev pub is_definite : Response → Bool
is_definite (Ok reply) = true
is_definite (Err refusal) = is_one_of unentered_codes refusal

-- Each answer settles whether its command was entered. Only the last one may leave it unknown, as 50, 51, 52 and 60 do.
abbrev pub AreDefinite : List Exchange → Type 0
AreDefinite [] = ⊤
AreDefinite (t ∷ []) = (is_definite t.1 || leaves_open t.1) ≡ true
AreDefinite (t ∷ u ∷ exchanges) = (is_definite t.1 ≡ true) × AreDefinite (u ∷ exchanges)

-- the entry of the last command submitted, if its answer leaves it unknown whether there is one
pub record IsOfLast (seat : ℕ) (exchanges : List Exchange) (entry : Entry) : Type 0 where
  pub prefix : List Exchange
  pub last : Exchange
  pub last_is : exchanges ≡ prefix ++ last ∷ []
  pub open_is : leaves_open last.1 ≡ true
  pub command_is : entry.command ≡ last.0
  pub seat_is : entry.seat ≡ seat

abbrev pub if_any : Option Entry → List Entry
if_any None = []
if_any (Some entry) = entry ∷ []

-- The seat's part of the history is the commands that got a reply, in order, each once, with the replies. At its end there may also be the
-- last command, if its answer leaves that unknown. The only other answers were 46, 47 and 57.
pub record Agrees (seat : ℕ) (exchanges : List Exchange) (history : List Entry) : Type 0 where
  pub answered : AreDefinite exchanges
  pub over : Option Entry
  pub part_is : part_of seat history ≡ entries_of seat exchanges ++ if_any over
  pub of_last : IfSome over (IsOfLast seat exchanges)

-- The entries may be the first ones of the seat's part: of the commands that got a reply, and after all of these perhaps the last one.
pub record MayBegin (seat : ℕ) (exchanges : List Exchange) (part : List Entry) : Type 0 where
  pub over : Option Entry
  pub of_last : IfSome over (IsOfLast seat exchanges)
  pub begins : IsPrefix part (entries_of seat exchanges ++ if_any over)

-- how far a list of submitted commands was found: `asked` first ones, and perhaps the entry of the last one after them
pub record Progress : Type 0 where
  pub asked : ℕ
  pub over : Option Entry

-- Nothing was read or submitted: no thread could be started for the session.
pub record IsUnread (t : Transcript) : Type 0 where
  pub asked : t.asked.items ≡ []
  pub written : t.written ≡ 0
  pub ending : t.ending ≡ Memory

-- The session ended as its bytes say, or could not be started.
abbrev pub HasEnded : (Transcript → Type 0) → Transcript → Type 0
HasEnded ends t = ends t ⊎ IsUnread t

-- Each session has ended, in the order of the works.
pub record HaveEnded {W : Type 0} (ends : W → Transcript → Type 0) (works : List W) (transcripts : List Transcript) : Type 0 where
  pub len : length transcripts ≡ length works
  pub ended : (i : ℕ) (w : W) (t : Transcript) → i < length works → HasEnded (ends (get_or works i w)) (get_or transcripts i t)

-- The part of each seat is what the session of that number submitted, and the history has no other entries.
pub record IsSettled (transcripts : List Transcript) (history : List Entry) : Type 0 where
  pub agree : (i : ℕ) (t : Transcript) → i < length transcripts → Agrees i (exchanges_by (get_or transcripts i t)) history
  pub no_other : All (λ (e : Entry). e.seat < length transcripts) history

-- The commands that got a reply are among these entries, which are the covered ones: those of each seat are the first ones of its part.
abbrev pub AreCovered : List Transcript → List Entry → Type 0
AreCovered transcripts covered =
    (i : ℕ) (t : Transcript) → i < length transcripts → IsPrefix (entries_of i (exchanges_by (get_or transcripts i t))) (part_of i covered)

-- no session was ended by its reader or writer
abbrev pub NoneBroken : List Transcript → Type 0
NoneBroken transcripts = (k : ℕ) (t : Transcript) → k < length transcripts → (get_or transcripts k t).ending ≢ Broken
