-- How the transcript of a session ends, given the bytes that its reader holds.
use Rattle.std.specs.Prelude.{◌≡◌, ◌≢◌, ℕ, ◌-◌, ◌^◌, min, List, ◌++◌, length, Option, Some}
use Rattle.act_sessions.specs.declared.transcript.Ending.{Ending}
use Rattle.act_sessions.specs.declared.transcript.Ending.TheVariants.{Done, Memory, Broken}
use Rattle.act_sessions.specs.declared.transcript.Transcript.{Transcript}
use Rattle.act_sessions.specs.Rules.{Rules, Turn, Reads}
use Rattle.act_sessions.specs.Rules.{exchanges_of}
use Rattle.act_sessions.specs.Session.{moment, start, IsCut, IsDone, IsWhole, HasStopped}
use Rattle.act_sessions.specs.Exchange.{AreAsked, Exchange, exchanges_by}

-- With the ending `Done` the session was complete; otherwise it stopped early.
abbrev pub HasEnded : {F : Type 0} → Rules F → Ending → List (Turn F) → List ℕ → List ℕ → List ℕ → Type 0
HasEnded p Done turns rest unread out = IsWhole p turns rest (Some unread) out
HasEnded p Memory turns rest unread out = HasStopped p 0 Memory turns rest out
HasEnded p Broken turns rest unread out = HasStopped p 0 Broken turns rest out

-- A prefix of the bytes consists of the requests of some turns and a rest. The transcript lists the commands of these turns, each once and
-- in order, with their answers. It counts the bytes that were written for them.
abbrev pub EndsOver : {F : Type 0} → Rules F → List ℕ → Transcript → Type 0
EndsOver {F} p bytes t =
    (read : List ℕ) × (unread : List ℕ) × (turns : List (Turn F)) × (rest : List ℕ) × (out : List ℕ) × (bytes ≡ read ++ unread)
    × Reads p read turns rest × (exchanges_by t ≡ exchanges_of turns) × (t.written ≡ min (length out) (2 ^ 64 - 1)) × HasEnded p t.ending turns rest unread out

-- The same for every list of bytes that the reader is known to hold. Nothing is known of a socket.
abbrev pub Ends : {F : Type 0} → Rules F → Option (List ℕ) → Transcript → Type 0
Ends p input t = (bytes : List ℕ) → input ≡ Some bytes → EndsOver p bytes t

-- Some bytes have this transcript. So the session follows these rules, even if nothing is known of its reader.
abbrev pub EndsOverSome : {F : Type 0} → Rules F → Transcript → Type 0
EndsOverSome p t = (bytes : List ℕ) × EndsOver p bytes t

-- A session returned Ok: the reader, the writer and the answerer before and after. The session is complete. The transcript lists what was
-- submitted and counts what was written. The other two parts follow from the first: the second for an observer who knows only the reader's
-- bytes, the third for one who knows nothing of them.
abbrev pub HasFinished : {F : Type 0} → Rules F → Option (List ℕ) → Option (List ℕ) → Option (List ℕ) → Option (List ℕ) → List Exchange → List Exchange
    → Transcript → Type 0
HasFinished p input input_new output output_new asked asked_new t =
    IsDone p input input_new (start output asked) (moment output_new asked_new t)
    × ((t.ending ≡ Done) × Ends p input t × AreAsked asked asked_new (exchanges_by t))
    × EndsOverSome p t

-- A session ended with a fault: it ran out of memory, or a read or a write failed. A prefix of the texts was written.
abbrev pub HasFailed : {F : Type 0} → Rules F → Option (List ℕ) → Option (List ℕ) → Option (List ℕ) → Option (List ℕ) → List Exchange → List Exchange
    → Transcript → Type 0
HasFailed p input input_new output output_new asked asked_new t =
    IsCut p t.ending input input_new (start output asked) (moment output_new asked_new t)
    × ((t.ending ≢ Done) × Ends p input t × AreAsked asked asked_new (exchanges_by t))
    × EndsOverSome p t
