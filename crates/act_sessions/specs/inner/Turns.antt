-- What one turn does, and the state of a session between turns.
use Rattle.std.specs.Prelude.{◌≡◌, ◌⊎◌, ℕ, ◌+◌, Bool, true, false, List, ◌++◌, take, Option, Some, None, Result, Ok, Err}
use Rattle.act_sessions.specs.declared.request.Request.{Request}
use Rattle.act_sessions.specs.declared.transcript.Ending.{Ending}
use Rattle.act_sessions.specs.declared.transcript.Ending.TheVariants.{Done, Memory, Broken}
use Rattle.act_sessions.specs.declared.transcript.Part.TheVariants.{AwaitsInput, Over}
use Rattle.act_sessions.specs.declared.error.SessionError.{SessionError}
use Rattle.act_sessions.specs.declared.error.SessionError.TheVariants as error
use Rattle.act_sessions.specs.Rules.{Rules, Turn, request_of, exchanges_at, is_last, turn_text, texts}
use Rattle.act_sessions.specs.Session.{Moment, Position, first, Writes, Did, Goes, ArePassed, HasStopped, IsPart}
use Rattle.act_sessions.specs.Exchange.{AreAsked}

-- nothing was written
abbrev pub WritesNone : Moment → Moment → Type 0
WritesNone m n = (n.output ≡ m.output) × (n.count ≡ m.count)

-- the turn's command, if it has one, was submitted and recorded
abbrev pub SubmitsTurn : {F : Type 0} → Moment → Moment → Turn F → Type 0
SubmitsTurn m n t = AreAsked m.asked n.asked (exchanges_at t) × (n.listed ≡ m.listed ++ exchanges_at t)

-- no command was submitted
abbrev pub SubmitsNone : Moment → Moment → Type 0
SubmitsNone m n = (n.asked ≡ m.asked) × (n.listed ≡ m.listed)

-- A turn after n others, for a request. It was the last or not; or the session ran out of memory before or after its command was
-- submitted; or a write failed.
abbrev pub TakesTurn : {F : Type 0} → Rules F → ℕ → Request F → Moment → Moment → Result Bool SessionError → Type 0
TakesTurn {F} p n r old new (Ok last) =
    (t : Turn F) × (request_of t ≡ r) × (is_last p n t ≡ last) × SubmitsTurn old new t × Writes old new (turn_text p last t)
TakesTurn {F} p n r old new (Err error.Memory) =
    WritesNone old new × (SubmitsNone old new ⊎ ((t : Turn F) × (request_of t ≡ r) × SubmitsTurn old new t))
TakesTurn {F} p n r old new (Err error.Broken) =
    (t : Turn F) × (request_of t ≡ r) × SubmitsTurn old new t × (k : ℕ) × Writes old new (take k (turn_text p (is_last p n t) t))

-- A text was written whole, or a prefix of it.
abbrev pub Says : Moment → Moment → List ℕ → Bool → Result Bool SessionError → Type 0
Says old new text last (Ok l) = (l ≡ last) × Writes old new text
Says old new text last (Err error.Memory) = ⊥
Says old new text last (Err error.Broken) = (k : ℕ) × Writes old new (take k text)

-- What aborting a session does, and its ending. After running out of memory it writes the protocol's response, or a prefix of it, or
-- nothing if there is none. Otherwise it writes nothing.
abbrev pub Aborts : {F : Type 0} → Rules F → SessionError → Moment → Moment → Ending → Type 0
Aborts p error.Memory old new Done = (text : List ℕ) × (p.out_of_memory_response ≡ Some text) × Writes old new text × (new.listed ≡ old.listed)
Aborts p error.Memory old new Memory = (p.out_of_memory_response ≡ None) × WritesNone old new × (new.listed ≡ old.listed)
Aborts p error.Memory old new Broken =
    (text : List ℕ) × (p.out_of_memory_response ≡ Some text) × (k : ℕ) × Writes old new (take k text) × (new.listed ≡ old.listed)
Aborts p error.Broken old new Done = ⊥
Aborts p error.Broken old new Memory = ⊥
Aborts p error.Broken old new Broken = WritesNone old new × (new.listed ≡ old.listed)

-- What was written, after n other turns, by a session that cannot continue: after running out of memory the texts of the passed turns,
-- after a failed read those of all turns, and after a failed write a prefix.
abbrev pub Stops : {F : Type 0} → Rules F → SessionError → ℕ → List (Turn F) → List ℕ → List ℕ → Type 0
Stops {F} p error.Memory n turns rest out = (passed : List (Turn F)) × ArePassed p n turns passed × (out ≡ texts p n passed)
Stops p error.Broken n turns rest out = HasStopped p n Broken turns rest out

abbrev pub HasPaused : {F : Type 0} → Rules F → SessionError → Position → Option (List ℕ) → Option (List ℕ) → Moment → Moment → Type 0
HasPaused {F} p e from input input_new old new =
    (turns : List (Turn F)) × (rest : List ℕ) × (out : List ℕ) × Did p from input input_new old new turns rest out × Stops p e from.turns turns rest out

-- How one round ends, after n turns: the session is over, or it is between two turns, or it waits for more bytes, or it cannot continue.
abbrev pub EndsRound : {F : Type 0} → Rules F → Position → Option (List ℕ) → Option (List ℕ) → Moment → Moment → List ℕ → ℕ → Result (Option Bool) SessionError → Type 0
EndsRound p from input input_new old new buffer n (Ok (Some true)) = IsPart p from input input_new old new first (Over Done)
EndsRound p from input input_new old new buffer n (Ok (Some false)) = Goes p from input input_new old new (record { turns = n + 1; held = buffer })
EndsRound p from input input_new old new buffer n (Ok None) = IsPart p from input input_new old new (record { turns = n; held = buffer }) AwaitsInput
EndsRound p from input input_new old new buffer n (Err e) = HasPaused p e from input input_new old new
