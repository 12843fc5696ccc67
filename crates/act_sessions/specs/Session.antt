-- What a session has done, at some moment and at its end.
use Rattle.std.specs.Prelude.{◌≡◌, ◌⊎◌, ℕ, ◌+◌, ◌≤◌, ◌<◌, ◌-◌, ◌^◌, min, List, [], ◌∷◌, ◌++◌, length, take, Option, Some, None}
use Rattle.std.specs.Io.KnownBytes.{Consumes, Appends, IsAtEnd}
use Rattle.act_sessions.specs.declared.transcript.Ending.{Ending}
use Rattle.act_sessions.specs.declared.transcript.Ending.TheVariants.{Done, Memory, Broken}
use Rattle.act_sessions.specs.declared.transcript.Part.{Part}
use Rattle.act_sessions.specs.declared.transcript.Part.TheVariants.{AwaitsInput, Over}
use Rattle.act_sessions.specs.declared.transcript.Transcript.{Transcript}
use Rattle.act_sessions.specs.Rules.{Rules, Turn, Reads, is_last, IsOpen, IsEnded, turn_text, texts, exchanges_of}
use Rattle.act_sessions.specs.Exchange.{AreAsked, Exchange, exchanges_by}

-- the writer's contents, the number of bytes counted, the commands submitted to the answerer, and those that the transcript lists
pub record Moment : Type 0 where
  pub output : Option (List ℕ)
  pub count : ℕ
  pub asked : List Exchange
  pub listed : List Exchange

abbrev pub moment : Option (List ℕ) → List Exchange → Transcript → Moment
moment output asked t = record { output = output; count = t.written; asked = asked; listed = exchanges_by t }

-- before a session
abbrev pub start : Option (List ℕ) → List Exchange → Moment
start output asked = record { output = output; count = 0; asked = asked; listed = [] }

-- these bytes were written and counted
abbrev pub Writes : Moment → Moment → List ℕ → Type 0
Writes old new bytes = Appends old.output new.output bytes × (new.count ≡ min (old.count + length bytes) (2 ^ 64 - 1))

-- The state of a session between two turns: the number of turns so far, and the bytes that it holds, which are not yet a request.
pub record Position : Type 0 where
  pub turns : ℕ
  pub held : List ℕ

-- before a session
abbrev pub first : Position
first = record { turns = 0; held = [] }

-- What a session did from a place on. The bytes that it held and those it read are the requests of these turns and a rest within the
-- limit. The turns' commands were submitted in order, each once, and are listed with their answers. These bytes were written.
pub record Did {F : Type 0} (p : Rules F) (from : Position) (input input_new : Option (List ℕ)) (old new : Moment) (turns : List (Turn F)) (rest out : List ℕ) : Type 0 where
  pub read : List ℕ
  pub consumed : Consumes input input_new read
  pub reads : Reads p (from.held ++ read) turns rest
  pub held : length rest ≤ p.limit
  pub counted : from.turns + length turns ≤ p.most
  pub asked_all : AreAsked old.asked new.asked (exchanges_of turns)
  pub listed_all : new.listed ≡ old.listed ++ exchanges_of turns
  pub wrote_all : Writes old new out

-- A session between two turns, from one place to another: none of the turns is the last, and all were submitted and recorded.
pub record Goes {F : Type 0} (p : Rules F) (from : Position) (input input_new : Option (List ℕ)) (old new : Moment) (to : Position) : Type 0 where
  pub turns : List (Turn F)
  pub read : List ℕ
  pub consumed : Consumes input input_new read
  pub reads : Reads p (from.held ++ read) turns to.held
  pub held : length to.held ≤ p.limit
  pub unended : IsOpen p from.turns turns
  pub counted : from.turns + length turns ≡ to.turns
  pub room : to.turns < p.most
  pub asked_all : new.asked ≡ old.asked ++ exchanges_of turns
  pub listed_all : new.listed ≡ old.listed ++ exchanges_of turns
  pub wrote_all : Writes old new (texts p from.turns turns)

-- `passed` are all these turns, after n others, or all but the last, and none of them ended the session.
abbrev pub ArePassed : {F : Type 0} → Rules F → ℕ → List (Turn F) → List (Turn F) → Type 0
ArePassed {F} p n turns passed = IsOpen p n passed × ((turns ≡ passed) ⊎ ((t : Turn F) × (turns ≡ passed ++ t ∷ [])))

-- The session ran out of memory outside a command. The out-of-memory response follows the texts of the turns that were passed.
abbrev pub IsOutOfMemory : {F : Type 0} → Rules F → ℕ → List (Turn F) → List ℕ → Type 0
IsOutOfMemory {F} p n turns out =
    (passed : List (Turn F)) × ArePassed p n turns passed × (text : List ℕ) × (p.out_of_memory_response ≡ Some text) × (out ≡ texts p n passed ++ text)

-- A session is over by itself: the last of these turns, after n others, ended it, or it ran out of memory.
abbrev pub IsOver : {F : Type 0} → Rules F → ℕ → List (Turn F) → List ℕ → Type 0
IsOver p n turns out = (IsEnded p n turns × (out ≡ texts p n turns)) ⊎ IsOutOfMemory p n turns out

-- A session is complete: the last turn ended it, or the input ended before or inside a request, or it ran out of memory.
abbrev pub IsWhole : {F : Type 0} → Rules F → List (Turn F) → List ℕ → Option (List ℕ) → List ℕ → Type 0
IsWhole p turns rest input out =
    (IsEnded p 0 turns × (out ≡ texts p 0 turns))
    ⊎ ((IsOpen p 0 turns × p.waits rest × IsAtEnd input × (out ≡ texts p 0 turns)) ⊎ IsOutOfMemory p 0 turns out)

-- what is written after the passed turns: the text of the last turn, or the out-of-memory response
abbrev pub ComesNext : {F : Type 0} → Rules F → ℕ → List (Turn F) → List (Turn F) → List ℕ → Type 0
ComesNext {F} p n turns passed text =
    (p.out_of_memory_response ≡ Some text) ⊎ ((t : Turn F) × (turns ≡ passed ++ t ∷ []) × (text ≡ turn_text p (is_last p (n + length passed) t) t))

-- A read failed: the bytes read contain no whole request after those of the turns, and all their answers were written.
abbrev pub IsUnheard : {F : Type 0} → Rules F → ℕ → List (Turn F) → List ℕ → List ℕ → Type 0
IsUnheard p n turns rest out = IsOpen p n turns × p.waits rest × (out ≡ texts p n turns)

-- A write failed: the texts of the passed turns were written whole, then a prefix of what comes next.
abbrev pub IsPrefix : {F : Type 0} → Rules F → ℕ → List (Turn F) → List ℕ → Type 0
IsPrefix {F} p n turns out =
    (passed : List (Turn F)) × ArePassed p n turns passed × (text : List ℕ) × ComesNext p n turns passed text × (k : ℕ)
    × (out ≡ texts p n passed ++ take k text)

-- How a session stopped early, in these turns after n others: it ran out of memory, for which the protocol has no response, or a read or a
-- write failed.
abbrev pub HasStopped : {F : Type 0} → Rules F → ℕ → Ending → List (Turn F) → List ℕ → List ℕ → Type 0
HasStopped p n Done turns rest out = ⊥
HasStopped {F} p n Memory turns rest out = (p.out_of_memory_response ≡ None) × (passed : List (Turn F)) × ArePassed p n turns passed × (out ≡ texts p n passed)
HasStopped p n Broken turns rest out = IsUnheard p n turns rest out ⊎ IsPrefix p n turns out

-- a session that returned `Ok`
abbrev pub IsDone : {F : Type 0} → Rules F → Option (List ℕ) → Option (List ℕ) → Moment → Moment → Type 0
IsDone {F} p input input_new old new =
    (turns : List (Turn F)) × (rest : List ℕ) × (out : List ℕ) × Did p first input input_new old new turns rest out × IsWhole p turns rest input_new out

-- a session that ended with a fault
abbrev pub IsCut : {F : Type 0} → Rules F → Ending → Option (List ℕ) → Option (List ℕ) → Moment → Moment → Type 0
IsCut {F} p ending input input_new old new =
    (turns : List (Turn F)) × (rest : List ℕ) × (out : List ℕ) × Did p first input input_new old new turns rest out × HasStopped p 0 ending turns rest out

-- how a part of a session that is over came to its end
abbrev pub EndsSo : {F : Type 0} → Rules F → ℕ → Ending → List (Turn F) → List ℕ → List ℕ → Type 0
EndsSo p n Done turns rest out = IsOver p n turns out
EndsSo p n Memory turns rest out = HasStopped p n Memory turns rest out
EndsSo p n Broken turns rest out = HasStopped p n Broken turns rest out

-- A part of a session, from a place on. Either it is at another place, where it waits for more bytes than its input has. Or the session is
-- over: by its bytes, out of memory, or after a failed read or write.
abbrev pub IsPart : {F : Type 0} → Rules F → Position → Option (List ℕ) → Option (List ℕ) → Moment → Moment → Position → Part → Type 0
IsPart p from input input_new old new to AwaitsInput = Goes p from input input_new old new to × p.waits to.held × IsAtEnd input_new
IsPart {F} p from input input_new old new to (Over how) =
    (turns : List (Turn F)) × (rest : List ℕ) × (out : List ℕ) × Did p from input input_new old new turns rest out × EndsSo p from.turns how turns rest out
