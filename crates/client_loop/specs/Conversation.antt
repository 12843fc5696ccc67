-- What one client sent, and how it was answered.
use Rattle.std.specs.Prelude.{◌≡◌, ◌≢◌, ◌⊎◌, ℕ, ◌+◌, ◌≤◌, ◌<◌, Bool, true, false, List, [], ◌∷◌, ◌++◌, length, take, Option, Some, None, Ok, Err, ⊤}
use Rattle.act_sessions.specs.Exchange.{Exchange}
use Rattle.act_sessions.specs.Rules.{Rules, Turn, Answered, Refused, Reads, IsEnded, IsOpen, exchanges_of, texts, turn_text}
use Rattle.act_sessions.specs.Session.{ArePassed}
use Rattle.act_store.specs.Plain.{failed_earlier}
use Rattle.definitions.specs.Limits.{max_withheld}

-- The bytes that were received from a client, its commands with their answers, the bytes of answers that were sent to it, and those that are
-- withheld.
pub record Conversation : Type 0 where
  pub received : List ℕ
  -- how many requests were answered, while the session goes on
  pub requests : ℕ
  pub exchanges : List Exchange
  pub sent : List ℕ
  pub withheld : List ℕ
  -- whether a turn ended before all whole requests were answered
  pub more : Bool
  -- whether the session is over
  pub over : Bool
  -- once the service has parted with the client after a device fault: what was sent to it as a farewell, in place of what was withheld
  pub parted : Option (List ℕ)

-- all bytes of its answers
abbrev pub answer_bytes : Conversation → List ℕ
answer_bytes c = c.sent ++ c.withheld

-- a client that has just come
abbrev pub no_conversation : Conversation
no_conversation = record { received = []; requests = 0; exchanges = []; sent = []; withheld = []; more = false; over = false; parted = None }

-- the last bytes of a session that ran out of memory outside a command
abbrev pub IsLastText : {F : Type 0} → Rules F → List ℕ → Type 0
IsLastText p last = (last ≡ []) ⊎ (p.out_of_memory_response ≡ Some last)

-- a turn that entered no command: it had none, or it was refused
abbrev pub EntersNothing : {F : Type 0} → Turn F → Type 0
EntersNothing (Answered command closes (Ok reply)) = ⊥
EntersNothing (Answered command closes (Err refusal)) = ⊤
EntersNothing (Refused fault closes) = ⊤

-- Every command that these turns entered is answered: the passed ones are all, or all but the last, which entered nothing.
abbrev pub AllAnswered : {F : Type 0} → List (Turn F) → List (Turn F) → Type 0
AllAnswered {F} turns passed = (turns ≡ passed) ⊎ ((t : Turn F) × (turns ≡ passed ++ t ∷ []) × EntersNothing t)

-- The response says that nothing was done. So it is given only where every command that was entered is answered.
abbrev pub IsTrueLast : {F : Type 0} → Rules F → List (Turn F) → List (Turn F) → List ℕ → Type 0
IsTrueLast p turns passed last = (last ≡ []) ⊎ ((p.out_of_memory_response ≡ Some last) × AllAnswered turns passed)

-- It ran out of memory outside a command: the texts of all turns, or of all but the last one, and then that response or nothing.
abbrev pub IsCutShort : {F : Type 0} → Rules F → List (Turn F) → List ℕ → Type 0
IsCutShort {F} p turns bytes =
    (passed : List (Turn F)) × ArePassed p 0 turns passed × (last : List ℕ) × IsTrueLast p turns passed last × (bytes ≡ texts p 0 passed ++ last)

-- the bytes that answer one request, or none
abbrev pub IsAnswer : {F : Type 0} → Rules F → List ℕ → Type 0
IsAnswer {F} p bytes = (bytes ≡ []) ⊎ ((t : Turn F) × (last : Bool) × (bytes ≡ turn_text p last t))

-- Beside those of one answer these are fewer bytes than `max_withheld`, and beside the last text of a session that is over.
abbrev pub AreFew : {F : Type 0} → Rules F → Bool → List ℕ → Type 0
AreFew p over bytes =
    (answer : List ℕ) × (last : List ℕ) × IsAnswer p answer × IsLastText p last × (over ≡ false → last ≡ [])
    × (length bytes < max_withheld + (length answer + length last))

-- These bytes answer these turns, in a session that goes on or in one that is over.
abbrev pub AreAnswers : {F : Type 0} → Rules F → Bool → List (Turn F) → List ℕ → Type 0
AreAnswers p false turns bytes = IsOpen p 0 turns × (bytes ≡ texts p 0 turns)
AreAnswers p true turns bytes = (IsEnded p 0 turns × (bytes ≡ texts p 0 turns)) ⊎ IsCutShort p turns bytes

-- the refusal after a device fault, as the last answer of a session
abbrev pub farewell_text : {F : Type 0} → Rules F → List ℕ
farewell_text p = p.answer_text true (Err failed_earlier)

-- These bytes are the whole answers to some first turns.
pub record AreWhole {F : Type 0} (p : Rules F) (turns : List (Turn F)) (sent : List ℕ) : Type 0 where
  pub answered : List (Turn F)
  pub others : List (Turn F)
  pub turns_are : turns ≡ answered ++ others
  pub unended : IsOpen p 0 answered
  pub sent_is : sent ≡ texts p 0 answered

-- The service parted with the client: some answers were dropped. The farewell is the refusal, or a prefix of it, and stands only after
-- whole answers.
pub record IsParting {F : Type 0} (p : Rules F) (turns : List (Turn F)) (sent farewell : List ℕ) : Type 0 where
  pub was_over : Bool
  pub dropped : List ℕ
  pub some : dropped ≢ []
  pub answers_are : AreAnswers p was_over turns (sent ++ dropped)
  pub refuses : (farewell ≡ []) ⊎ (AreWhole p turns sent × (n : ℕ) × (farewell ≡ take n (farewell_text p)))

-- What was sent and what is withheld are, together, the answers to these turns; or the service has parted with the client.
abbrev pub AnswersTurns : {F : Type 0} → Rules F → Conversation → List (Turn F) → Option (List ℕ) → Type 0
AnswersTurns p c turns None = AreAnswers p c.over turns (answer_bytes c)
AnswersTurns p c turns (Some farewell) = (c.over ≡ true) × (c.withheld ≡ []) × IsParting p turns c.sent farewell

-- The bytes that were received are the requests of some turns and a rest. The commands are those of the turns, in order, each once, and the
-- bytes of the answers are those that the protocol gives to the turns.
pub record Follows {F : Type 0} (p : Rules F) (c : Conversation) : Type 0 where
  pub turns : List (Turn F)
  pub rest : List ℕ
  pub reads : Reads p c.received turns rest
  pub requests_are : c.over ≡ false → c.requests ≡ length turns
  pub exchanges_are : c.exchanges ≡ exchanges_of turns
  pub answers_are : AnswersTurns p c turns c.parted
  -- no whole request is left without an answer, and no more bytes wait than the protocol allows
  pub waits : c.over ≡ false → c.more ≡ false → ((c.received ≡ []) ⊎ p.waits rest) × (length rest ≤ p.limit)
  -- a client that takes no answers has few bytes withheld
  pub few_withheld : AreFew p c.over c.withheld

-- A session in memory, with the bytes after its turns, and whether an answer may have been sent in part.
pub record IsInMemory {F : Type 0} (p : Rules F) (c : Conversation) (held : List ℕ) (cut : Bool) : Type 0 where
  pub follows : Follows p c
  pub held_is : c.over ≡ false → held ≡ follows.rest
  pub room : c.over ≡ false → c.requests < p.most
  pub whole : cut ≡ false → c.withheld ≢ [] → AreWhole p follows.turns c.sent
