-- The turns that one client's bytes lead to, over a store.
use Rattle.std.specs.Prelude.{◌≡◌, ◌⊎◌, ℕ, ◌+◌, ◌≤◌, ◌<◌, Bool, true, false, List, ◌++◌, length, Option, Some, None}
use Rattle.act_sessions.specs.declared.request.Request.{Request}
use Rattle.act_sessions.specs.declared.turn_text.TurnText.{TurnText}
use Rattle.act_sessions.specs.Exchange.{Exchange}
use Rattle.act_sessions.specs.Rules.{Rules, Turn, Reads, IsEnded, IsOpen, exchanges_at, exchanges_of, is_last, request_of, texts, turn_text}
use Rattle.act_sessions.specs.Session.{ArePassed}
use Rattle.act_store.specs.StoreState.{StoreState}
use Rattle.client_loop.specs.declared.pause.Pause.{Pause}
use Rattle.client_loop.specs.declared.pause.Pause.TheVariants.{Memory, More, Over, Unanswered, Waits}
use Rattle.client_loop.specs.Conversation.{AllAnswered, AreFew}
use Rattle.client_loop.specs.Entering.{Enters}
use Rattle.definitions.specs.Limits.{max_withheld}

-- a store, the commands of a client, and the bytes of its answers that are withheld
pub record Moment (D : Type 0) : Type 0 where
  pub store : StoreState D
  pub exchanges : List Exchange
  pub out : List ℕ

-- why there is no further turn after one, whose command was entered or not
abbrev pub pause_after : Option Bool → Bool → Option Pause
pause_after (Some true) entered = Some Over
pause_after (Some false) entered = None
pause_after None true = Some Unanswered
pause_after None false = Some Memory

-- The text was appended, and whether it is the last is returned; or there was no text, or no memory for it.
abbrev pub Appended : Option TurnText → List ℕ → List ℕ → Option Bool → Type 0
Appended (Some text) out out_new (Some last) = (last ≡ text.last) × (out_new ≡ out ++ text.bytes.items)
Appended (Some text) out out_new None = out_new ≡ out
Appended None out out_new (Some last) = ⊥
Appended None out out_new None = out_new ≡ out

-- Whether a turn was the last one, and its text was appended; or there was no memory for the text.
abbrev pub Writes : {F : Type 0} → Rules F → ℕ → Turn F → List ℕ → List ℕ → Option Bool → Type 0
Writes p n t out out_new (Some last) = (is_last p n t ≡ last) × (out_new ≡ out ++ turn_text p last t)
Writes p n t out out_new None = out_new ≡ out

-- A turn for a request, after n others: its command is entered or refused.
pub record TakesTurn {F D : Type 0} (p : Rules F) (number n : ℕ) (request : Request F) (old new : Moment D) (result : Option Bool) : Type 0 where
  pub turn : Turn F
  pub is : request_of turn ≡ request
  pub enters : Enters number old.store (exchanges_at turn) new.store
  pub exchanges_are : new.exchanges ≡ old.exchanges ++ exchanges_at turn
  pub writes : Writes p n turn old.out new.out result

-- How turns pause, after n others: the bytes wait for more; as many turns were taken as may be, or many bytes are withheld; the last turn
-- ended the session; or it ran out of memory, where every command that was entered is answered, or perhaps not the last one.
abbrev pub IsPaused : {F : Type 0} → Rules F → ℕ → ℕ → List (Turn F) → List ℕ → ℕ → List ℕ → List ℕ → List ℕ → Pause → Type 0
IsPaused p n most turns rest count held out out_new Waits =
    IsOpen p n turns × (rest ≡ held) × p.waits held × (length held < p.limit) × (count ≡ n + length turns) × (count < p.most) × (out_new ≡ out ++ texts p n turns)
IsPaused p n most turns rest count held out out_new More =
    IsOpen p n turns × (rest ≡ held) × ((length turns ≡ most) ⊎ (max_withheld ≤ length out_new)) × (count ≡ n + length turns) × (count < p.most)
    × (out_new ≡ out ++ texts p n turns)
IsPaused p n most turns rest count held out out_new Over = IsEnded p n turns × (out_new ≡ out ++ texts p n turns)
IsPaused {F} p n most turns rest count held out out_new Memory =
    (passed : List (Turn F)) × ArePassed p n turns passed × AllAnswered turns passed × (out_new ≡ out ++ texts p n passed)
IsPaused {F} p n most turns rest count held out out_new Unanswered =
    (passed : List (Turn F)) × ArePassed p n turns passed × (out_new ≡ out ++ texts p n passed)

-- The next turns of the bytes, after n others, at most so many.
pub record TakesTurns {F D : Type 0} (p : Rules F) (number n most : ℕ) (bytes : List ℕ) (old new : Moment D) (count : ℕ) (held : List ℕ) (pause : Pause) : Type 0 where
  pub turns : List (Turn F)
  pub few : length turns ≤ most
  pub rest : List ℕ
  pub reads : Reads p bytes turns rest
  pub enters : Enters number old.store (exchanges_of turns) new.store
  pub exchanges_are : new.exchanges ≡ old.exchanges ++ exchanges_of turns
  pub few_withheld : AreFew p false old.out → AreFew p false new.out
  pub paused : IsPaused p n most turns rest count held old.out new.out pause

-- turns so far, of which none was the last
pub record Goes {F D : Type 0} (p : Rules F) (number n : ℕ) (bytes : List ℕ) (old new : Moment D) (count : ℕ) (held : List ℕ) : Type 0 where
  pub turns : List (Turn F)
  pub reads : Reads p bytes turns held
  pub unended : IsOpen p n turns
  pub count_is : count ≡ n + length turns
  pub room : count < p.most
  pub enters : Enters number old.store (exchanges_of turns) new.store
  pub exchanges_are : new.exchanges ≡ old.exchanges ++ exchanges_of turns
  pub few_withheld : AreFew p false old.out → AreFew p false new.out
  pub wrote : new.out ≡ old.out ++ texts p n turns

-- one round: a turn that is not the last, or the pause
abbrev pub EndsRound : {F D : Type 0} → Rules F → ℕ → ℕ → ℕ → List ℕ → Moment D → Moment D → ℕ → List ℕ → Option Pause → Type 0
EndsRound p number n most bytes old new count held None = Goes p number n bytes old new (count + 1) held
EndsRound p number n most bytes old new count held (Some pause) = TakesTurns p number n most bytes old new count held pause
