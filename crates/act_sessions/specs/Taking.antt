-- How the turns of a session are taken, one at a time, whatever submits their commands and takes their texts.
use Rattle.std.specs.Prelude.{◌≡◌, ◌<◌, ◌≤◌, ℕ, Bool, List, ◌∷◌, [], ◌++◌, length, Option, Some, None, Result, Ok, Err, IfSome}
use Rattle.wf_value.specs.Gives.{no_memory}
use Rattle.wf_value.specs.declared.refusal.Refusal.{Refusal}
use Rattle.run_plan.specs.declared.command.Command.{Command}
use Rattle.act_sessions.specs.declared.request.Demand.{Demand}
use Rattle.act_sessions.specs.declared.request.Demand.TheVariants as demand
use Rattle.act_sessions.specs.declared.request.Request.{Request}
use Rattle.act_sessions.specs.declared.transcript.Transcript.{Transcript}
use Rattle.act_sessions.specs.declared.turn_text.TurnText.{TurnText}
use Rattle.act_sessions.specs.Exchange.{Exchange, Response, Submits, exchanges_by}
use Rattle.act_sessions.specs.Rules.{Rules, Turn, Answered, Refused, is_last, turn_text}

-- The bytes began with this request, which was taken; or they are less than a request; or it ran out of memory.
abbrev pub Finds : {F : Type 0} → Rules F → List ℕ → List ℕ → Result (Option (Request F)) Refusal → Type 0
Finds p held left (Ok (Some request)) = p.reads held request left × (length left ≤ length held)
Finds p held left (Ok None) = p.waits held × (length held < p.limit) × (left ≡ held)
Finds p held left (Err e) = (e ≡ no_memory) × (left ≡ held)

-- the bytes that answer a turn after n others
abbrev pub IsText : {F : Type 0} → Rules F → ℕ → Turn F → TurnText → Type 0
IsText p n t text = (is_last p n t ≡ text.last) × (text.bytes.items ≡ turn_text p text.last t)

-- A command's turn: it was submitted and answered, and this is its text. Or it ran out of memory, before it was submitted or after.
abbrev pub TakesCommand : {F : Type 0} → Rules F → (Option Response → Type 0) → ℕ → Command → Bool → Option TurnText → Type 0
TakesCommand p submits n c closes (Some text) = (answer : Response) × submits (Some answer) × IsText p n (Answered c closes answer) text
TakesCommand p submits n c closes None = (answer : Option Response) × submits answer

abbrev pub TakesDemand : {F S A : Type 0} → Rules F → (S → A → Command → Option Response → S → A → Type 0) → ℕ → Demand F → Bool → S → A → S → A
    → Option TurnText → Type 0
TakesDemand p submits n (demand.Command c) closes old a new a_new result = TakesCommand p (λ answer. submits old a c answer new a_new) n c closes result
TakesDemand p submits n (demand.Fault f) closes old a new a_new result = (new ≡ old) × (a_new ≡ a) × IfSome result (IsText p n (Refused f closes))

-- A turn for a request, after n others, given what a command changes. Nothing changes for a request without one.
abbrev pub Takes : {F S A : Type 0} → Rules F → (S → A → Command → Option Response → S → A → Type 0) → ℕ → Request F → S → A → S → A
    → Option TurnText → Type 0
Takes p submits n r = TakesDemand p submits n r.demand r.closes

-- A command was submitted, and the transcript lists it with its answer; or neither.
abbrev pub Lists : List Exchange → List Exchange → List Exchange → List Exchange → Command → Option Response → Type 0
Lists asked asked_new listed listed_new c (Some answer) = Submits asked asked_new c answer × (listed_new ≡ listed ++ (c, answer) ∷ [])
Lists asked asked_new listed listed_new c None = (asked_new ≡ asked) × (listed_new ≡ listed)

-- A command was submitted to an answerer, of which it is known what it was asked, and recorded in a transcript.
abbrev pub IsRecorded : {A : Type 0} → (A → List Exchange) → Transcript → A → Command → Option Response → Transcript → A → Type 0
IsRecorded asked old a c answer new a_new =
    Lists (asked a) (asked a_new) (exchanges_by old) (exchanges_by new) c answer × (new.written ≡ old.written)
