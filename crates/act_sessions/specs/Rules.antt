-- How bytes are read as requests and turns under the rules of a protocol. Nothing here depends on the pieces in which the bytes arrive.
use Rattle.std.specs.Prelude.{◌≡◌, ◌⊎◌, ℕ, ◌+◌, ◌≤◌, ◌<◌, Bool, true, false, ◌||◌, ◌==◌, List, [], ◌∷◌, ◌++◌, length, drop, Option, Result, Ok, Err, ⊤}
use Rattle.wf_value.specs.Gives.{no_memory}
use Rattle.wf_value.specs.declared.refusal.Refusal.{Refusal}
use Rattle.run_plan.specs.declared.command.Command.{Command}
use Rattle.act_sessions.specs.declared.request.Demand.TheVariants as demand
use Rattle.act_sessions.specs.declared.request.Next.{Next}
use Rattle.act_sessions.specs.declared.request.Next.TheVariants.{Waits, Whole}
use Rattle.act_sessions.specs.declared.request.Request.{Request}
use Rattle.act_sessions.specs.Exchange.{ends_session, Response, Exchange}

-- A request with its answer. It is either a command, or a fault for which no command is submitted. The flag says whether the request
-- closes the session.
pub data Turn (F : Type 0) : Type 0 where
  Answered : Command → Bool → Response → Turn F
  Refused : F → Bool → Turn F

abbrev pub request_of : {F : Type 0} → Turn F → Request F
request_of (Answered c closes a) = record { demand = demand.Command c; closes = closes }
request_of (Refused f closes) = record { demand = demand.Fault f; closes = closes }

pub record Rules (F : Type 0) : Type 1 where
  -- the bytes are this request, then a rest
  pub reads : List ℕ → Request F → List ℕ → Type 0
  -- the bytes are less than a request
  pub waits : List ℕ → Type 0
  -- the bytes that answer a command; the flag says whether this is the last answer of the session
  pub answer_text : Bool → Response → List ℕ
  -- the bytes that answer a fault
  pub fault_text : Bool → F → List ℕ
  -- the response to an out-of-memory condition outside a command; with `None` the session ends with a fault
  pub out_of_memory_response : Option (List ℕ)
  -- how many requests a session takes
  pub most : ℕ
  -- how many bytes may wait
  pub limit : ℕ

-- as long as there are fewer bytes than `until`, these bytes and those after them are less than a request
abbrev pub WaitUntil : {F : Type 0} → Rules F → List ℕ → ℕ → Type 0
WaitUntil p bytes until = (more : List ℕ) → length (bytes ++ more) < until → p.waits (bytes ++ more)

-- the whole request at the start of the bytes, and its length; or how many bytes there have to be before one can be whole
abbrev pub IsNext : {F : Type 0} → Rules F → List ℕ → Result (Next F) Refusal → Type 0
IsNext p bytes (Ok (Waits until progress)) = p.waits bytes × (length bytes < p.limit) × (until ≤ p.limit) × WaitUntil p bytes until
IsNext p bytes (Ok (Whole found)) = (found.length ≤ length bytes) × p.reads bytes found.request (drop found.length bytes)
IsNext p bytes (Err e) = e ≡ no_memory

-- whether a turn ends a session by itself: its request closes it, or its answer ends it
abbrev pub ends_with : {F : Type 0} → Turn F → Bool
ends_with (Answered c closes a) = closes || ends_session a
ends_with (Refused f closes) = closes

-- whether a turn after n others is the last
abbrev pub is_last : {F : Type 0} → Rules F → ℕ → Turn F → Bool
is_last p n t = ends_with t || (n + 1 == p.most)

-- the bytes are the requests of these turns, then a rest
abbrev pub Reads : {F : Type 0} → Rules F → List ℕ → List (Turn F) → List ℕ → Type 0
Reads p bytes [] rest = bytes ≡ rest
Reads p bytes (t ∷ ts) rest = (middle : List ℕ) × p.reads bytes (request_of t) middle × Reads p middle ts rest

-- none of these turns, after n others, is the last
abbrev pub IsOpen : {F : Type 0} → Rules F → ℕ → List (Turn F) → Type 0
IsOpen p n [] = ⊤
IsOpen p n (t ∷ ts) = (is_last p n t ≡ false) × IsOpen p (n + 1) ts

-- of these turns, after n others, exactly the last one is the last of the session
abbrev pub IsEnded : {F : Type 0} → Rules F → ℕ → List (Turn F) → Type 0
IsEnded p n [] = ⊥
IsEnded p n (t ∷ []) = is_last p n t ≡ true
IsEnded p n (t ∷ u ∷ ts) = (is_last p n t ≡ false) × IsEnded p (n + 1) (u ∷ ts)

abbrev pub turn_text : {F : Type 0} → Rules F → Bool → Turn F → List ℕ
turn_text p last (Answered c closes a) = p.answer_text last a
turn_text p last (Refused f closes) = p.fault_text last f

-- the bytes written at these turns, after n others
abbrev pub texts : {F : Type 0} → Rules F → ℕ → List (Turn F) → List ℕ
texts p n [] = []
texts p n (t ∷ ts) = turn_text p (is_last p n t) t ++ texts p (n + 1) ts

-- the command of a turn with its answer, if it has one
abbrev pub exchanges_at : {F : Type 0} → Turn F → List Exchange
exchanges_at (Answered c closes a) = (c, a) ∷ []
exchanges_at (Refused f closes) = []

-- the commands of these turns with their answers
abbrev pub exchanges_of : {F : Type 0} → List (Turn F) → List Exchange
exchanges_of [] = []
exchanges_of (t ∷ ts) = exchanges_at t ++ exchanges_of ts

-- each command was answered as f answers it after the earlier ones
abbrev pub AnsweredBy : {F : Type 0} → (List Exchange → Command → Response) → List Exchange → List (Turn F) → Type 0
AnsweredBy f exchanges [] = ⊤
AnsweredBy f exchanges (Answered c closes a ∷ ts) = (a ≡ f exchanges c) × AnsweredBy f (exchanges ++ (c, a) ∷ []) ts
AnsweredBy f exchanges (Refused e closes ∷ ts) = AnsweredBy f exchanges ts

-- bytes after a request do not change it
abbrev pub IsSteady : {F : Type 0} → Rules F → Type 0
IsSteady {F} p = (bytes more rest : List ℕ) (r : Request F) → p.reads bytes r rest → p.reads (bytes ++ more) r (rest ++ more)

-- bytes are read as at most one request
abbrev pub IsOne : {F : Type 0} → Rules F → Type 0
IsOne {F} p = (bytes rest other : List ℕ) (r s : Request F) → p.reads bytes r rest → p.reads bytes s other → (r ≡ s) × (rest ≡ other)

-- bytes that wait are not a request and a rest
abbrev pub IsApart : {F : Type 0} → Rules F → Type 0
IsApart {F} p = (bytes rest : List ℕ) (r : Request F) → p.waits bytes → p.reads bytes r rest → ⊥

-- At the end of the input, with this rest, these turns complete a session after n others: the last one ended it, or the rest waits.
abbrev pub HasCome : {F : Type 0} → Rules F → ℕ → List (Turn F) → List ℕ → Type 0
HasCome p n turns rest = IsEnded p n turns ⊎ (IsOpen p n turns × p.waits rest)
