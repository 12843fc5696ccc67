-- One turn.
use Rattle.std.proofs.Common.{◌≡◌, ℕ, ◌+◌, ◌-◌, ◌^◌, Bool, List, [], ◌∷◌, ◌++◌, length, take, Result, Ok, Err, refl, sym, ap, subst, ◌∙◌, inl, inr, append-nil}
use Rattle.std.specs.Prelude.{min, Option, Some, None}
use Rattle.std.specs.Io.KnownBytes.{Appends}
use Rattle.run_plan.specs.declared.command.Command.{Command}
use Rattle.act_sessions.specs.declared.request.Demand.{Demand}
use Rattle.act_sessions.specs.declared.request.Demand.TheVariants as demand
use Rattle.act_sessions.specs.declared.transcript.LoggedExchange.{LoggedExchange}
use Rattle.act_sessions.specs.declared.transcript.Transcript.{Transcript}
use Rattle.act_sessions.specs.declared.turn_text.TurnText.{TurnText}
use Rattle.act_sessions.specs.declared.error.SessionError.{SessionError}
use Rattle.act_sessions.specs.declared.error.SessionError.TheVariants.{Memory, Broken}
use Rattle.act_sessions.specs.Rules.{Rules, Turn, Answered, Refused, request_of, exchanges_at, is_last, turn_text}
use Rattle.act_sessions.specs.Session.{Moment, Writes, moment}
use Rattle.act_sessions.specs.Exchange.{AreAsked, Exchange, Submits, Response, exchanges_by, exchanges_in}
use Rattle.act_sessions.specs.Taking.{IsRecorded, TakesDemand}
use Rattle.act_sessions.specs.inner.Turns.{SubmitsTurn, TakesTurn, Says}

Writes_from : (old mid new : Moment) (a b : List ℕ) → Writes mid new a → mid.output ≡ old.output → mid.count ≡ old.count → a ≡ b → Writes old new b
Writes_from old mid new a b w o c e = (
  subst (λ x. Appends x new.output b) o (subst (Appends mid.output new.output) e w.0),
  w.1 ∙ ap (λ k. min (k + length a) (2 ^ 64 - 1)) c ∙ ap (λ (s : List ℕ). min (old.count + length s) (2 ^ 64 - 1)) e,
)

asks_from : {F : Type 0} (old mid new : Moment) (t : Turn F) → SubmitsTurn old mid t → new.asked ≡ mid.asked → new.listed ≡ mid.listed → SubmitsTurn old new t
asks_from old mid new t asks a l = (subst (λ x. AreAsked old.asked x (exchanges_at t)) (sym a) asks.0, l ∙ asks.1)

-- a text was written after the turn's command was submitted
turn_said : {F : Type 0} (p : Rules F) (n : ℕ) (t : Turn F) (old mid new : Moment) (text : List ℕ) (last : Bool) (r : Result Bool SessionError)
    → Says mid new text last r → is_last p n t ≡ last → text ≡ turn_text p last t → SubmitsTurn old mid t
    → mid.output ≡ old.output → mid.count ≡ old.count → new.asked ≡ mid.asked → new.listed ≡ mid.listed
    → TakesTurn p n (request_of t) old new r
turn_said p n t old mid new text last (Ok l) says is e asks o c a li = (
  t,
  refl,
  is ∙ sym says.0,
  asks_from old mid new t asks a li,
  Writes_from old mid new text _ says.1 o c (e ∙ ap (λ b. turn_text p b t) (sym says.0)),
)
turn_said p n t old mid new text last (Err Memory) says is e asks o c a li = absurd says
turn_said p n t old mid new text last (Err Broken) says is e asks o c a li = (
  t,
  refl,
  asks_from old mid new t asks a li,
  says.0,
  Writes_from old mid new (take says.0 text) _ says.1 o c (ap (take says.0) (e ∙ ap (λ b. turn_text p b t) (sym is))),
)

asked_one : {F : Type 0} (p : Rules F) (old new : Moment) (c : Command) (closes : Bool) (a : Response) → Submits old.asked new.asked c a
    → new.listed ≡ old.listed ++ (c, a) ∷ [] → SubmitsTurn {F = F} old new (Answered c closes a)
asked_one p old new c closes a (inl e) l = (inl e, l)
asked_one p old new c closes a (inr e) l = (inr ([], c, ap (λ (b : Response). (c, b) ∷ []) e.0, e.1 ∙ sym (append-nil _)), l)

-- ---- a turn over a transcript

unasked : {F A : Type 0} (asked : A → List Exchange) (f : F) (closes : Bool) (out : Option (List ℕ)) (old mid : Transcript) (a a_new : A) → mid ≡ old → a_new ≡ a
    → SubmitsTurn (moment out (asked a) old) (moment out (asked a_new) mid) (Refused f closes)
unasked asked f closes out old mid a a_new same same_a = (inl (ap asked same_a ∙ sym (append-nil _)), ap exchanges_by same ∙ sym (append-nil _))

-- its text was written, or a prefix of it
pub turn_written : {F A : Type 0} (p : Rules F) (asked : A → List Exchange) (n : ℕ) (d : Demand F) (closes : Bool) (out : Option (List ℕ)) (old mid : Transcript)
    (a a_new : A) (new : Moment) (text : TurnText) (r : Result Bool SessionError) → TakesDemand p (IsRecorded asked) n d closes old a mid a_new (Some text)
    → Says (moment out (asked a_new) mid) new text.bytes.items text.last r → new.asked ≡ asked a_new → new.listed ≡ exchanges_by mid
    → TakesTurn p n (record { demand = d; closes = closes }) (moment out (asked a) old) new r
turn_written p asked n (demand.Command c) closes out old mid a a_new new text r (answer, (recorded, counted), (is, words)) says same listed =
    turn_said p n (Answered c closes answer) (moment out (asked a) old) (moment out (asked a_new) mid) new text.bytes.items text.last r says is words
    (asked_one p (moment out (asked a) old) (moment out (asked a_new) mid) c closes answer recorded.0 recorded.1) refl counted same listed
turn_written p asked n (demand.Fault f) closes out old mid a a_new new text r (still, still_a, (is, words)) says same listed =
    turn_said p n (Refused f closes) (moment out (asked a) old) (moment out (asked a_new) mid) new text.bytes.items text.last r says is words
    (unasked asked f closes out old mid a a_new still still_a) refl (ap (λ (t : Transcript). t.written) still) same listed

-- it ran out of memory, before its command was submitted or after
pub turn_starved : {F A : Type 0} (p : Rules F) (asked : A → List Exchange) (n : ℕ) (d : Demand F) (closes : Bool) (out : Option (List ℕ)) (old new : Transcript)
    (a a_new : A) → TakesDemand p (IsRecorded asked) n d closes old a new a_new None
    → TakesTurn p n (record { demand = d; closes = closes }) (moment out (asked a) old) (moment out (asked a_new) new) (Err Memory)
turn_starved p asked n (demand.Command c) closes out old new a a_new (Some answer, (recorded, counted)) = (
  (refl, counted),
  inr (Answered c closes answer, refl, asked_one p (moment out (asked a) old) (moment out (asked a_new) new) c closes answer recorded.0 recorded.1),
)
turn_starved p asked n (demand.Command c) closes out old new a a_new (None, (recorded, counted)) = ((refl, counted), inl recorded)
turn_starved p asked n (demand.Fault f) closes out old new a a_new (still, still_a, none) =
    ((refl, ap (λ (t : Transcript). t.written) still), inl (ap asked still_a, ap exchanges_by still))

pub exchanges_in_snoc : (asked : List LoggedExchange) (a : LoggedExchange) → exchanges_in (asked ++ a ∷ []) ≡ exchanges_in asked ++ (a.command, a.answer) ∷ []
exchanges_in_snoc [] a = refl
exchanges_in_snoc (b ∷ asked) a = ap (λ l. (b.command, b.answer) ∷ l) (exchanges_in_snoc asked a)

-- a command and its answer were recorded
pub listed_with : (old mid new : List LoggedExchange) (copy command : Command) (answer : Response) → new ≡ mid ++ record { command = copy; answer = answer } ∷ []
    → mid ≡ old → copy ≡ command → exchanges_in new ≡ exchanges_in old ++ (command, answer) ∷ []
listed_with old mid new copy command answer e f g =
    ap exchanges_in e ∙ exchanges_in_snoc mid (record { command = copy; answer = answer })
    ∙ ap (λ l. exchanges_in l ++ (copy, answer) ∷ []) f ∙ ap (λ (c : Command). exchanges_in old ++ (c, answer) ∷ []) g
