-- A session from turn to turn, and its end.
use Rattle.std.proofs.Common.{◌≡◌, ℕ, ◌+◌, ◌≤◌, ◌<◌, ◌-◌, ◌^◌, true, false, List, [], ◌∷◌, ◌++◌, length, take, Ok, Err, refl, sym, ap, subst, ◌∙◌, inl, inr, append-nil, append_assoc, length-append, arith}
use Rattle.std.specs.Prelude.{min, Option}
use Rattle.std.proofs.lemmas.Bool.Decides.{nat_tests}
use Rattle.std.specs.Io.KnownBytes.{Consumes, Appends, IsAtEnd}
use Rattle.std.proofs.KnownBytes.{Consumes-nil, Consumes-trans, Appends-nil, Appends-trans}
use Rattle.act_sessions.specs.declared.request.Request.{Request}
use Rattle.act_sessions.specs.declared.transcript.Ending.{Ending}
use Rattle.act_sessions.specs.declared.transcript.Ending.TheVariants as ending
use Rattle.act_sessions.specs.declared.transcript.Part.TheVariants.{AwaitsInput, Over}
use Rattle.act_sessions.specs.declared.error.SessionError.{SessionError}
use Rattle.act_sessions.specs.declared.error.SessionError.TheVariants.{Memory, Broken}
use Rattle.act_sessions.specs.inner.Hearing.{Hears}
use Rattle.act_sessions.specs.Rules.{Rules, Turn, request_of, exchanges_at, exchanges_of, is_last, Reads, turn_text, texts, IsSteady}
use Rattle.act_sessions.specs.Session.{Moment, Position, Writes, Did, Goes, IsPart}
use Rattle.act_sessions.specs.Exchange.{AreAsked}
use Rattle.act_sessions.specs.inner.Turns.{WritesNone, SubmitsTurn, TakesTurn, Aborts, HasPaused}
use Rattle.act_sessions.proofs.Listing.{Reads_snoc, Reads_grows, IsOpen_snoc, IsEnded_snoc, texts_snoc, exchanges_snoc, all_listed, AreAsked_after, min_twice}

abbrev pub at : ℕ → List ℕ → Position
at n buffer = record { turns = n; held = buffer }

pub goes_start : {F : Type 0} (p : Rules F) (input : Option (List ℕ)) (now : Moment) (from : Position) → from.turns < p.most → length from.held ≤ p.limit
    → now.count ≤ 2 ^ 64 - 1 → Goes p from input input now now from
goes_start p input now from some short few = record {
  turns = [];
  read = [];
  consumed = Consumes-nil input;
  reads = append-nil from.held;
  held = short;
  unended = tt;
  counted = omega arith;
  room = some;
  asked_all = sym (append-nil now.asked);
  listed_all = sym (append-nil now.listed);
  wrote_all = (Appends-nil now.output, omega arith);
}

pub Writes_trans : (old mid new : Moment) (a b : List ℕ) → Writes old mid a → Writes mid new b → Writes old new (a ++ b)
Writes_trans old mid new a b v w =
    let m = 2 ^ 64 - 1 in (
      Appends-trans _ _ _ a b v.0 w.0,
      w.1 ∙ ap (λ k. min (k + length b) m) v.1 ∙ min_twice (old.count + length a) (length b) m
          ∙ ap (λ k. min k m) (let e = length-append a b in omega arith),
    )

-- more bytes were read
did_waiting : {F : Type 0} (p : Rules F) → IsSteady p → (from to : Position) (i i1 i2 : Option (List ℕ)) (old new : Moment) (piece : List ℕ)
    → (goes : Goes p from i i1 old new to) → Consumes i1 i2 piece → length (to.held ++ piece) ≤ p.limit
    → Did p from i i2 old new goes.turns (to.held ++ piece) (texts p from.turns goes.turns)
did_waiting p steady from to i i1 i2 old new piece goes more short = record {
  read = goes.read ++ piece;
  consumed = Consumes-trans i i1 i2 goes.read piece goes.consumed more;
  reads =
      subst (λ b. Reads p b goes.turns (to.held ++ piece)) (append_assoc from.held goes.read piece)
      (Reads_grows p steady (from.held ++ goes.read) goes.turns to.held piece goes.reads);
  held = short;
  counted = let c = goes.counted in let r = goes.room in omega arith;
  asked_all = inl goes.asked_all;
  listed_all = goes.listed_all;
  wrote_all = goes.wrote_all;
}

-- a request was answered
did_turn : {F : Type 0} (p : Rules F) → IsSteady p → (from to : Position) (i i1 i2 : Option (List ℕ)) (old mid new : Moment)
    (piece left text : List ℕ) (t : Turn F) → (goes : Goes p from i i1 old mid to) → Consumes i1 i2 piece
    → p.reads (to.held ++ piece) (request_of t) left → length left ≤ p.limit → SubmitsTurn mid new t → Writes mid new text
    → Did p from i i2 old new (goes.turns ++ t ∷ []) left (texts p from.turns goes.turns ++ text)
did_turn p steady from to i i1 i2 old mid new piece left text t goes more r short asks writes = record {
  read = goes.read ++ piece;
  consumed = Consumes-trans i i1 i2 goes.read piece goes.consumed more;
  reads =
      let grown = Reads_grows p steady (from.held ++ goes.read) goes.turns to.held piece goes.reads in
      let before = subst (λ b. Reads p b goes.turns (to.held ++ piece)) (append_assoc from.held goes.read piece) grown in
      Reads_snoc p (from.held ++ (goes.read ++ piece)) goes.turns (to.held ++ piece) left t before r;
  held = short;
  counted = let e = length-append goes.turns (t ∷ []) in let c = goes.counted in let room = goes.room in omega arith;
  asked_all = subst (AreAsked old.asked new.asked) (sym (exchanges_snoc goes.turns t)) (AreAsked_after old.asked mid.asked new.asked (exchanges_of goes.turns) (exchanges_at t) goes.asked_all asks.0);
  listed_all = asks.1 ∙ ap (λ l. l ++ exchanges_at t) goes.listed_all ∙ append_assoc old.listed (exchanges_of goes.turns) (exchanges_at t)
      ∙ ap (λ l. old.listed ++ l) (sym (exchanges_snoc goes.turns t));
  wrote_all = Writes_trans old mid new (texts p from.turns goes.turns) text goes.wrote_all writes;
}

-- after a turn that is not the last, the session may take another one
still_room : {F : Type 0} (p : Rules F) (n : ℕ) (t : Turn F) → n < p.most → is_last p n t ≡ false → n + 1 < p.most
still_room p n t room h = grind (arith, nat_tests)

-- a turn that is not the last
pub goes_on : {F : Type 0} (p : Rules F) → IsSteady p → (from : Position) (i i1 i2 : Option (List ℕ)) (old mid new : Moment) (buffer : List ℕ) (n : ℕ)
    (piece left : List ℕ) (r : Request F) → Goes p from i i1 old mid (at n buffer) → Consumes i1 i2 piece → p.reads (buffer ++ piece) r left
    → length left ≤ p.limit → TakesTurn p n r mid new (Ok false) → Goes p from i i2 old new (at (n + 1) left)
goes_on p steady from i i1 i2 old mid new buffer n piece left r goes more reads short took =
    let t = took.0 in
    let did = did_turn p steady from (at n buffer) i i1 i2 old mid new piece left (turn_text p false t) t goes more (subst (λ q. p.reads (buffer ++ piece) q left) (sym took.1) reads) short took.3 took.4 in
    let listed = all_listed p n t mid.asked new.asked took.2 took.3.0 in
    let texts_are = texts_snoc p from.turns n goes.turns t goes.counted ∙ ap (λ b. texts p from.turns goes.turns ++ turn_text p b t) took.2 in
    record {
      turns = goes.turns ++ t ∷ [];
      read = did.read;
      consumed = did.consumed;
      reads = did.reads;
      held = short;
      unended = IsOpen_snoc p from.turns n goes.turns t goes.unended goes.counted took.2;
      counted = let e = length-append goes.turns (t ∷ []) in let f = goes.counted in omega arith;
      room = still_room p n t goes.room took.2;
      asked_all = listed ∙ ap (λ l. l ++ exchanges_at t) goes.asked_all ∙ append_assoc old.asked (exchanges_of goes.turns) (exchanges_at t)
          ∙ ap (λ l. old.asked ++ l) (sym (exchanges_snoc goes.turns t));
      listed_all = did.listed_all;
      wrote_all = subst (Writes old new) (sym texts_are) did.wrote_all;
    }

-- the last turn
pub over_by_last : {F : Type 0} (p : Rules F) → IsSteady p → (from to : Position) (i i1 i2 : Option (List ℕ)) (old mid new : Moment) (buffer : List ℕ) (n : ℕ)
    (piece left : List ℕ) (r : Request F) → Goes p from i i1 old mid (at n buffer) → Consumes i1 i2 piece → p.reads (buffer ++ piece) r left
    → length left ≤ p.limit → TakesTurn p n r mid new (Ok true) → IsPart p from i i2 old new to (Over ending.Done)
over_by_last p steady from to i i1 i2 old mid new buffer n piece left r goes more reads short took =
    let t = took.0 in
    let did = did_turn p steady from (at n buffer) i i1 i2 old mid new piece left (turn_text p true t) t goes more (subst (λ q. p.reads (buffer ++ piece) q left) (sym took.1) reads) short took.3 took.4 in
    let texts_are = texts_snoc p from.turns n goes.turns t goes.counted ∙ ap (λ b. texts p from.turns goes.turns ++ turn_text p b t) took.2 in
    (goes.turns ++ t ∷ [], left, texts p from.turns goes.turns ++ turn_text p true t, did, inl (IsEnded_snoc p from.turns n goes.turns t goes.unended goes.counted took.2, sym texts_are))

-- the end of the input
pub waits_at_end : {F : Type 0} (p : Rules F) → IsSteady p → (from : Position) (i i1 i2 : Option (List ℕ)) (old new : Moment) (buffer : List ℕ) (n : ℕ)
    (piece left : List ℕ) → Goes p from i i1 old new (at n buffer) → Consumes i1 i2 piece → length (buffer ++ piece) ≤ p.limit → p.waits left
    → buffer ++ piece ≡ left → IsAtEnd i2 → IsPart p from i i2 old new (at n left) AwaitsInput
waits_at_end p steady from i i1 i2 old new buffer n piece left goes more short waits e end =
    let did = did_waiting p steady from (at n buffer) i i1 i2 old new piece goes more short in (
      record {
        turns = goes.turns;
        read = did.read;
        consumed = did.consumed;
        reads = subst (Reads p (from.held ++ did.read) goes.turns) e did.reads;
        held = subst (λ b. length b ≤ p.limit) e short;
        unended = goes.unended;
        counted = goes.counted;
        room = goes.room;
        asked_all = goes.asked_all;
        listed_all = goes.listed_all;
        wrote_all = goes.wrote_all;
      },
      waits,
      end,
    )

-- no request came
pub paused_waiting : {F : Type 0} (p : Rules F) → IsSteady p → (from : Position) (i i1 i2 : Option (List ℕ)) (old new : Moment) (buffer : List ℕ) (n : ℕ)
    (piece left : List ℕ) (e : SessionError) → Goes p from i i1 old new (at n buffer) → Consumes i1 i2 piece → length (buffer ++ piece) ≤ p.limit
    → Hears p i2 (buffer ++ piece) left (Err e) → HasPaused p e from i i2 old new
paused_waiting p steady from i i1 i2 old new buffer n piece left Memory goes more short hears = (
  goes.turns,
  buffer ++ piece,
  texts p from.turns goes.turns,
  did_waiting p steady from (at n buffer) i i1 i2 old new piece goes more short,
  (goes.turns, (goes.unended, inl refl), refl),
)
paused_waiting p steady from i i1 i2 old new buffer n piece left Broken goes more short hears = (
  goes.turns,
  buffer ++ piece,
  texts p from.turns goes.turns,
  did_waiting p steady from (at n buffer) i i1 i2 old new piece goes more short,
  inl (goes.unended, hears, refl),
)

none_written : (old mid new : Moment) (a : List ℕ) → Writes old mid a → WritesNone mid new → Writes old new a
none_written old mid new a w none = (subst (λ o. Appends old.output o a) (sym none.0) w.0, none.1 ∙ w.1)

-- no further command was submitted
same_did : {F : Type 0} (p : Rules F) (from : Position) (i i2 : Option (List ℕ)) (old mid new : Moment) (turns : List (Turn F)) (rest out text all : List ℕ)
    → Did p from i i2 old mid turns rest out → Writes old new all → all ≡ out ++ text → new.asked ≡ mid.asked → new.listed ≡ mid.listed
    → Did p from i i2 old new turns rest (out ++ text)
same_did p from i i2 old mid new turns rest out text all did w e asked listed = record {
  read = did.read;
  consumed = did.consumed;
  reads = did.reads;
  held = did.held;
  counted = did.counted;
  asked_all = subst (λ a. AreAsked old.asked a (exchanges_of turns)) (sym asked) did.asked_all;
  listed_all = listed ∙ did.listed_all;
  wrote_all = subst (Writes old new) e w;
}

did_no_more : {F : Type 0} (p : Rules F) (from : Position) (i i2 : Option (List ℕ)) (old mid new : Moment) (turns : List (Turn F)) (rest out : List ℕ)
    → Did p from i i2 old mid turns rest out → WritesNone mid new → new.asked ≡ mid.asked → new.listed ≡ mid.listed
    → Did p from i i2 old new turns rest out
did_no_more p from i i2 old mid new turns rest out did none asked listed =
    subst (Did p from i i2 old new turns rest) (append-nil out)
    (same_did p from i i2 old mid new turns rest out [] out did (none_written old mid new out did.wrote_all none) (sym (append-nil out)) asked listed)

-- a turn failed
pub paused_turn : {F : Type 0} (p : Rules F) → IsSteady p → (from : Position) (i i1 i2 : Option (List ℕ)) (old mid new : Moment) (buffer : List ℕ) (n : ℕ)
    (piece left : List ℕ) (r : Request F) (e : SessionError) → Goes p from i i1 old mid (at n buffer) → Consumes i1 i2 piece
    → p.reads (buffer ++ piece) r left → length (buffer ++ piece) ≤ p.limit → length left ≤ p.limit → TakesTurn p n r mid new (Err e)
    → HasPaused p e from i i2 old new
paused_turn p steady from i i1 i2 old mid new buffer n piece left r Memory goes more reads all_short short (none, inl unasked) = (
  goes.turns,
  buffer ++ piece,
  texts p from.turns goes.turns,
  did_no_more p from i i2 old mid new goes.turns (buffer ++ piece) (texts p from.turns goes.turns) (did_waiting p steady from (at n buffer) i i1 i2 old mid piece goes more all_short) none unasked.0 unasked.1,
  (goes.turns, (goes.unended, inl refl), refl),
)
paused_turn p steady from i i1 i2 old mid new buffer n piece left r Memory goes more reads all_short short (none, inr (t, is, asks)) =
    let all = texts p from.turns goes.turns in
    let writes : Writes mid new [] = (subst (λ o. Appends mid.output o []) (sym none.0) (Appends-nil mid.output), let e = none.1 in let f = goes.wrote_all.1 in omega arith) in (
      goes.turns ++ t ∷ [],
      left,
      all ++ [],
      did_turn p steady from (at n buffer) i i1 i2 old mid new piece left [] t goes more (subst (λ q. p.reads (buffer ++ piece) q left) (sym is) reads) short asks writes,
      (goes.turns, (goes.unended, inr (t, refl)), append-nil all),
    )
paused_turn p steady from i i1 i2 old mid new buffer n piece left r Broken goes more reads all_short short (t, is, asks, k, writes) =
    let before = texts p from.turns goes.turns in
    let same : n ≡ from.turns + length goes.turns = let e = goes.counted in omega arith in
    let text = turn_text p (is_last p n t) t in (
      goes.turns ++ t ∷ [],
      left,
      before ++ take k text,
      did_turn p steady from (at n buffer) i i1 i2 old mid new piece left (take k text) t goes more (subst (λ q. p.reads (buffer ++ piece) q left) (sym is) reads) short asks writes,
      inr (goes.turns, (goes.unended, inr (t, refl)), text, inr (t, refl, ap (λ m. turn_text p (is_last p m t) t) same), k, refl),
    )

-- a session that cannot continue is aborted
pub gave_up : {F : Type 0} (p : Rules F) (e : SessionError) (from to : Position) (i i2 : Option (List ℕ)) (old mid new : Moment) (how : Ending)
    → HasPaused p e from i i2 old mid → new.asked ≡ mid.asked → Aborts p e mid new how → IsPart p from i i2 old new to (Over how)
gave_up p Memory from to i i2 old mid new ending.Done (turns, rest, out, did, (passed, are, is)) same (text, words, writes, listed) = (
  turns,
  rest,
  out ++ text,
  same_did p from i i2 old mid new turns rest out text (out ++ text) did (Writes_trans old mid new out text did.wrote_all writes) refl same listed,
  inr (passed, are, text, words, ap (λ l. l ++ text) is),
)
gave_up p Memory from to i i2 old mid new ending.Memory (turns, rest, out, did, (passed, are, is)) same (silent, none, listed) =
    (turns, rest, out, did_no_more p from i i2 old mid new turns rest out did none same listed, (silent, passed, are, is))
gave_up p Memory from to i i2 old mid new ending.Broken (turns, rest, out, did, (passed, are, is)) same (words, says, k, writes, listed) =
    let text = take k words in (
      turns,
      rest,
      out ++ text,
      same_did p from i i2 old mid new turns rest out text (out ++ text) did (Writes_trans old mid new out text did.wrote_all writes) refl same listed,
      inr (passed, are, words, inl says, k, ap (λ l. l ++ text) is),
    )
gave_up p Broken from to i i2 old mid new ending.Broken (turns, rest, out, did, prefix) same (none, listed) =
    (turns, rest, out, did_no_more p from i i2 old mid new turns rest out did none same listed, prefix)
gave_up p Broken from to i i2 old mid new ending.Done paused same gives = absurd gives
gave_up p Broken from to i i2 old mid new ending.Memory paused same gives = absurd gives
