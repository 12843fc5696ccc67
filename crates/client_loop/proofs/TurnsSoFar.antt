-- Turns over a store, one after another.
use Rattle.std.proofs.Common.{◌≡◌, ℕ, ◌+◌, ◌<◌, ◌≤◌, ◌⊎◌, ⊎_elim, true, false, Bool, List, [], ◌∷◌, ◌++◌, length, refl, sym, ap, subst, ◌∙◌, inl, inr, append-nil, append_assoc, length-append, arith}
use Rattle.std.specs.Prelude.{Option, Some, None, Ok, Err}
use Rattle.std.proofs.lemmas.Bool.Decides.{nat_tests}
use Rattle.act_sessions.specs.declared.request.Demand.{Demand}
use Rattle.act_sessions.specs.declared.request.Demand.TheVariants as demand
use Rattle.act_sessions.specs.declared.request.Request.{Request}
use Rattle.act_sessions.specs.declared.turn_text.TurnText.{TurnText}
use Rattle.act_sessions.specs.Taking.{IsText, TakesDemand}
use Rattle.act_sessions.specs.Exchange.{Exchange}
use Rattle.act_sessions.specs.Rules.{Rules, Turn, Answered, Refused, Reads, exchanges_at, exchanges_of, is_last, request_of, texts, turn_text}
use Rattle.act_store.specs.Plain.{entry_of}
use Rattle.act_store.specs.StoreState.{StoreState}
use Rattle.client_loop.specs.declared.pause.Pause.TheVariants as pause
use Rattle.client_loop.specs.inner.Authors.{IsEntered}
use Rattle.client_loop.specs.Conversation.{AreFew, EntersNothing}
use Rattle.client_loop.specs.Entering.{Enters}
use Rattle.client_loop.specs.declared.author.Author.{Author}
use Rattle.definitions.specs.Limits.{max_withheld}
use Rattle.client_loop.specs.inner.Turns.{Appended, EndsRound, Goes, Moment, TakesTurn, TakesTurns, Writes, pause_after}
use Rattle.act_sessions.proofs.Listing.{Reads_snoc, IsOpen_snoc, IsEnded_snoc, texts_snoc, exchanges_snoc}

pub enters_then : {D : Type 0} (number : ℕ) (old mid new : StoreState D) (xs ys : List Exchange) → Enters number old xs mid → Enters number mid ys new
    → Enters number old (xs ++ ys) new
enters_then {D} number old mid new [] ys first second = subst (λ (s : StoreState D). Enters number s ys new) first second
enters_then number old mid new (x ∷ xs) ys first second = (first.0, first.1, enters_then number first.0 mid new xs ys first.2 second)

-- after a turn that is not the last, the session may take another one
still_room : {F : Type 0} (p : Rules F) (n : ℕ) (t : Turn F) → n < p.most → is_last p n t ≡ false → n + 1 < p.most
still_room p n t room h = grind (arith, nat_tests)

module _ {F D : Type 0} (p : Rules F) (number n most : ℕ) (bytes : List ℕ) (old mid new : Moment D) (count : ℕ) (held left : List ℕ) (r : Request F)
    (below : count < n + most) (short : length mid.out < max_withheld) (goes : Goes p number n bytes old mid count held) (reads : p.reads held r left) where
  few_more : (t : Turn F) → length (goes.turns ++ t ∷ []) ≤ most
  few_more t = let e = length-append goes.turns (t ∷ []) in let f = goes.count_is in omega arith

  reads_more : (t : Turn F) → request_of t ≡ r → Reads p bytes (goes.turns ++ t ∷ []) left
  reads_more t is = Reads_snoc p bytes goes.turns held left t goes.reads (subst (λ (q : Request F). p.reads held q left) (sym is) reads)

  enters_more : (t : Turn F) → Enters number mid.store (exchanges_at t) new.store → Enters number old.store (exchanges_of (goes.turns ++ t ∷ [])) new.store
  enters_more t enters = subst (λ (l : List Exchange). Enters number old.store l new.store) (sym (exchanges_snoc goes.turns t))
      (enters_then number old.store mid.store new.store (exchanges_of goes.turns) (exchanges_at t) goes.enters enters)

  asked_more : (t : Turn F) → new.exchanges ≡ mid.exchanges ++ exchanges_at t → new.exchanges ≡ old.exchanges ++ exchanges_of (goes.turns ++ t ∷ [])
  asked_more t is =
      is ∙ ap (λ (l : List Exchange). l ++ exchanges_at t) goes.exchanges_are ∙ append_assoc old.exchanges (exchanges_of goes.turns) (exchanges_at t)
      ∙ ap (λ (l : List Exchange). old.exchanges ++ l) (sym (exchanges_snoc goes.turns t))

  wrote_more : (t : Turn F) (last : Bool) → is_last p count t ≡ last → new.out ≡ mid.out ++ turn_text p last t
      → new.out ≡ old.out ++ texts p n (goes.turns ++ t ∷ [])
  wrote_more t last is writes =
      writes ∙ ap (λ (l : List ℕ). l ++ turn_text p last t) goes.wrote ∙ append_assoc old.out (texts p n goes.turns) (turn_text p last t)
      ∙ ap (λ (b : Bool). old.out ++ (texts p n goes.turns ++ turn_text p b t)) (sym is)
      ∙ ap (λ (l : List ℕ). old.out ++ l) (sym (texts_snoc p n count goes.turns t (sym goes.count_is)))

  few_more_withheld : (t : Turn F) (last : Bool) → new.out ≡ mid.out ++ turn_text p last t → AreFew p false new.out
  few_more_withheld t last is = (
    turn_text p last t,
    [],
    inr (t, last, refl),
    inl refl,
    λ live. refl,
    let e = ap length is in let f = length-append mid.out (turn_text p last t) in omega arith,
  )

  -- a turn that is not the last
  pub goes_on : TakesTurn p number count r mid new (Some false) → Goes p number n bytes old new (count + 1) left
  goes_on took = record {
    turns = goes.turns ++ took.turn ∷ [];
    reads = reads_more took.turn took.is;
    unended = IsOpen_snoc p n count goes.turns took.turn goes.unended (sym goes.count_is) took.writes.0;
    count_is = let e = length-append goes.turns (took.turn ∷ []) in let f = goes.count_is in omega arith;
    room = still_room p count took.turn goes.room took.writes.0;
    enters = enters_more took.turn took.enters;
    exchanges_are = asked_more took.turn took.exchanges_are;
    few_withheld = λ few. few_more_withheld took.turn false took.writes.1;
    wrote = wrote_more took.turn false took.writes.0 took.writes.1;
  }

  -- the last turn
  pub goes_over : (k : ℕ) → TakesTurn p number count r mid new (Some true) → TakesTurns p number n most bytes old new k left pause.Over
  goes_over k took = record {
    turns = goes.turns ++ took.turn ∷ [];
    few = few_more took.turn;
    rest = left;
    reads = reads_more took.turn took.is;
    enters = enters_more took.turn took.enters;
    exchanges_are = asked_more took.turn took.exchanges_are;
    few_withheld = λ few. few_more_withheld took.turn true took.writes.1;
    paused = (
      IsEnded_snoc p n count goes.turns took.turn goes.unended (sym goes.count_is) took.writes.0,
      wrote_more took.turn true took.writes.0 took.writes.1,
    );
  }

  -- no memory for the text of a turn
  pub goes_unanswered : (k : ℕ) → TakesTurn p number count r mid new None → TakesTurns p number n most bytes old new k left pause.Unanswered
  goes_unanswered k took = record {
    turns = goes.turns ++ took.turn ∷ [];
    few = few_more took.turn;
    rest = left;
    reads = reads_more took.turn took.is;
    enters = enters_more took.turn took.enters;
    exchanges_are = asked_more took.turn took.exchanges_are;
    few_withheld = λ few. subst (AreFew p false) (sym took.writes) (goes.few_withheld few);
    paused = (goes.turns, (goes.unended, inr (took.turn, refl)), took.writes ∙ goes.wrote);
  }

  -- no memory for the text of a turn that entered nothing
  pub goes_silent : (k : ℕ) → (took : TakesTurn p number count r mid new None) → EntersNothing took.turn
      → TakesTurns p number n most bytes old new k left pause.Memory
  goes_silent k took nothing = record {
    turns = goes.turns ++ took.turn ∷ [];
    few = few_more took.turn;
    rest = left;
    reads = reads_more took.turn took.is;
    enters = enters_more took.turn took.enters;
    exchanges_are = asked_more took.turn took.exchanges_are;
    few_withheld = λ few. subst (AreFew p false) (sym took.writes) (goes.few_withheld few);
    paused = (goes.turns, (goes.unended, inr (took.turn, refl)), inr (took.turn, refl, nothing), took.writes ∙ goes.wrote);
  }

module _ {F D : Type 0} (p : Rules F) (number n most : ℕ) (bytes : List ℕ) (old new : Moment D) (count : ℕ) (held : List ℕ)
    (within : count ≤ n + most) (goes : Goes p number n bytes old new count held) where
  few : length goes.turns ≤ most
  few = let f = goes.count_is in omega arith

  -- the bytes are no whole request
  pub goes_waits : p.waits held → length held < p.limit → TakesTurns p number n most bytes old new count held pause.Waits
  goes_waits waits short = record {
    turns = goes.turns;
    few = few;
    rest = held;
    reads = goes.reads;
    enters = goes.enters;
    exchanges_are = goes.exchanges_are;
    few_withheld = goes.few_withheld;
    paused = (goes.unended, refl, waits, short, goes.count_is, goes.room, goes.wrote);
  }

  -- as many turns as may be taken, or many bytes are withheld
  pub goes_pauses : (count ≡ n + most) ⊎ (max_withheld ≤ length new.out) → TakesTurns p number n most bytes old new count held pause.More
  goes_pauses full = record {
    turns = goes.turns;
    few = few;
    rest = held;
    reads = goes.reads;
    enters = goes.enters;
    exchanges_are = goes.exchanges_are;
    few_withheld = goes.few_withheld;
    paused = (
      goes.unended,
      refl,
      ⊎_elim (λ all. inl (let f = goes.count_is in omega (arith, all))) (λ many. inr many) full,
      goes.count_is,
      goes.room,
      goes.wrote,
    );
  }

  -- no memory to read a request
  pub goes_blind : (k : ℕ) (h : List ℕ) → TakesTurns p number n most bytes old new k h pause.Memory
  goes_blind k h = record {
    turns = goes.turns;
    few = few;
    rest = held;
    reads = goes.reads;
    enters = goes.enters;
    exchanges_are = goes.exchanges_are;
    few_withheld = goes.few_withheld;
    paused = (goes.turns, (goes.unended, inl refl), inl refl, goes.wrote);
  }

writes_text : {F : Type 0} (p : Rules F) (n : ℕ) (t : Turn F) (out out_new : List ℕ) (text : TurnText) (r : Option Bool) → IsText p n t text
    → Appended (Some text) out out_new r → Writes p n t out out_new r
writes_text p n t out out_new text (Some last) (is, words) (same, appended) =
    (is ∙ sym same, appended ∙ ap (λ (w : List ℕ). out ++ w) (words ∙ ap (λ (b : Bool). turn_text p b t) (sym same)))
writes_text p n t out out_new text None is same = same

writes_none : {F : Type 0} (p : Rules F) (n : ℕ) (t : Turn F) (out out_new : List ℕ) (r : Option Bool) → Appended None out out_new r → Writes p n t out out_new r
writes_none p n t out out_new (Some last) wrong = absurd wrong
writes_none p n t out out_new None same = same

-- a turn was taken, and its text appended
pub turn_appended : {F D : Type 0} (p : Rules F) (n : ℕ) (d : Demand F) (closes : Bool) (old new : Author) (store store_new : StoreState D) (out out_new : List ℕ)
    (text : Option TurnText) (r : Option Bool) → TakesDemand p IsEntered n d closes old store new store_new text → Appended text out out_new r
    → TakesTurn p old.number n (record { demand = d; closes = closes }) (record { store = store; exchanges = old.exchanges; out = out })
    (record { store = store_new; exchanges = new.exchanges; out = out_new }) r
turn_appended p n (demand.Command c) closes old new store store_new out out_new (Some text) r (answer, (entered, kept), is) wrote = record {
  turn = Answered c closes answer;
  is = refl;
  enters = (store_new, entered, refl);
  exchanges_are = kept;
  writes = writes_text p n (Answered c closes answer) out out_new text r is wrote;
}
turn_appended p n (demand.Command c) closes old new store store_new out out_new None r (Some answer, (entered, kept)) wrote = record {
  turn = Answered c closes answer;
  is = refl;
  enters = (store_new, entered, refl);
  exchanges_are = kept;
  writes = writes_none p n (Answered c closes answer) out out_new r wrote;
}
turn_appended p n (demand.Command c) closes old new store store_new out out_new None r (None, never) wrote = absurd never
turn_appended p n (demand.Fault f) closes old new store store_new out out_new (Some text) r (same, still, is) wrote = record {
  turn = Refused f closes;
  is = refl;
  enters = still;
  exchanges_are = ap (λ (a : Author). a.exchanges) same ∙ sym (append-nil old.exchanges);
  writes = writes_text p n (Refused f closes) out out_new text r is wrote;
}
turn_appended p n (demand.Fault f) closes old new store store_new out out_new None r (same, still, none) wrote = record {
  turn = Refused f closes;
  is = refl;
  enters = still;
  exchanges_are = ap (λ (a : Author). a.exchanges) same ∙ sym (append-nil old.exchanges);
  writes = writes_none p n (Refused f closes) out out_new r wrote;
}

-- a turn after which the history is no longer than before entered nothing
enters_nothing : {F D : Type 0} (number : ℕ) (t : Turn F) (old new : StoreState D) → Enters number old (exchanges_at t) new
    → length new.history ≤ length old.history → EntersNothing t
enters_nothing {F} {D} number (Answered c closes (Ok reply)) old new (mid, one, is) short =
    let e = ap (λ (s : StoreState D). length s.history) (is ∙ one.0) in
    let f = length-append old.history (entry_of old number c ∷ []) in
    absurd (omega (arith, e, f, short))
enters_nothing number (Answered c closes (Err refusal)) old new enters short = tt
enters_nothing number (Refused f closes) old new enters short = tt

pub round_ends : {F D : Type 0} (p : Rules F) (number n most : ℕ) (bytes : List ℕ) (old mid new : Moment D) (count : ℕ) (held left : List ℕ) (r : Request F)
    → count < n + most → length mid.out < max_withheld → Goes p number n bytes old mid count held → p.reads held r left → (last : Option Bool) → TakesTurn p number count r mid new last
    → (entered : Bool) → (entered ≡ false → length new.store.history ≤ length mid.store.history)
    → EndsRound p number n most bytes old new count left (pause_after last entered)
round_ends p number n most bytes old mid new count held left r below short goes reads (Some true) took entered grown = goes_over p number n most bytes old mid new count held left r below short goes reads count took
round_ends p number n most bytes old mid new count held left r below short goes reads (Some false) took entered grown = goes_on p number n most bytes old mid new count held left r below short goes reads took
round_ends p number n most bytes old mid new count held left r below short goes reads None took true grown = goes_unanswered p number n most bytes old mid new count held left r below short goes reads count took
round_ends p number n most bytes old mid new count held left r below short goes reads None took false grown =
    goes_silent p number n most bytes old mid new count held left r below short goes reads count took
    (enters_nothing number took.turn mid.store new.store took.enters (grown refl))
