-- A session that hears another piece.
use Rattle.std.proofs.Common.{◌≡◌, ◌⊎◌, ⊎_elim, ℕ, ◌+◌, ◌<◌, ◌≤◌, true, false, Bool, List, [], ◌∷◌, ◌++◌, length, take, refl, sym, ap, subst, ◌∙◌, inl, inr, append_assoc, append-nil, length-append, arith, zero, suc}
use Rattle.std.specs.Prelude.{◌≢◌, Option, Some, None}
use Rattle.act_sessions.specs.Exchange.{Exchange}
use Rattle.act_sessions.specs.Rules.{Rules, Turn, Answered, Refused, Reads, IsOpen, IsSteady, exchanges_of, texts}
use Rattle.act_sessions.specs.Session.{ArePassed}
use Rattle.act_sessions.proofs.Joining.{IsEnded_append, IsOpen_append, Reads_append, exchanges_append, texts_append}
use Rattle.act_sessions.proofs.Listing.{Reads_grows}
use Rattle.client_loop.specs.declared.pause.Pause.TheVariants as pause
use Rattle.client_loop.specs.declared.pause.Pause.{Pause}
use Rattle.client_loop.specs.Clients.{parted_of}
use Rattle.client_loop.specs.Conversation.{AllAnswered, AnswersTurns, AreAnswers, AreFew, AreWhole, Conversation, IsInMemory, IsLastText, IsParting, IsTrueLast}
use Rattle.client_loop.specs.Conversation.{answer_bytes, farewell_text}
use Rattle.client_loop.specs.Hearing.{Hears}
use Rattle.definitions.specs.Limits.{max_taken, max_withheld}
use Rattle.client_loop.specs.inner.Turns.{Moment, TakesTurns}

module _ {F : Type 0} (p : Rules F) where
  passed_append : (n k : ℕ) (us ts passed : List (Turn F)) → IsOpen p n us → n + length us ≡ k → ArePassed p k ts passed
      → ArePassed p n (us ++ ts) (us ++ passed)
  passed_append n k us ts passed o e (still, inl all) = (IsOpen_append p n k us passed o e still, inl (ap (λ (l : List (Turn F)). us ++ l) all))
  passed_append n k us ts passed o e (still, inr (t, but)) =
      (IsOpen_append p n k us passed o e still, inr (t, ap (λ (l : List (Turn F)). us ++ l) but ∙ sym (append_assoc us passed (t ∷ []))))

  answered_append : (us ts passed : List (Turn F)) → AllAnswered ts passed → AllAnswered (us ++ ts) (us ++ passed)
  answered_append us ts passed (inl all) = inl (ap (λ (l : List (Turn F)). us ++ l) all)
  answered_append us ts passed (inr (t, but, nothing)) =
      inr (t, ap (λ (l : List (Turn F)). us ++ l) but ∙ sym (append_assoc us passed (t ∷ [])), nothing)

  true_last : (turns passed : List (Turn F)) (last : List ℕ) → AllAnswered turns passed → IsLastText p last → IsTrueLast p turns passed last
  true_last turns passed last all (inl none) = inl none
  true_last turns passed last all (inr response) = inr (response, all)

  few_exchanges : (ts : List (Turn F)) (most : ℕ) → length ts ≤ most → length (exchanges_of ts) ≤ most
  few_exchanges [] most few = omega arith
  few_exchanges (Answered c closes a ∷ ts) (suc most) few = let rest = few_exchanges ts most (omega (arith, few)) in omega (arith, rest)
  few_exchanges (Answered c closes a ∷ ts) zero few = absurd (omega (arith, few))
  few_exchanges (Refused f closes ∷ ts) (suc most) few = let rest = few_exchanges ts most (omega (arith, few)) in omega (arith, rest)
  few_exchanges (Refused f closes ∷ ts) zero few = absurd (omega (arith, few))

  still_few : (over : Bool) (bytes : List ℕ) → AreFew p false bytes → AreFew p over bytes
  still_few over bytes (answer, last, is, is_last_text, live, few) = (answer, last, is, is_last_text, λ goes_on. live refl, few)

  fewer : (over : Bool) (bytes some : List ℕ) → length some ≤ length bytes → AreFew p over bytes → AreFew p over some
  fewer over bytes some less (answer, last, is, is_last_text, live, few) = (answer, last, is, is_last_text, live, omega (arith, less, few))

  -- with the last text of a session
  few_ended : (bytes last out : List ℕ) → IsLastText p last → out ≡ bytes ++ last → AreFew p false bytes → AreFew p true out
  few_ended bytes last out text is (answer, none, of_one, none_is, live, few) = (
    answer,
    last,
    of_one,
    text,
    λ goes_on. cc,
    let e = ap length is in let f = length-append bytes last in let g = ap length (live refl) in omega (arith, e, f, g, few),
  )

  -- ---- a session with whose client the service has not parted

  not_both : (b : Bool) → b ≡ false → b ≡ true → ⊥
  not_both true isnt is = cc
  not_both false isnt is = cc

  live_unparted : (c : Conversation) (ts : List (Turn F)) (o : Option (List ℕ)) → c.over ≡ false → AnswersTurns p c ts o → o ≡ None
  live_unparted c ts None live answers = refl
  live_unparted c ts (Some farewell) live answers = absurd (not_both c.over live answers.0)

  owing_unparted : (c : Conversation) (ts : List (Turn F)) (o : Option (List ℕ)) → c.withheld ≢ [] → AnswersTurns p c ts o → o ≡ None
  owing_unparted c ts None some answers = refl
  owing_unparted c ts (Some farewell) some answers = absurd (some answers.1)

  unparted_answers : (c : Conversation) (ts : List (Turn F)) → c.parted ≡ None → AnswersTurns p c ts c.parted → AreAnswers p c.over ts (answer_bytes c)
  unparted_answers c ts is answers = subst (λ (o : Option (List ℕ)). AnswersTurns p c ts o) is answers

  module _ {D : Type 0} (steady : IsSteady p) (number : ℕ) (old : Conversation) (held piece : List ℕ) (cut : Bool) (at : IsInMemory p old held cut)
      (live : old.over ≡ false) (begin end : Moment D) (exchanges_were : begin.exchanges ≡ old.exchanges) (out_was : begin.out ≡ old.withheld)
      (received : List ℕ) (received_is : received ≡ old.received ++ piece) (k : ℕ) (h : List ℕ) where
    abbrev us : List (Turn F)
    us = at.follows.turns

    abbrev count : ℕ
    count = old.requests

    abbrev Took : Pause → Type 0
    Took why = TakesTurns p number count max_taken (held ++ piece) begin end k h why

    unparted : old.parted ≡ None
    unparted = live_unparted old us old.parted live at.follows.answers_are

    unended : IsOpen p 0 us × (answer_bytes old ≡ texts p 0 us)
    unended = subst (λ (b : Bool). AreAnswers p b us (answer_bytes old)) live (unparted_answers old us unparted at.follows.answers_are)

    count_is : 0 + length us ≡ count
    count_is = let e : count ≡ length us = at.follows.requests_are live in omega arith

    grown : Reads p (old.received ++ piece) us (held ++ piece)
    grown = Reads_grows p steady old.received us held piece
        (subst (λ (l : List ℕ). Reads p old.received us l) (sym (at.held_is live)) at.follows.reads)

    abbrev after : Bool → Bool → List ℕ → Conversation
    after more over out =
        record { received = received; requests = k; exchanges = end.exchanges; sent = old.sent; withheld = out; more = more; over = over; parted = old.parted }

    -- the answers to more turns
    answers_after : (more over : Bool) (out : List ℕ) (ts : List (Turn F)) → AreAnswers p over (us ++ ts) (old.sent ++ out)
        → AnswersTurns p (after more over out) (us ++ ts) old.parted
    answers_after more over out ts are =
        subst (λ (o : Option (List ℕ)). AnswersTurns p (after more over out) (us ++ ts) o) (sym unparted) are

    -- what was sent are whole answers, as before
    whole_after : (ts : List (Turn F)) → cut ≡ false → AreWhole p (us ++ ts) old.sent
    whole_after ts uncut = by_withheld old.withheld refl
      where
        by_withheld : (l : List ℕ) → old.withheld ≡ l → AreWhole p (us ++ ts) old.sent
        by_withheld [] none = record {
          answered = us;
          others = ts;
          turns_are = refl;
          unended = unended.0;
          sent_is = sym (append-nil old.sent) ∙ ap (λ (l : List ℕ). old.sent ++ l) (sym none) ∙ unended.1;
        }
        by_withheld (b ∷ bs) some =
            let w = at.whole uncut (λ none. let both : b ∷ bs ≡ [] = sym some ∙ none in cc) in
            record {
              answered = w.answered;
              others = w.others ++ ts;
              turns_are = ap (λ (l : List (Turn F)). l ++ ts) w.turns_are ∙ append_assoc w.answered w.others ts;
              unended = w.unended;
              sent_is = w.sent_is;
            }

    exchanges_on : (why : Pause) → (took : Took why) → end.exchanges ≡ exchanges_of (us ++ took.turns)
    exchanges_on why took =
        took.exchanges_are ∙ ap (λ (l : List Exchange). l ++ exchanges_of took.turns) (exchanges_were ∙ at.follows.exchanges_are)
        ∙ sym (exchanges_append us took.turns)

    reads_on : (why : Pause) → (took : Took why) → Reads p received (us ++ took.turns) took.rest
    reads_on why took = subst (λ (l : List ℕ). Reads p l (us ++ took.turns) took.rest) (sym received_is)
        (Reads_append p (old.received ++ piece) (held ++ piece) took.rest us took.turns grown took.reads)

    answers_on : (ts : List (Turn F)) (out : List ℕ) → out ≡ begin.out ++ texts p count ts → old.sent ++ out ≡ texts p 0 (us ++ ts)
    answers_on ts out is =
        ap (λ (l : List ℕ). old.sent ++ l) (is ∙ ap (λ (l : List ℕ). l ++ texts p count ts) out_was)
        ∙ sym (append_assoc old.sent old.withheld (texts p count ts))
        ∙ ap (λ (l : List ℕ). l ++ texts p count ts) unended.1
        ∙ sym (texts_append p 0 count us ts count_is)

    answers_open : (over : Bool) → over ≡ false → (ts : List (Turn F)) → IsOpen p count ts → end.out ≡ begin.out ++ texts p count ts
        → AreAnswers p over (us ++ ts) (old.sent ++ end.out)
    answers_open over over_is ts unended_on wrote = subst (λ (b : Bool). AreAnswers p b (us ++ ts) (old.sent ++ end.out)) (sym over_is)
        (IsOpen_append p 0 count us ts unended.0 count_is unended_on, answers_on ts end.out wrote)

    few : (why : Pause) (over : Bool) → Took why → AreFew p over end.out
    few why over took =
        let were : AreFew p false begin.out = subst (AreFew p false) (sym out_was) (subst (λ (b : Bool). AreFew p b old.withheld) live at.follows.few_withheld) in
        still_few over end.out (took.few_withheld were)

    pub at_waiting : (over : Bool) → over ≡ false → Took pause.Waits → IsInMemory p (after false over end.out) h cut
    at_waiting over over_is took = record {
      follows = record {
        turns = us ++ took.turns;
        rest = took.rest;
        reads = reads_on pause.Waits took;
        requests_are = λ still. let e = took.paused.4 in let f = length-append us took.turns in let c = count_is in omega arith;
        exchanges_are = exchanges_on pause.Waits took;
        answers_are = answers_after false over end.out took.turns (answers_open over over_is took.turns took.paused.0 took.paused.6);
        waits = λ still none. (
          inr (subst p.waits (sym took.paused.1) took.paused.2),
          subst (λ (l : List ℕ). length l ≤ p.limit) (sym took.paused.1) (let short = took.paused.3 in omega arith),
        );
        few_withheld = few pause.Waits over took;
      };
      held_is = λ still. sym took.paused.1;
      room = λ still. took.paused.5;
      whole = λ uncut some. whole_after took.turns uncut;
    }

    pub at_more : (over : Bool) → over ≡ false → Took pause.More → IsInMemory p (after true over end.out) h cut
    at_more over over_is took = record {
      follows = record {
        turns = us ++ took.turns;
        rest = took.rest;
        reads = reads_on pause.More took;
        requests_are = λ still. let e = took.paused.3 in let f = length-append us took.turns in let c = count_is in omega arith;
        exchanges_are = exchanges_on pause.More took;
        answers_are = answers_after true over end.out took.turns (answers_open over over_is took.turns took.paused.0 took.paused.5);
        waits = λ still none. cc;
        few_withheld = few pause.More over took;
      };
      held_is = λ still. sym took.paused.1;
      room = λ still. took.paused.4;
      whole = λ uncut some. whole_after took.turns uncut;
    }

    pub at_over : (more : Bool) → Took pause.Over → IsInMemory p (after more true end.out) h cut
    at_over more took = record {
      follows = record {
        turns = us ++ took.turns;
        rest = took.rest;
        reads = reads_on pause.Over took;
        requests_are = λ still. cc;
        exchanges_are = exchanges_on pause.Over took;
        answers_are = answers_after more true end.out took.turns
            (inl (IsEnded_append p 0 count us took.turns unended.0 count_is took.paused.0, answers_on took.turns end.out took.paused.1));
        waits = λ still none. cc;
        few_withheld = few pause.Over true took;
      };
      held_is = λ still. cc;
      room = λ still. cc;
      whole = λ uncut some. whole_after took.turns uncut;
    }

    pub at_starved : (more : Bool) (last out : List ℕ) → IsLastText p last → out ≡ end.out ++ last → Took pause.Memory
        → IsInMemory p (after more true out) h cut
    at_starved more last out text is took = record {
      follows = record {
        turns = us ++ took.turns;
        rest = took.rest;
        reads = reads_on pause.Memory took;
        requests_are = λ still. cc;
        exchanges_are = exchanges_on pause.Memory took;
        answers_are = answers_after more true out took.turns (inr (
          us ++ took.paused.0,
          passed_append 0 count us took.turns took.paused.0 unended.0 count_is took.paused.1,
          last,
          true_last (us ++ took.turns) (us ++ took.paused.0) last (answered_append us took.turns took.paused.0 took.paused.2) text,
          ap (λ (l : List ℕ). old.sent ++ l) is ∙ sym (append_assoc old.sent end.out last)
              ∙ ap (λ (l : List ℕ). l ++ last) (answers_on took.paused.0 end.out took.paused.3),
        ));
        waits = λ still none. cc;
        few_withheld = few_ended end.out last out text is (few pause.Memory false took);
      };
      held_is = λ still. cc;
      room = λ still. cc;
      whole = λ uncut some. whole_after took.turns uncut;
    }

    pub at_unanswered : (more : Bool) → Took pause.Unanswered → IsInMemory p (after more true end.out) h cut
    at_unanswered more took = record {
      follows = record {
        turns = us ++ took.turns;
        rest = took.rest;
        reads = reads_on pause.Unanswered took;
        requests_are = λ still. cc;
        exchanges_are = exchanges_on pause.Unanswered took;
        answers_are = answers_after more true end.out took.turns (inr (
          us ++ took.paused.0,
          passed_append 0 count us took.turns took.paused.0 unended.0 count_is took.paused.1,
          [],
          inl refl,
          answers_on took.paused.0 end.out took.paused.2 ∙ sym (append-nil (texts p 0 (us ++ took.paused.0))),
        ));
        waits = λ still none. cc;
        few_withheld = few pause.Unanswered true took;
      };
      held_is = λ still. cc;
      room = λ still. cc;
      whole = λ uncut some. whole_after took.turns uncut;
    }

    grew : (why : Pause) → Took why → (text : List ℕ) × (end.out ≡ begin.out ++ text)
    grew pause.Waits took = (texts p count took.turns, took.paused.6)
    grew pause.More took = (texts p count took.turns, took.paused.5)
    grew pause.Over took = (texts p count took.turns, took.paused.1)
    grew pause.Memory took = (texts p count took.paused.0, took.paused.3)
    grew pause.Unanswered took = (texts p count took.paused.0, took.paused.2)

    -- as many turns were taken as may be, or many bytes are withheld
    pub full_of : Took pause.More → (k ≡ count + max_taken) ⊎ (max_withheld ≤ length end.out)
    full_of took = ⊎_elim (λ all. inl (let e = took.paused.3 in omega (arith, all))) (λ many. inr many) took.paused.2

    -- the piece was heard, and then a last text was appended
    pub hears_after : (more over : Bool) (last out : List ℕ) → out ≡ end.out ++ last
        → (over ≡ false → more ≡ true → (k ≡ count + max_taken) ⊎ (max_withheld ≤ length out)) → (why : Pause) → Took why
        → Hears number piece begin.store old end.store (after more over out)
    hears_after more over last out is full why took =
        let text = grew why took in
        record {
          received_is = received_is;
          sent_is = refl;
          parted_is = refl;
          exchanges = exchanges_of took.turns;
          few = few_exchanges took.turns max_taken took.few;
          full = full;
          exchanges_are = took.exchanges_are ∙ ap (λ (l : List Exchange). l ++ exchanges_of took.turns) exchanges_were;
          enters = took.enters;
          text = text.0 ++ last;
          withheld_is =
              is ∙ ap (λ (l : List ℕ). l ++ last) (text.1 ∙ ap (λ (l : List ℕ). l ++ text.0) out_was)
              ∙ append_assoc old.withheld text.0 last;
        }

  -- before the first byte
  pub at_first : (received : List ℕ) (exchanges : List Exchange) (sent withheld held : List ℕ) → 0 < p.most → received ≡ [] → exchanges ≡ []
      → sent ≡ [] → withheld ≡ [] → held ≡ []
      → IsInMemory p (record { received = received; requests = 0; exchanges = exchanges; sent = sent; withheld = withheld; more = false; over = false; parted = None })
      held false
  at_first received exchanges sent withheld held some no_received no_exchanges no_sent no_withheld no_held = record {
    follows = record {
      turns = [];
      rest = held;
      reads = no_received ∙ sym no_held;
      requests_are = λ still. refl;
      exchanges_are = no_exchanges;
      answers_are = (tt, ap (λ (l : List ℕ). l ++ withheld) no_sent ∙ no_withheld);
      waits = λ still none. (inl no_received, subst (λ (l : List ℕ). length l ≤ p.limit) (sym no_held) (omega arith));
      few_withheld = ([], [], inl refl, inl refl, λ live. refl, subst (λ (l : List ℕ). length l < max_withheld + (length {A = ℕ} [] + length {A = ℕ} [])) (sym no_withheld) (omega arith));
    };
    held_is = λ still. refl;
    room = λ still. some;
    whole = λ uncut owing. absurd (owing no_withheld);
  }

  none_left : (xs ys : List ℕ) → length xs ≤ length ys → ys ≡ [] → xs ≡ []
  none_left [] ys less none = refl
  none_left (x ∷ xs) ys less none = let e : length ys ≡ 0 = ap length none in absurd (omega (arith, less, e))

  -- the same bytes of answers, of which more were sent
  sent_answers : (c : Conversation) (ts : List (Turn F)) (sent withheld : List ℕ) → sent ++ withheld ≡ answer_bytes c → length withheld ≤ length c.withheld
      → (o : Option (List ℕ)) → AnswersTurns p c ts o → AnswersTurns p (record c { sent = sent; withheld = withheld }) ts o
  sent_answers c ts sent withheld same less None answers = subst (λ (l : List ℕ). AreAnswers p c.over ts l) (sym same) answers
  sent_answers c ts sent withheld same less (Some farewell) (over, none, parting) =
      let left : withheld ≡ [] = none_left withheld c.withheld less none in
      let sent_is : sent ≡ c.sent =
      sym (append-nil sent) ∙ ap (λ (l : List ℕ). sent ++ l) (sym left) ∙ same ∙ ap (λ (l : List ℕ). c.sent ++ l) none ∙ append-nil c.sent in
      (over, left, subst (λ (l : List ℕ). IsParting p ts l farewell) (sym sent_is) parting)

  pub at_sent : (c : Conversation) (sent withheld held : List ℕ) (cut cut_new : Bool) → sent ++ withheld ≡ answer_bytes c → length withheld ≤ length c.withheld
      → (cut_new ≡ false → withheld ≡ []) → IsInMemory p c held cut → IsInMemory p (record c { sent = sent; withheld = withheld }) held cut_new
  at_sent c sent withheld held cut cut_new same less all at = record {
    follows = record {
      turns = at.follows.turns;
      rest = at.follows.rest;
      reads = at.follows.reads;
      requests_are = at.follows.requests_are;
      exchanges_are = at.follows.exchanges_are;
      answers_are = sent_answers c at.follows.turns sent withheld same less c.parted at.follows.answers_are;
      waits = at.follows.waits;
      few_withheld = fewer c.over c.withheld withheld less at.follows.few_withheld;
    };
    held_is = at.held_is;
    room = at.room;
    whole = λ uncut owing. absurd (owing (all uncut));
  }

  take_none : (n : ℕ) → take {A = ℕ} n [] ≡ []
  take_none zero = refl
  take_none (suc n) = refl

  -- after a device fault
  pub at_parted : (c : Conversation) (held : List ℕ) (cut : Bool) (text : List ℕ) (n : ℕ) (farewell : List ℕ) → farewell ≡ take n text → c.withheld ≢ []
      → (text ≡ []) ⊎ ((cut ≡ false) × (text ≡ farewell_text p)) → IsInMemory p c held cut → IsInMemory p (parted_of c farewell) held cut
  at_parted c held cut text n farewell is some how at =
      let ts = at.follows.turns in
      let unparted : c.parted ≡ None = owing_unparted c ts c.parted some at.follows.answers_are in
      let parting : IsParting p ts c.sent farewell = record {
        was_over = c.over;
        dropped = c.withheld;
        some = some;
        answers_are = unparted_answers c ts unparted at.follows.answers_are;
        refuses = ⊎_elim (λ none. inl (is ∙ ap (λ (l : List ℕ). take n l) none ∙ take_none n))
            (λ told. inr (at.whole told.0 some, n, is ∙ ap (λ (l : List ℕ). take n l) told.1)) how;
      } in
      record {
        follows = record {
          turns = ts;
          rest = at.follows.rest;
          reads = at.follows.reads;
          requests_are = λ still. cc;
          exchanges_are = at.follows.exchanges_are;
          answers_are = (refl, refl, parting);
          waits = λ still none. cc;
          few_withheld = ([], [], inl refl, inl refl, λ live. refl, omega arith);
        };
        held_is = λ still. cc;
        room = λ still. cc;
        whole = λ uncut owing. absurd (owing refl);
      }
