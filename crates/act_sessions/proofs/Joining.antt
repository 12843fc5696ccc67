-- Two consecutive parts of a session are one part.
use Rattle.std.proofs.Common.{◌≡◌, ℕ, ◌+◌, ◌-◌, ◌^◌, List, [], ◌∷◌, ◌++◌, length, take, refl, sym, ap, subst, ◌∙◌, inl, inr, append-nil, append_assoc, length-append, arith}
use Rattle.std.specs.Prelude.{min, Option, Some, None}
use Rattle.std.specs.Io.KnownBytes.{Consumes, Appends, IsAtEnd}
use Rattle.act_sessions.specs.declared.transcript.Ending.{Ending}
use Rattle.act_sessions.specs.declared.transcript.Ending.TheVariants.{Done, Memory, Broken}
use Rattle.act_sessions.specs.declared.transcript.Part.{Part}
use Rattle.act_sessions.specs.declared.transcript.Part.TheVariants.{AwaitsInput, Over}
use Rattle.act_sessions.specs.Exchange.{Exchange, AreAsked}
use Rattle.act_sessions.specs.Rules.{Rules, Turn, exchanges_at, exchanges_of, is_last, Reads, IsOpen, IsEnded, turn_text, texts, IsSteady}
use Rattle.act_sessions.specs.Session.{Moment, Position, Writes, Did, Goes, IsPart, ArePassed, IsOver, IsPrefix, IsUnheard, ComesNext, EndsSo}
use Rattle.act_sessions.specs.Joined.{added, IsJoined}
use Rattle.act_sessions.proofs.Going.{Writes_trans}
use Rattle.act_sessions.proofs.Listing.{Reads_grows, AreAsked_after}

pub Reads_append : {F : Type 0} (p : Rules F) (bytes middle rest : List ℕ) (ts us : List (Turn F)) → Reads p bytes ts middle → Reads p middle us rest → Reads p bytes (ts ++ us) rest
Reads_append p bytes middle rest [] us r s = subst (λ b. Reads p b us rest) (sym r) s
Reads_append p bytes middle rest (t ∷ ts) us r s = (r.0, r.1, Reads_append p r.0 middle rest ts us r.2 s)

pub IsOpen_append : {F : Type 0} (p : Rules F) (n k : ℕ) (ts us : List (Turn F)) → IsOpen p n ts → n + length ts ≡ k → IsOpen p k us → IsOpen p n (ts ++ us)
IsOpen_append p n k [] us o e h = let same : k ≡ n = omega arith in subst (λ m. IsOpen p m us) same h
IsOpen_append p n k (t ∷ ts) us o e h = (o.0, IsOpen_append p (n + 1) k ts us o.1 (omega arith) h)

pub IsEnded_append : {F : Type 0} (p : Rules F) (n k : ℕ) (ts us : List (Turn F)) → IsOpen p n ts → n + length ts ≡ k → IsEnded p k us → IsEnded p n (ts ++ us)
IsEnded_append p n k [] us o e h = let same : k ≡ n = omega arith in subst (λ m. IsEnded p m us) same h
IsEnded_append p n k (t ∷ []) [] o e h = absurd h
IsEnded_append p n k (t ∷ []) (u ∷ us) o e h = let same : k ≡ n + 1 = omega arith in (o.0, subst (λ m. IsEnded p m (u ∷ us)) same h)
IsEnded_append p n k (t ∷ v ∷ ts) us o e h = (o.0, IsEnded_append p (n + 1) k (v ∷ ts) us o.1 (omega arith) h)

pub texts_append : {F : Type 0} (p : Rules F) (n k : ℕ) (ts us : List (Turn F)) → n + length ts ≡ k → texts p n (ts ++ us) ≡ texts p n ts ++ texts p k us
texts_append p n k [] us e = let same : n ≡ k = omega arith in ap (λ m. texts p m us) same
texts_append p n k (t ∷ ts) us e =
    ap (λ l. turn_text p (is_last p n t) t ++ l) (texts_append p (n + 1) k ts us (omega arith)) ∙ sym (append_assoc (turn_text p (is_last p n t) t) (texts p (n + 1) ts) (texts p k us))

pub exchanges_append : {F : Type 0} (ts us : List (Turn F)) → exchanges_of (ts ++ us) ≡ exchanges_of ts ++ exchanges_of us
exchanges_append [] us = refl
exchanges_append (t ∷ ts) us = ap (λ l. exchanges_at t ++ l) (exchanges_append ts us) ∙ sym (append_assoc (exchanges_at t) (exchanges_of ts) (exchanges_of us))

added_is : (old new exchanges : List Exchange) → new ≡ old ++ exchanges → added old new ≡ exchanges
added_is [] new exchanges e = e
added_is (a ∷ old) new exchanges e = rw e (added_is old (old ++ exchanges) exchanges refl)

-- commands appended to one list can be appended to another
rebased : (old new other exchanges : List Exchange) → AreAsked old new exchanges → AreAsked other (other ++ added old new) exchanges
rebased old new other exchanges (inl e) = inl (ap (λ l. other ++ l) (added_is old new exchanges e))
rebased old new other exchanges (inr (prefix, c, is, e)) = inr (prefix, c, is, ap (λ l. other ++ l) (added_is old new prefix e))

-- a stream that was cut yields what its two pieces yield
read_on : (x y : List ℕ) (i1 i2 : Option (List ℕ)) (read more : List ℕ) → Consumes (Some x) i1 read → IsAtEnd i1 → Consumes (Some y) i2 more
    → Consumes (Some (x ++ y)) i2 (read ++ more)
read_on x y None i2 read more c end d = absurd c
read_on x y (Some rest) None read more c end d = absurd d
read_on x y (Some rest) (Some left) read more c end d =
    ap (λ l. l ++ y) (c ∙ ap (λ l. read ++ l) end ∙ append-nil read) ∙ ap (λ l. read ++ l) d ∙ sym (append_assoc read more left)

-- the moment after both parts
whole_of : Moment → Moment → Moment → List ℕ → Moment
whole_of mid begin new out =
    record { output = new.output; count = min (mid.count + length out) (2 ^ 64 - 1); asked = mid.asked ++ added begin.asked new.asked; listed = mid.listed ++ added begin.listed new.listed }

module _ (F : Type 0) (p : Rules F) (steady : IsSteady p) (from to : Position) (x y : List ℕ) (i1 i2 : Option (List ℕ)) (old mid begin new : Moment)
    (goes : Goes p from (Some x) i1 old mid to) (end : IsAtEnd i1) (same : begin.output ≡ mid.output) where
  wrote_on : (out : List ℕ) → Writes begin new out → Writes old (whole_of mid begin new out) (texts p from.turns goes.turns ++ out)
  unfolding whole_of
  wrote_on out w =
      Writes_trans old mid (whole_of mid begin new out) (texts p from.turns goes.turns) out goes.wrote_all (subst (λ o. Appends o new.output out) same w.0, refl)

  did_on : (turns : List (Turn F)) (rest out : List ℕ) → Did p to (Some y) i2 begin new turns rest out
      → Did p from (Some (x ++ y)) i2 old (whole_of mid begin new out) (goes.turns ++ turns) rest (texts p from.turns goes.turns ++ out)
  unfolding whole_of
  did_on turns rest out did = record {
    read = goes.read ++ did.read;
    consumed = read_on x y i1 i2 goes.read did.read goes.consumed end did.consumed;
    reads =
        let before = Reads_grows p steady (from.held ++ goes.read) goes.turns to.held did.read goes.reads in
        subst (λ b. Reads p b (goes.turns ++ turns) rest) (append_assoc from.held goes.read did.read)
        (Reads_append p ((from.held ++ goes.read) ++ did.read) (to.held ++ did.read) rest goes.turns turns before did.reads);
    held = did.held;
    counted = let e = length-append goes.turns turns in let f = goes.counted in let g = did.counted in omega arith;
    asked_all =
        subst (AreAsked old.asked (mid.asked ++ added begin.asked new.asked)) (sym (exchanges_append goes.turns turns))
        (AreAsked_after old.asked mid.asked (mid.asked ++ added begin.asked new.asked) (exchanges_of goes.turns) (exchanges_of turns) goes.asked_all (rebased begin.asked new.asked mid.asked (exchanges_of turns) did.asked_all));
    listed_all =
        ap (λ l. mid.listed ++ l) (added_is begin.listed new.listed (exchanges_of turns) did.listed_all) ∙ ap (λ l. l ++ exchanges_of turns) goes.listed_all
        ∙ append_assoc old.listed (exchanges_of goes.turns) (exchanges_of turns) ∙ ap (λ l. old.listed ++ l) (sym (exchanges_append goes.turns turns));
    wrote_all = wrote_on out did.wrote_all;
  }

  goes_on_from : (last : Position) (more : Goes p to (Some y) i2 begin new last)
      → Goes p from (Some (x ++ y)) i2 old (whole_of mid begin new (texts p to.turns more.turns)) last
  unfolding whole_of
  goes_on_from last more = record {
    turns = goes.turns ++ more.turns;
    read = goes.read ++ more.read;
    consumed = read_on x y i1 i2 goes.read more.read goes.consumed end more.consumed;
    reads =
        let before = Reads_grows p steady (from.held ++ goes.read) goes.turns to.held more.read goes.reads in
        subst (λ b. Reads p b (goes.turns ++ more.turns) last.held) (append_assoc from.held goes.read more.read)
        (Reads_append p ((from.held ++ goes.read) ++ more.read) (to.held ++ more.read) last.held goes.turns more.turns before more.reads);
    held = more.held;
    unended = IsOpen_append p from.turns to.turns goes.turns more.turns goes.unended goes.counted more.unended;
    counted = let e = length-append goes.turns more.turns in let f = goes.counted in let g = more.counted in omega arith;
    room = more.room;
    asked_all =
        ap (λ l. mid.asked ++ l) (added_is begin.asked new.asked (exchanges_of more.turns) more.asked_all) ∙ ap (λ l. l ++ exchanges_of more.turns) goes.asked_all
        ∙ append_assoc old.asked (exchanges_of goes.turns) (exchanges_of more.turns) ∙ ap (λ l. old.asked ++ l) (sym (exchanges_append goes.turns more.turns));
    listed_all =
        ap (λ l. mid.listed ++ l) (added_is begin.listed new.listed (exchanges_of more.turns) more.listed_all) ∙ ap (λ l. l ++ exchanges_of more.turns) goes.listed_all
        ∙ append_assoc old.listed (exchanges_of goes.turns) (exchanges_of more.turns) ∙ ap (λ l. old.listed ++ l) (sym (exchanges_append goes.turns more.turns));
    wrote_all =
        subst (Writes old (whole_of mid begin new (texts p to.turns more.turns))) (sym (texts_append p from.turns to.turns goes.turns more.turns goes.counted))
        (wrote_on (texts p to.turns more.turns) more.wrote_all);
  }

  passed_on : (turns passed : List (Turn F)) → ArePassed p to.turns turns passed → ArePassed p from.turns (goes.turns ++ turns) (goes.turns ++ passed)
  passed_on turns passed (unended, inl e) = (IsOpen_append p from.turns to.turns goes.turns passed goes.unended goes.counted unended, inl (ap (λ l. goes.turns ++ l) e))
  passed_on turns passed (unended, inr (t, e)) = (
    IsOpen_append p from.turns to.turns goes.turns passed goes.unended goes.counted unended,
    inr (t, ap (λ l. goes.turns ++ l) e ∙ sym (append_assoc goes.turns passed (t ∷ []))),
  )

  -- bytes after the texts of further turns
  texts_on : (passed : List (Turn F)) (out text : List ℕ) → out ≡ texts p to.turns passed ++ text
      → texts p from.turns goes.turns ++ out ≡ texts p from.turns (goes.turns ++ passed) ++ text
  texts_on passed out text e =
      ap (λ l. texts p from.turns goes.turns ++ l) e ∙ sym (append_assoc (texts p from.turns goes.turns) (texts p to.turns passed) text)
      ∙ ap (λ l. l ++ text) (sym (texts_append p from.turns to.turns goes.turns passed goes.counted))

  texts_all : (passed : List (Turn F)) (out : List ℕ) → out ≡ texts p to.turns passed
      → texts p from.turns goes.turns ++ out ≡ texts p from.turns (goes.turns ++ passed)
  texts_all passed out e = ap (λ l. texts p from.turns goes.turns ++ l) e ∙ sym (texts_append p from.turns to.turns goes.turns passed goes.counted)

  over_on : (turns : List (Turn F)) (out : List ℕ) → IsOver p to.turns turns out → IsOver p from.turns (goes.turns ++ turns) (texts p from.turns goes.turns ++ out)
  over_on turns out (inl (ended, e)) = inl (
    IsEnded_append p from.turns to.turns goes.turns turns goes.unended goes.counted ended,
    ap (λ l. texts p from.turns goes.turns ++ l) e ∙ sym (texts_append p from.turns to.turns goes.turns turns goes.counted),
  )
  over_on turns out (inr (passed, are, text, words, e)) = inr (goes.turns ++ passed, passed_on turns passed are, text, words, texts_on passed out text e)

  next_on : (turns passed : List (Turn F)) (text : List ℕ) → ComesNext p to.turns turns passed text → ComesNext p from.turns (goes.turns ++ turns) (goes.turns ++ passed) text
  next_on turns passed text (inl e) = inl e
  next_on turns passed text (inr (t, e, is)) =
      let same_place : to.turns + length passed ≡ from.turns + length (goes.turns ++ passed) = let l = length-append goes.turns passed in let c = goes.counted in omega arith in
      inr (t, ap (λ l. goes.turns ++ l) e ∙ sym (append_assoc goes.turns passed (t ∷ [])), is ∙ ap (λ m. turn_text p (is_last p m t) t) same_place)

  prefix_on : (turns : List (Turn F)) (out : List ℕ) → IsPrefix p to.turns turns out → IsPrefix p from.turns (goes.turns ++ turns) (texts p from.turns goes.turns ++ out)
  prefix_on turns out (passed, are, text, next, k, e) =
      (goes.turns ++ passed, passed_on turns passed are, text, next_on turns passed text next, k, texts_on passed out (take k text) e)

  unheard_on : (turns : List (Turn F)) (rest out : List ℕ) → IsUnheard p to.turns turns rest out
      → IsUnheard p from.turns (goes.turns ++ turns) rest (texts p from.turns goes.turns ++ out)
  unheard_on turns rest out (unended, waits, e) =
      (IsOpen_append p from.turns to.turns goes.turns turns goes.unended goes.counted unended, waits, texts_all turns out e)

  ends_on : (how : Ending) (turns : List (Turn F)) (rest out : List ℕ) → EndsSo p to.turns how turns rest out
      → EndsSo p from.turns how (goes.turns ++ turns) rest (texts p from.turns goes.turns ++ out)
  ends_on Done turns rest out over = over_on turns out over
  ends_on Memory turns rest out (silent, passed, are, e) = (silent, goes.turns ++ passed, passed_on turns passed are, texts_all passed out e)
  ends_on Broken turns rest out (inl unheard) = inl (unheard_on turns rest out unheard)
  ends_on Broken turns rest out (inr prefix) = inr (prefix_on turns out prefix)

  is_joined : (out : List ℕ) → IsJoined mid begin new (whole_of mid begin new out)
  unfolding whole_of
  is_joined out = record { output = refl; asked = refl; listed = refl }

  pub two_parts : (last : Position) (r : Part) → IsPart p to (Some y) i2 begin new last r
      → (whole : Moment) × IsJoined mid begin new whole × IsPart p from (Some (x ++ y)) i2 old whole last r
  two_parts last AwaitsInput (more, waits, at_end) =
      (whole_of mid begin new (texts p to.turns more.turns), is_joined (texts p to.turns more.turns), (goes_on_from last more, waits, at_end))
  two_parts last (Over how) (turns, rest, out, did, ends) = (
    whole_of mid begin new out,
    is_joined out,
    (goes.turns ++ turns, rest, texts p from.turns goes.turns ++ out, did_on turns rest out did, ends_on how turns rest out ends),
  )
