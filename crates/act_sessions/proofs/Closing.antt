-- What the end of a session implies for an observer who knows only the bytes of the reader.
use Rattle.std.proofs.Common.{◌≡◌, ◌≢◌, ℕ, List, ◌++◌, [], refl, sym, subst, inl, inr, append-nil, arith}
use Rattle.std.specs.Prelude.{Option, Some, None}
use Rattle.std.specs.Io.KnownBytes.{Consumes}
use Rattle.act_sessions.specs.declared.transcript.Ending.{Ending}
use Rattle.act_sessions.specs.declared.transcript.Ending.TheVariants.{Done, Memory, Broken}
use Rattle.act_sessions.specs.declared.transcript.Part.{Part}
use Rattle.act_sessions.specs.declared.transcript.Part.TheVariants.{AwaitsInput, Over}
use Rattle.act_sessions.specs.declared.transcript.Transcript.{Transcript}
use Rattle.act_sessions.specs.Ends.{Ends, EndsOver, EndsOverSome, HasEnded, HasFailed, HasFinished}
use Rattle.act_sessions.specs.Rules.{Rules, Turn, texts, exchanges_of}
use Rattle.act_sessions.specs.Session.{Moment, moment, Position, start, first, Did, HasStopped, IsDone, IsCut, IsPart, IsWhole}
use Rattle.act_sessions.specs.Exchange.{AreAsked, OnlyLastOpen, Exchange, exchanges_by}
use Rattle.act_sessions.proofs.Shut.{only_open, only_over}

-- the bytes that a reader still holds
unread_of : (bytes read : List ℕ) (new : Option (List ℕ)) → Consumes (Some bytes) new read → (unread : List ℕ) × (new ≡ Some unread) × (bytes ≡ read ++ unread)
unread_of bytes read None c = absurd c
unread_of bytes read (Some unread) c = (unread, refl, c)

ends_over : {F : Type 0} (p : Rules F) (bytes : List ℕ) (new output written : Option (List ℕ)) (asked exchanges : List Exchange) (t : Transcript)
    (turns : List (Turn F)) (rest out : List ℕ) → (did : Did p first (Some bytes) new (start output asked) (moment written exchanges t) turns rest out)
    → ((unread : List ℕ) → new ≡ Some unread → HasEnded p t.ending turns rest unread out) → EndsOver p bytes t
ends_over p bytes new output written asked exchanges t turns rest out did ended =
    let unread = unread_of bytes did.read new did.consumed in (
      did.read,
      unread.0,
      turns,
      rest,
      out,
      unread.2,
      did.reads,
      did.listed_all,
      let w = did.wrote_all.1 in omega arith,
      ended unread.0 unread.1,
    )

pub ends_done : {F : Type 0} (p : Rules F) (old new output written : Option (List ℕ)) (asked exchanges : List Exchange) (t : Transcript)
    → IsDone p old new (start output asked) (moment written exchanges t) → t.ending ≡ Done → Ends p old t
ends_done {F} p old new output written asked exchanges t (turns, rest, out, did, whole) done bytes is =
    let did_of : Option (List ℕ) → Type 0 = λ i. Did p first i new (start output asked) (moment written exchanges t) turns rest out in
    let ended_of : Ending → List ℕ → Type 0 = λ how unread. HasEnded p how turns rest unread out in
    let whole_of : Option (List ℕ) → Type 0 = λ i. IsWhole p turns rest i out in
    ends_over p bytes new output written asked exchanges t turns rest out (subst did_of is did)
    (λ unread same. subst (λ how. ended_of how unread) (sym done) (subst whole_of same whole))

cut_ended : {F : Type 0} (p : Rules F) (how : Ending) (turns : List (Turn F)) (rest unread out : List ℕ) → HasStopped p 0 how turns rest out
    → HasEnded p how turns rest unread out
cut_ended p Done turns rest unread out h = absurd h
cut_ended p Memory turns rest unread out h = h
cut_ended p Broken turns rest unread out h = h

pub ends_cut : {F : Type 0} (p : Rules F) (old new output written : Option (List ℕ)) (asked exchanges : List Exchange) (t : Transcript)
    → IsCut p t.ending old new (start output asked) (moment written exchanges t) → Ends p old t
ends_cut {F} p old new output written asked exchanges t (turns, rest, out, did, cut) bytes is =
    let did_of : Option (List ℕ) → Type 0 = λ i. Did p first i new (start output asked) (moment written exchanges t) turns rest out in
    ends_over p bytes new output written asked exchanges t turns rest out (subst did_of is did) (λ unread same. cut_ended p t.ending turns rest unread out cut)

not_done : {F : Type 0} (p : Rules F) (how : Ending) (turns : List (Turn F)) (rest out : List ℕ) → HasStopped p 0 how turns rest out → how ≢ Done
not_done p Done turns rest out h e = h
not_done p Memory turns rest out h e = cc
not_done p Broken turns rest out h e = cc

pub cut_not_done : {F : Type 0} (p : Rules F) (how : Ending) (old new output written : Option (List ℕ)) (asked exchanges : List Exchange) (t : Transcript)
    → IsCut p how old new (start output asked) (moment written exchanges t) → how ≢ Done
cut_not_done p how old new output written asked exchanges t (turns, rest, out, did, cut) = not_done p how turns rest out cut

pub asked_done : {F : Type 0} (p : Rules F) (old new output written : Option (List ℕ)) (asked exchanges : List Exchange) (t : Transcript)
    → IsDone p old new (start output asked) (moment written exchanges t) → AreAsked asked exchanges (exchanges_by t)
asked_done p old new output written asked exchanges t (turns, rest, out, did, whole) = subst (AreAsked asked exchanges) (sym did.listed_all) did.asked_all

pub asked_cut : {F : Type 0} (p : Rules F) (how : Ending) (old new output written : Option (List ℕ)) (asked exchanges : List Exchange) (t : Transcript)
    → IsCut p how old new (start output asked) (moment written exchanges t) → AreAsked asked exchanges (exchanges_by t)
asked_cut p how old new output written asked exchanges t (turns, rest, out, did, cut) = subst (AreAsked asked exchanges) (sym did.listed_all) did.asked_all

-- ---- for an observer who does not know the input: the bytes that were read are such an input

over_read : {F : Type 0} (p : Rules F) (i i2 output written : Option (List ℕ)) (asked exchanges : List Exchange) (t : Transcript) (turns : List (Turn F))
    (rest out : List ℕ) → Did p first i i2 (start output asked) (moment written exchanges t) turns rest out → HasEnded p t.ending turns rest [] out → EndsOverSome p t
over_read p i i2 output written asked exchanges t turns rest out did ended =
    (did.read, (did.read, [], turns, rest, out, sym (append-nil did.read), did.reads, did.listed_all, let w = did.wrote_all.1 in omega arith, ended))

whole_read : {F : Type 0} (p : Rules F) (turns : List (Turn F)) (rest out : List ℕ) (input : Option (List ℕ)) → IsWhole p turns rest input out
    → IsWhole p turns rest (Some []) out
whole_read p turns rest out input (inl ended) = inl ended
whole_read p turns rest out input (inr (inl (unended, waits, end, e))) = inr (inl (unended, waits, refl, e))
whole_read p turns rest out input (inr (inr out_of_memory_response)) = inr (inr out_of_memory_response)

pub heard_done : {F : Type 0} (p : Rules F) (i i2 output written : Option (List ℕ)) (asked exchanges : List Exchange) (t : Transcript)
    → IsDone p i i2 (start output asked) (moment written exchanges t) → t.ending ≡ Done → EndsOverSome p t
heard_done {F} p i i2 output written asked exchanges t (turns, rest, out, did, whole) done =
    let ended_of : Ending → Type 0 = λ how. HasEnded p how turns rest [] out in
    over_read p i i2 output written asked exchanges t turns rest out did (subst ended_of (sym done) (whole_read p turns rest out i2 whole))

pub heard_cut : {F : Type 0} (p : Rules F) (i i2 output written : Option (List ℕ)) (asked exchanges : List Exchange) (t : Transcript)
    → IsCut p t.ending i i2 (start output asked) (moment written exchanges t) → EndsOverSome p t
heard_cut p i i2 output written asked exchanges t (turns, rest, out, did, cut) =
    over_read p i i2 output written asked exchanges t turns rest out did (cut_ended p t.ending turns rest [] out cut)

-- ---- what a caller sees of a session that was answered Ok

pub finished : {F : Type 0} (p : Rules F) (i i2 output written : Option (List ℕ)) (asked exchanges : List Exchange) (t : Transcript)
    → IsDone p i i2 (start output asked) (moment written exchanges t) → t.ending ≡ Done → HasFinished p i i2 output written asked exchanges t
finished p i i2 output written asked exchanges t done ending = (
  done,
  (ending, ends_done p i i2 output written asked exchanges t done ending, asked_done p i i2 output written asked exchanges t done),
  heard_done p i i2 output written asked exchanges t done ending,
)

-- and of one that ended with a fault
pub failed : {F : Type 0} (p : Rules F) (i i2 output written : Option (List ℕ)) (asked exchanges : List Exchange) (t : Transcript)
    → IsCut p t.ending i i2 (start output asked) (moment written exchanges t) → HasFailed p i i2 output written asked exchanges t
failed p i i2 output written asked exchanges t cut = (
  cut,
  (
    cut_not_done p t.ending i i2 output written asked exchanges t cut,
    ends_cut p i i2 output written asked exchanges t cut,
    asked_cut p t.ending i i2 output written asked exchanges t cut,
  ),
  heard_cut p i i2 output written asked exchanges t cut,
)

-- ---- parts

pub part_told : {F : Type 0} (p : Rules F) (from to : Position) (i i2 output written : Option (List ℕ)) (asked now : List Exchange) (old new : Transcript) (end : Part)
    → IsPart p from i i2 (moment output asked old) (moment written now new) to end
    → (exchanges : List Exchange) × AreAsked asked now exchanges × (exchanges_by new ≡ exchanges_by old ++ exchanges) × OnlyLastOpen exchanges
part_told p from to i i2 output written asked now old new AwaitsInput (goes, waits, end) =
    (exchanges_of goes.turns, inl goes.asked_all, goes.listed_all, only_open p from.turns goes.turns goes.unended)
part_told p from to i i2 output written asked now old new (Over how) (turns, rest, out, did, ends) =
    (exchanges_of turns, did.asked_all, did.listed_all, only_over p from.turns how turns rest out ends)

-- the only part of a session, which waits at the end of the input
pub waited : {F : Type 0} (p : Rules F) (to : Position) (i i2 output written : Option (List ℕ)) (asked exchanges : List Exchange) (t : Transcript)
    → IsPart p first i i2 (start output asked) (moment written exchanges t) to AwaitsInput → IsDone p i i2 (start output asked) (moment written exchanges t)
waited p to i i2 output written asked exchanges t (goes, waits, end) = (
  goes.turns,
  to.held,
  texts p 0 goes.turns,
  record {
    read = goes.read;
    consumed = goes.consumed;
    reads = goes.reads;
    held = goes.held;
    counted = let c = goes.counted in let r = goes.room in omega arith;
    asked_all = inl goes.asked_all;
    listed_all = goes.listed_all;
    wrote_all = goes.wrote_all;
  },
  inr (inl (goes.unended, waits, end, refl)),
)

pub was_cut : {F : Type 0} (p : Rules F) (how : Ending) (to : Position) (i i2 : Option (List ℕ)) (old new : Moment) → how ≢ Done
    → IsPart p first i i2 old new to (Over how) → IsCut p how i i2 old new
was_cut p Done to i i2 old new not part = absurd (not refl)
was_cut p Memory to i i2 old new not part = part
was_cut p Broken to i i2 old new not part = part
