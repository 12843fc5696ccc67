-- One round of a session.
use Rattle.std.proofs.Common.{ℕ, Bool, true, false, List, Ok, Err, arith}
use Rattle.std.specs.Prelude.{Option, Some, None}
use Rattle.act_sessions.specs.declared.request.Request.{Request}
use Rattle.act_sessions.specs.declared.transcript.Part.TheVariants.{AwaitsInput}
use Rattle.act_sessions.specs.declared.error.SessionError.{SessionError}
use Rattle.act_sessions.specs.inner.Hearing.{Awaits}
use Rattle.act_sessions.specs.Rules.{Rules, IsSteady}
use Rattle.act_sessions.specs.Session.{Goes, IsPart, Moment, Position, first}
use Rattle.act_sessions.specs.inner.Turns.{EndsRound, HasPaused, TakesTurn}
use Rattle.act_sessions.proofs.Going.{at, goes_on, over_by_last, waits_at_end, paused_waiting, paused_turn}

-- a request came and was answered
pub round_heard : {F : Type 0} (p : Rules F) → IsSteady p → (from : Position) (i i1 i2 : Option (List ℕ)) (old mid new : Moment) (buffer : List ℕ) (n : ℕ)
    (left : List ℕ) (q : Request F) (last : Bool) → Goes p from i i1 old mid (at n buffer) → Awaits p i1 i2 buffer left (Ok (Some q))
    → TakesTurn p n q mid new (Ok last) → EndsRound p from i i2 old new left n (Ok (Some last))
round_heard p steady from i i1 i2 old mid new buffer n left q true goes (piece, more, all_short, (reads, shorter)) took =
    over_by_last p steady from first i i1 i2 old mid new buffer n piece left q goes more reads (omega arith) took
round_heard p steady from i i1 i2 old mid new buffer n left q false goes (piece, more, all_short, (reads, shorter)) took =
    goes_on p steady from i i1 i2 old mid new buffer n piece left q goes more reads (omega arith) took

-- a request came and its turn failed
pub round_failed : {F : Type 0} (p : Rules F) → IsSteady p → (from : Position) (i i1 i2 : Option (List ℕ)) (old mid new : Moment) (buffer : List ℕ) (n : ℕ)
    (left : List ℕ) (q : Request F) (e : SessionError) → Goes p from i i1 old mid (at n buffer) → Awaits p i1 i2 buffer left (Ok (Some q))
    → TakesTurn p n q mid new (Err e) → HasPaused p e from i i2 old new
round_failed p steady from i i1 i2 old mid new buffer n left q e goes (piece, more, all_short, (reads, shorter)) took =
    paused_turn p steady from i i1 i2 old mid new buffer n piece left q e goes more reads all_short (omega arith) took

-- the input ended
pub round_at_end : {F : Type 0} (p : Rules F) → IsSteady p → (from : Position) (i i1 i2 : Option (List ℕ)) (old mid : Moment) (buffer : List ℕ) (n : ℕ)
    (left : List ℕ) → Goes p from i i1 old mid (at n buffer) → Awaits p i1 i2 buffer left (Ok None) → IsPart p from i i2 old mid (at n left) AwaitsInput
round_at_end p steady from i i1 i2 old mid buffer n left goes (piece, more, short, (waits, e, end)) =
    waits_at_end p steady from i i1 i2 old mid buffer n piece left goes more short waits e end

-- no request came
pub round_waiting : {F : Type 0} (p : Rules F) → IsSteady p → (from : Position) (i i1 i2 : Option (List ℕ)) (old mid : Moment) (buffer : List ℕ) (n : ℕ)
    (left : List ℕ) (e : SessionError) → Goes p from i i1 old mid (at n buffer) → Awaits p i1 i2 buffer left (Err e) → HasPaused p e from i i2 old mid
round_waiting p steady from i i1 i2 old mid buffer n left e goes (piece, more, short, hears) =
    paused_waiting p steady from i i1 i2 old mid buffer n piece left e goes more short hears
