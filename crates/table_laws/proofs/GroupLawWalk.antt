-- The law of a group by recursion on the list of moves.
use Rattle.std.proofs.Common.{◌≡◌, List, [], ◌∷◌, ◌++◌, Bool, true, false, Some, ap, ◌∙◌, append_assoc}
use Rattle.wf_value.specs.declared.outcome.Outcome.TheVariants.{Cancelled}
use Rattle.table_model.specs.GroupLaw.{has_ended, has_started, is_in_progress, latest, next_displaced, was_stopped, Move}
use Rattle.table_model.specs.GroupLaw.{BeginsWith, IsJustDisplaced, KeepsLaw, cancelled_end}
use Rattle.table_laws.proofs.ListWalk.{AtEach, Walk, each_of, walk_of, walk_on}
use Rattle.table_model.specs.declared.holder.Holder.{Holder}

-- what the law requires of one move
abbrev pub Lawful : (Holder → Bool) → List Move → Move → List Move → Type 0
Lawful cancels before (Move.arrive newcomer) after =
    ((h : Holder) → next_displaced before ≡ Some h → BeginsWith (Move.end_with Cancelled h ∷ []) after)
    × ((h : Holder) → cancels newcomer ≡ true → is_in_progress h before ≡ true → was_stopped h before ≡ false
    → BeginsWith (cancelled_end (next_displaced before) ++ Move.stop h ∷ []) after)
Lawful cancels before (Move.start h) after =
    ((other : Holder) → is_in_progress other before ≡ false) × (latest before ≡ Some h) × (has_ended h before ≡ false)
Lawful cancels before (Move.stop h) after = Unit {0}
Lawful cancels before (Move.end_with r h) after =
    has_started h before ≡ false → was_stopped h before ≡ false → (r ≡ Cancelled) × IsJustDisplaced h before

law_at : (cancels : Holder → Bool) (moves : List Move) → KeepsLaw cancels moves → AtEach (Lawful cancels) [] moves
law_at cancels moves law before after (Move.arrive newcomer) e =
    (λ h. law.displaced_are_cancelled before after newcomer h e, λ h. law.progress_is_cancelled before after newcomer h e)
law_at cancels moves law before after (Move.start h) e = law.starts_in_order before after h e
law_at cancels moves law before after (Move.stop h) e = tt
law_at cancels moves law before after (Move.end_with r h) e = law.ends_have_causes before after r h e

at_law : (cancels : Holder → Bool) (moves : List Move) → AtEach (Lawful cancels) [] moves → KeepsLaw cancels moves
at_law cancels moves each = record {
  starts_in_order = λ before after h e. each before after (Move.start h) e;
  displaced_are_cancelled = λ before after newcomer h e is. (each before after (Move.arrive newcomer) e).0 h is;
  ends_have_causes = λ before after r h e. each before after (Move.end_with r h) e;
  progress_is_cancelled =
      λ before after newcomer h e requests runs unstopped. (each before after (Move.arrive newcomer) e).1 h requests runs unstopped;
}

pub law_walks : (cancels : Holder → Bool) (moves : List Move) → KeepsLaw cancels moves → Walk (Lawful cancels) [] moves
law_walks cancels moves law = walk_of (Lawful cancels) [] moves (law_at cancels moves law)

pub walk_is_law : (cancels : Holder → Bool) (moves : List Move) → Walk (Lawful cancels) [] moves → KeepsLaw cancels moves
walk_is_law cancels moves walk = at_law cancels moves (each_of (Lawful cancels) [] moves walk)

-- ---- more moves after these

still_begins : (prefix after more : List Move) → BeginsWith prefix after → BeginsWith prefix (after ++ more)
still_begins prefix after more begins =
    (begins.0 ++ more, ap (λ ms. ms ++ more) begins.1 ∙ append_assoc prefix begins.0 more)

pub still_lawful : (cancels : Holder → Bool) (before after more : List Move) (m : Move) → Lawful cancels before m after
    → Lawful cancels before m (after ++ more)
still_lawful cancels before after more (Move.arrive newcomer) law = (
  λ h is. still_begins (Move.end_with Cancelled h ∷ []) after more (law.0 h is),
  λ h requests runs unstopped.
      still_begins (cancelled_end (next_displaced before) ++ Move.stop h ∷ []) after more (law.1 h requests runs unstopped),
)
still_lawful cancels before after more (Move.start h) law = law
still_lawful cancels before after more (Move.stop h) law = tt
still_lawful cancels before after more (Move.end_with r h) law = law

-- moves that satisfy the law, followed by more that do
pub law_goes_on : (cancels : Holder → Bool) (moves more : List Move) → KeepsLaw cancels moves → Walk (Lawful cancels) moves more
    → KeepsLaw cancels (moves ++ more)
law_goes_on cancels moves more law walk =
    walk_is_law cancels (moves ++ more) (walk_on (Lawful cancels) (still_lawful cancels) [] moves more (law_walks cancels moves law) walk)
