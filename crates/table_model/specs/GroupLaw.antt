-- The moves of a concurrency group, and the law that each list of them keeps.
use Rattle.std.specs.Prelude.{List, [], ◌∷◌, ◌++◌, filter_map, Bool, false, ◌&&◌, not, nat_eq, Option, Some, None, option_and_then}
use Rattle.std.specs.Prelude.{if◌then◌else◌, ◌≡◌, map, option_to_list, true}
use Rattle.wf_value.specs.declared.outcome.Outcome.{Outcome}
use Rattle.table_model.specs.Runs.{RunState}
use Rattle.table_model.specs.declared.holder.Holder.{Holder}
use Rattle.std.specs.List.{last_or, list_any}
use Rattle.std.specs.Option.{option_map_or}
use Rattle.table_model.specs.declared.sites.LegSite.{LegSite}
use Rattle.table_model.specs.declared.holder.Holder.TheVariants.{Run, Leg}
use Rattle.wf_value.specs.declared.outcome.Outcome.TheVariants.{Cancelled}

-- ---- the moves of concurrency groups: which of their holders arrived, started, was asked to stop, and ended. GitHub Docs, "Control the
-- concurrency of workflows and jobs".

pub data Move : Type 0 where
  arrive : Holder → Move
  start : Holder → Move
  stop : Holder → Move
  end_with : Outcome → Holder → Move

-- ---- transitions of runs

-- the runs after a transition, and the moves that it makes
pub record Transition : Type 0 where
  pub runs : List RunState
  pub moves : List Move

abbrev pub without_moves : List RunState → Transition
without_moves runs = record { runs = runs; moves = [] }

-- a transition followed by another
abbrev pub and_then : Transition → (List RunState → Transition) → Transition
and_then m change = record { runs = (change m.runs).runs; moves = m.moves ++ (change m.runs).moves }

-- the same transition at each of these holders, in order
abbrev pub at_each : (Holder → List RunState → Transition) → List Holder → List RunState → Transition
at_each change [] runs = without_moves runs
at_each change (h ∷ hs) runs = and_then (change h runs) (at_each change hs)

-- ---- what a list of moves of one concurrency group says about a holder. GitHub Docs, "Control the concurrency of workflows and jobs": a holder
-- is pending once it has arrived, and in progress once it has started.

-- ---- one holder, one move

abbrev pub same_place : LegSite → LegSite → Bool
same_place p q = nat_eq p.run q.run && (nat_eq p.job q.job && nat_eq p.leg q.leg)

abbrev pub same_holder : Holder → Holder → Bool
same_holder (Run r) (Run s) = nat_eq r s
same_holder (Run r) (Leg p) = false
same_holder (Leg p) (Run s) = false
same_holder (Leg p) (Leg q) = same_place p q

-- whether `one` is this holder
abbrev pub is_the : Option Holder → Holder → Bool
is_the one h = option_map_or (same_holder h) one false

abbrev pub holder_of : Move → Holder
holder_of (Move.arrive h) = h
holder_of (Move.start h) = h
holder_of (Move.stop h) = h
holder_of (Move.end_with r h) = h

-- the holder that arrives by a move, if the move is an arrival
abbrev pub arrival_of : Move → Option Holder
arrival_of (Move.arrive h) = Some h
arrival_of _ = None

abbrev pub start_of : Move → Option Holder
start_of (Move.start h) = Some h
start_of _ = None

abbrev pub stop_of : Move → Option Holder
stop_of (Move.stop h) = Some h
stop_of _ = None

abbrev pub end_of : Move → Option Holder
end_of (Move.end_with r h) = Some h
end_of _ = None

-- ---- what has happened

abbrev pub has_arrived : Holder → List Move → Bool
has_arrived h moves = list_any (λ m. is_the (arrival_of m) h) moves

abbrev pub has_started : Holder → List Move → Bool
has_started h moves = list_any (λ m. is_the (start_of m) h) moves

abbrev pub was_stopped : Holder → List Move → Bool
was_stopped h moves = list_any (λ m. is_the (stop_of m) h) moves

abbrev pub has_ended : Holder → List Move → Bool
has_ended h moves = list_any (λ m. is_the (end_of m) h) moves

-- ---- in progress, and pending

-- it has started and has not ended
abbrev pub is_in_progress : Holder → List Move → Bool
is_in_progress h moves = has_started h moves && not (has_ended h moves)

-- it has arrived, and has neither started nor ended
abbrev pub is_pending : Holder → List Move → Bool
is_pending h moves = has_arrived h moves && (not (has_started h moves) && not (has_ended h moves))

-- the latest arrival
abbrev pub latest : List Move → Option Holder
latest moves = last_or None (filter_map arrival_of moves)

-- the holder that the next arrival displaces: the latest arrival, if it is pending
abbrev pub next_displaced : List Move → Option Holder
next_displaced moves = option_and_then (λ h. if is_pending h moves then Some h else None) (latest moves)

-- ---- the law of a concurrency group, for the list of its moves. GitHub Docs, "Control the concurrency of workflows and jobs": at most one run
-- or job of a group is in progress and at most one is pending; a newcomer takes the place of the pending one, which is cancelled; with
-- cancel-in-progress the one in progress is cancelled too. This project defines that the latest arrival is the one to start, and that a
-- holder that is asked to stop holds its group until it ends.

abbrev pub BeginsWith : List Move → List Move → Type 0
BeginsWith prefix moves = (rest : List Move) × (moves ≡ prefix ++ rest)

-- the end of the holder that an arrival displaces, if any
abbrev pub cancelled_end : Option Holder → List Move
cancelled_end displaced = map (λ h. Move.end_with Cancelled h) (option_to_list displaced)

-- ---- the four rules; each is about every move of the list, with the moves before it and after it

-- A holder starts only if every holder that started earlier has ended, and if it is the latest arrival and has not ended.
abbrev pub StartsInOrder : List Move → Type 0
StartsInOrder moves =
    (before after : List Move) (h : Holder) → moves ≡ before ++ Move.start h ∷ after
    → ((other : Holder) → is_in_progress other before ≡ false) × (latest before ≡ Some h) × (has_ended h before ≡ false)

-- If a newcomer arrives while the latest arrival is pending, that one ends as cancelled immediately after.
abbrev pub DisplacedAreCancelled : List Move → Type 0
DisplacedAreCancelled moves =
    (before after : List Move) (newcomer h : Holder) → moves ≡ before ++ Move.arrive newcomer ∷ after
    → next_displaced before ≡ Some h → BeginsWith (Move.end_with Cancelled h ∷ []) after

-- the last of the moves is an arrival, and it displaced this holder
abbrev pub IsJustDisplaced : Holder → List Move → Type 0
IsJustDisplaced h moves =
    (before : List Move) × (newcomer : Holder) × (moves ≡ before ++ Move.arrive newcomer ∷ []) × (next_displaced before ≡ Some h)

-- A holder that has neither started nor been asked to stop ends only because it is displaced.
abbrev pub EndsHaveCauses : List Move → Type 0
EndsHaveCauses moves =
    (before after : List Move) (r : Outcome) (h : Holder) → moves ≡ before ++ Move.end_with r h ∷ after
    → has_started h before ≡ false → was_stopped h before ≡ false → (r ≡ Cancelled) × IsJustDisplaced h before

-- If a newcomer with cancel-in-progress arrives, a holder in progress that is not yet asked to stop is asked immediately after, or after
-- the end of the displaced holder, if there is one.
abbrev pub ProgressIsCancelled : (Holder → Bool) → List Move → Type 0
ProgressIsCancelled cancels moves =
    (before after : List Move) (newcomer h : Holder) → moves ≡ before ++ Move.arrive newcomer ∷ after → cancels newcomer ≡ true
    → is_in_progress h before ≡ true → was_stopped h before ≡ false
    → BeginsWith (cancelled_end (next_displaced before) ++ Move.stop h ∷ []) after

-- ---- the law, for the newcomers that have cancel-in-progress by the test

pub record KeepsLaw (cancels : Holder → Bool) (moves : List Move) : Type 0 where
  pub starts_in_order : StartsInOrder moves
  pub displaced_are_cancelled : DisplacedAreCancelled moves
  pub ends_have_causes : EndsHaveCauses moves
  pub progress_is_cancelled : ProgressIsCancelled cancels moves
