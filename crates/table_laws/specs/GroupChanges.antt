-- One concurrency group: its state, each single change of the state, and the moves that the change makes. GitHub Docs, "Control the
-- concurrency of workflows and jobs".
use Rattle.std.specs.Prelude.{◌≡◌, List, [], ◌∷◌, ◌++◌, map, option_to_list, Bool, true, false, ◌&&◌, ◌||◌, not}
use Rattle.std.specs.Prelude.{Option, Some, None, if◌then◌else◌}
use Rattle.std.specs.List.{list_any}
use Rattle.std.specs.Option.{option_map_or}
use Rattle.wf_value.specs.declared.outcome.Outcome.{Outcome}
use Rattle.wf_value.specs.declared.outcome.Outcome.TheVariants.{Cancelled}
use Rattle.table_model.specs.Groups.{GroupState}
use Rattle.table_model.specs.GroupLaw.{has_arrived, holder_of, is_pending, is_in_progress, is_the, latest, same_holder, was_stopped, Move}
use Rattle.table_model.specs.GroupLaw.{cancelled_end}
use Rattle.table_model.specs.declared.holder.Holder.{Holder}

-- The state agrees with the moves: the holder in progress has started and not ended, the pending holder is the latest arrival and has
-- neither started nor ended, and there are no others.
pub record Matches (g : GroupState) (moves : List Move) : Type 0 where
  pub in_progress : (h : Holder) → is_in_progress h moves ≡ is_the g.in_progress h
  pub stopping : (h : Holder) → g.in_progress ≡ Some h → was_stopped h moves ≡ g.stopping
  pub pending : (h : Holder) → is_pending h moves ≡ is_the g.pending h
  pub latest : (h : Holder) → g.pending ≡ Some h → latest moves ≡ Some h
  pub unstopped : (h : Holder) → g.pending ≡ Some h → was_stopped h moves ≡ false

-- ---- the changes

pub data Change : Type 0 where
  -- a newcomer arrives in the group
  arrival : Holder → Change
  -- the pending holder starts
  beginning : Holder → Change
  -- the holder in progress is asked to stop
  stop_request : Holder → Change
  -- the holder in progress ends
  ending : Outcome → Holder → Change
  -- the pending holder is asked to stop, and so ends
  withdrawal : Holder → Change

-- no move is of the holder
abbrev pub is_new : Holder → List Move → Bool
is_new h moves = not (list_any (λ m. same_holder h (holder_of m)) moves)

-- when a change is possible, after these moves
abbrev pub MayBe : GroupState → List Move → Change → Type 0
MayBe g moves (Change.arrival h) = is_new h moves ≡ true
MayBe g moves (Change.beginning h) = (g.in_progress ≡ None) × (g.pending ≡ Some h)
MayBe g moves (Change.stop_request h) = (g.in_progress ≡ Some h) × (g.stopping ≡ false)
MayBe g moves (Change.ending r h) = g.in_progress ≡ Some h
MayBe g moves (Change.withdrawal h) = g.pending ≡ Some h

-- the holder that an arrival asks to stop
abbrev pub stopped_at_arrival : Bool → GroupState → Option Holder
stopped_at_arrival cancels g = if cancels && not g.stopping then g.in_progress else None

-- the moves of a change
abbrev pub moves_of : (Holder → Bool) → GroupState → Change → List Move
moves_of cancels g (Change.arrival h) =
    Move.arrive h ∷ cancelled_end g.pending ++ map (λ s. Move.stop s) (option_to_list (stopped_at_arrival (cancels h) g))
moves_of cancels g (Change.beginning h) = Move.start h ∷ []
moves_of cancels g (Change.stop_request h) = Move.stop h ∷ []
moves_of cancels g (Change.ending r h) = Move.end_with r h ∷ []
moves_of cancels g (Change.withdrawal h) = Move.stop h ∷ Move.end_with Cancelled h ∷ []

-- the state of the group after the change
abbrev pub changed : (Holder → Bool) → GroupState → Change → GroupState
changed cancels g (Change.arrival h) = record g { stopping = g.stopping || cancels h; pending = Some h }
changed cancels g (Change.beginning h) = record { in_progress = Some h; stopping = false; pending = None }
changed cancels g (Change.stop_request h) = record g { stopping = true }
changed cancels g (Change.ending r h) = record g { in_progress = None }
changed cancels g (Change.withdrawal h) = record g { pending = None }

-- ---- one change after another

abbrev pub MayAllBe : (Holder → Bool) → GroupState → List Move → List Change → Type 0
MayAllBe cancels g moves [] = Unit {0}
MayAllBe cancels g moves (c ∷ cs) = MayBe g moves c × MayAllBe cancels (changed cancels g c) (moves ++ moves_of cancels g c) cs

abbrev pub moves_of_all : (Holder → Bool) → GroupState → List Change → List Move
moves_of_all cancels g [] = []
moves_of_all cancels g (c ∷ cs) = moves_of cancels g c ++ moves_of_all cancels (changed cancels g c) cs

abbrev pub after_all : (Holder → Bool) → GroupState → List Change → GroupState
after_all cancels g [] = g
after_all cancels g (c ∷ cs) = after_all cancels (changed cancels g c) cs

-- ---- the base moves

-- The moves of the holders that a group already has: the holder in progress has arrived, has started, and may have been asked to stop;
-- then the pending holder has arrived.
abbrev pub in_progress_moves : Bool → Holder → List Move
in_progress_moves stopping h = Move.arrive h ∷ Move.start h ∷ (if stopping then Move.stop h ∷ [] else [])

abbrev pub base_moves : GroupState → List Move
base_moves g = option_map_or (in_progress_moves g.stopping) g.in_progress [] ++ map (λ h. Move.arrive h) (option_to_list g.pending)

-- the holders that a group already has do not count as asking for cancellation
abbrev pub beyond_base : (Holder → Bool) → GroupState → Holder → Bool
beyond_base cancels g h = cancels h && not (has_arrived h (base_moves g))
