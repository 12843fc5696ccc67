-- A disk of exactly two areas.
use Rattle.std.specs.Prelude.{◌≡◌, ◌⊎◌, ℕ, ◌+◌, List, [], ◌∷◌, ◌++◌, length, Option, Some, None}
use Rattle.gated_journal.specs.Choice.{newer}
use Rattle.definitions.specs.Area.{Head}
use Rattle.gated_journal.specs.TwoAreas.{area_on, other, active_side, IsGate, Recovers}
use Rattle.gated_journal.specs.declared.chosen.Chosen.{Chosen}
use Rattle.gated_journal.specs.declared.gate.GateState.{GateState}
use Rattle.gated_journal.specs.declared.gate.GateState.TheVariants.{Open, Closed}
use Rattle.gated_journal.specs.declared.side.Side.{Side}
use Rattle.gated_journal.specs.declared.side.Side.TheVariants.{First, Second}

-- It encodes this state, and ends where its second area ends.
pub record RecoversWhole (len : ℕ) (side : Side) (gate : GateState) (disk : List ℕ) (head : Head) (bodies : List (List ℕ)) : Type 0 where
  pub recovers : Recovers len side gate disk head bodies
  pub whole : length disk ≡ len + len

-- at each moment of an append: with the old bodies, or with the new one appended
abbrev pub WholeOrGrew : ℕ → Side → GateState → Head → List (List ℕ) → List ℕ → List ℕ → Type 0
WholeOrGrew len side gate head bodies body disk =
    RecoversWhole len side gate disk head bodies ⊎ RecoversWhole len side gate disk head (bodies ++ body ∷ [])

-- at each moment of closing the other area's gate
abbrev pub WholeEither : ℕ → Side → Head → List (List ℕ) → List ℕ → Type 0
WholeEither len side head bodies disk = RecoversWhole len side Open disk head bodies ⊎ RecoversWhole len side Closed disk head bodies

-- at each moment of opening it: the disk reads as the one area does, or as the other
abbrev pub WholeOrSwitched : ℕ → Side → Head → List (List ℕ) → Head → List (List ℕ) → List ℕ → Type 0
WholeOrSwitched len side head bodies next others disk =
    RecoversWhole len side Closed disk head bodies ⊎ RecoversWhole len (other side) Open disk next others

-- The active side was found, with the state of the other gate, or that no area is active.
abbrev pub IsChosen : ℕ → Option Chosen → List ℕ → Type 0
IsChosen len None disk = active_side len disk ≡ None
IsChosen len (Some chosen) disk =
    (active_side len disk ≡ Some chosen.side) × IsGate chosen.other (area_on len (other chosen.side) disk)

-- the gate of an area whose `open_generation` is this
abbrev pub gate_of : Option ℕ → GateState
gate_of (Some generation) = Open
gate_of None = Closed

-- the `open_generation` of the other area, given those of both
abbrev pub beside : Option ℕ → Option ℕ → Side → Option ℕ
beside first second First = second
beside first second Second = first

abbrev pub IsChosenFrom : Option ℕ → Option ℕ → Option Chosen → Type 0
IsChosenFrom first second None = newer first second ≡ None
IsChosenFrom first second (Some chosen) =
    (newer first second ≡ Some chosen.side) × (chosen.other ≡ gate_of (beside first second chosen.side))
