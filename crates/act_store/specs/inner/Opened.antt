-- What was found on an opened disk.
use Rattle.std.specs.Prelude.{◌≡◌, ℕ, ◌+◌, List, length, Some}
use Rattle.gated_journal.specs.TwoAreas.{IsGate, area_on, other, active_side}
use Rattle.act_store.specs.inner.Encoded.{EncodesArea}
use Rattle.act_store.specs.declared.located_area.LocatedArea.{LocatedArea}

-- The disk is two areas long, this is its active area and the state of the other gate, and the active area encodes this.
pub record IsFound (found : LocatedArea) (file : List ℕ) : Type 0 where
  pub long : length file ≡ found.area + found.area
  pub recovers : active_side found.area file ≡ Some found.chosen.side
  pub gate : IsGate found.chosen.other (area_on found.area (other found.chosen.side) file)
  pub encoded : EncodesArea (area_on found.area found.chosen.side file) found.encoded.generation found.encoded.used
      found.encoded.layout found.encoded.table
