-- Books of concurrency groups: the holders of each group.
use Rattle.std.specs.Prelude.{◌≡◌, ℕ, List, Option, Some, if◌then◌else◌, option_map, slice_get, unwrap_or}
use Rattle.std.specs.Map.{lookup}
use Rattle.group_name.specs.Group.{Group, same_group}
use Rattle.group_book.specs.Slots.{empty_slot}
use Rattle.group_book.specs.declared.slot.Slot.{Slot}

-- a book: the groups that have holders, each with its slot, and for how many arrivals memory is taken
pub record BookState (H : Type 0) : Type 0 where
  pub entries : List (Group × Slot H)
  pub expected : ℕ

module _ {H : Type 0} where
  -- the group with this number
  abbrev pub group_at : List (Group × Slot H) → ℕ → Option Group
  group_at entries n = option_map (λ e. e.0) (slice_get entries n)

  -- the holders of a group; a group that is not in the book has none
  abbrev pub slot_in : List (Group × Slot H) → Group → Slot H
  slot_in entries g = unwrap_or (lookup (same_group g) entries) empty_slot

  -- one group gets these holders, and all others keep theirs
  abbrev pub Puts : Group → Slot H → List (Group × Slot H) → List (Group × Slot H) → Type 0
  Puts g slot old new = (k : Group) → slot_in new k ≡ (if same_group g k then slot else slot_in old k)

  -- a group that nobody holds is not there
  abbrev pub AreHeld : List (Group × Slot H) → Type 0
  AreHeld entries = (g : Group) (slot : Slot H) → lookup (same_group g) entries ≡ Some slot → slot ≡ empty_slot → ⊥
