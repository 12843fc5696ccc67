-- The holders of a group: at most one is in progress, and at most one is pending.
use Rattle.std.specs.Prelude.{◌≡◌, ◌↔◌, Option, None, Some}
use Rattle.group_book.specs.declared.slot.Slot.{Slot}

module _ {H : Type 0} where
  -- a group that nobody holds
  abbrev pub empty_slot : Slot H
  empty_slot = record { in_progress = None; pending = None }

  -- a newcomer waits, in the place of a holder that was pending
  abbrev pub with_newcomer : H → Slot H → Slot H
  with_newcomer h slot = record { in_progress = slot.in_progress; pending = Some h }

  -- the pending holder begins
  abbrev pub begun : Slot H → Slot H
  begun slot = record { in_progress = slot.pending; pending = None }

  -- a place has the holder that it had, unless it is this one
  abbrev pub HasLost : H → Option H → Option H → Type 0
  HasLost h old new = (k : H) → (new ≡ Some k) ↔ ((old ≡ Some k) × (k ≡ h → ⊥))

  -- a holder has left both places
  pub record HasLeft (h : H) (old new : Slot H) : Type 0 where
    pub in_progress : HasLost h old.in_progress new.in_progress
    pub pending : HasLost h old.pending new.pending
