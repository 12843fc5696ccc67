-- What a start and an end do to the book of a table's groups. A holder without a group does nothing to it.
use Rattle.std.specs.Prelude.{◌≡◌, List, false, Option, None, Some}
use Rattle.group_book.specs.Books.{Puts, slot_in}
use Rattle.group_book.specs.Slots.{HasLeft, begun}
use Rattle.group_book.specs.declared.slot.Slot.{Slot}
use Rattle.group_name.specs.Group.{Group, same_group}
use Rattle.table_model.specs.declared.holder.Holder.{Holder}

abbrev pub Begins : Option Group → List (Group × Slot Holder) → List (Group × Slot Holder) → Type 0
Begins None old new = new ≡ old
Begins (Some g) old new = Puts g (begun (slot_in old g)) old new

-- `woken` is the pending holder of the group that it frees, which may begin
pub record HasLeftGroup (g : Group) (one : Holder) (old new : List (Group × Slot Holder)) (woken : Option Holder) : Type 0 where
  pub left : HasLeft one (slot_in old g) (slot_in new g)
  pub others : (k : Group) → same_group g k ≡ false → slot_in new k ≡ slot_in old k
  pub next : (slot_in old g).in_progress ≡ Some one → woken ≡ (slot_in old g).pending
  pub none : ((slot_in old g).in_progress ≡ Some one → ⊥) → woken ≡ None

abbrev pub Leaves : Option Group → Holder → List (Group × Slot Holder) → List (Group × Slot Holder) → Option Holder → Type 0
Leaves None one old new next = (new ≡ old) × (next ≡ None)
Leaves (Some g) one old new next = HasLeftGroup g one old new next
