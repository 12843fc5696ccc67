-- The book of groups of a table that was stored: first the holders in progress take their slots in it, and then those that are pending.
use Rattle.std.specs.Prelude.{◌≡◌, ◌↔◌, ◌≤◌, ◌&&◌, ◌||◌, ℕ, List, nat_eq, nat_lt, Bool, true, false, Option, None, Some, option_and_then}
use Rattle.group_book.specs.Books.{BookState, slot_in}
use Rattle.group_book.specs.declared.slot.Slot.{Slot}
use Rattle.group_name.specs.Group.{Group, same_group}
use Rattle.table_model.specs.Groups.{group_at, HasOneEach, holds, is_in, waits}
use Rattle.table_model.specs.Holders.{run_of}
use Rattle.table_model.specs.Runs.{RunState}
use Rattle.table_model.specs.declared.holder.Holder.{Holder}
use Rattle.table_model.specs.declared.holder.Holder.TheVariants.{Run, Leg}
use Rattle.table_bindings.specs.GroupKeys.{ticket_in}
use Rattle.table_bindings.specs.declared.bindings.RunBindings.{RunBindings}
use Rattle.table_runs.specs.inner.BookSteps.{Begins}
use Rattle.table_runs.specs.inner.GroupsKept.{AreTold, arrivals_to_come, is_there}
use Rattle.table_runs.specs.inner.RowsKept.{RowState, holder_key_at}
use Rattle.table_runs.specs.declared.runs.of.GroupSlot.{GroupSlot}
use Rattle.table_runs.specs.declared.runs.of.GroupSlot.TheVariants.{InProgress, Pending}

-- ---- which holders

-- one that has this slot of its group
abbrev pub is_of : GroupSlot → List RunState → Holder → Bool
is_of InProgress runs h = holds runs h
is_of Pending runs h = waits runs h

-- the first legs of a job, and all of them
abbrev pub legs_below : ℕ → ℕ → ℕ → Holder → Bool
legs_below r j n (Run s) = false
legs_below r j n (Leg p) = nat_eq p.run r && (nat_eq p.job j && nat_lt p.leg n)

abbrev pub in_job : ℕ → ℕ → Holder → Bool
in_job r j (Run s) = false
in_job r j (Leg p) = nat_eq p.run r && nat_eq p.job j

-- the legs of the first jobs of a run, and all of them
abbrev pub jobs_below : ℕ → ℕ → Holder → Bool
jobs_below r n (Run s) = false
jobs_below r n (Leg p) = nat_eq p.run r && nat_lt p.job n

abbrev pub legs_of_run : ℕ → Holder → Bool
legs_of_run r (Run s) = false
legs_of_run r (Leg p) = nat_eq p.run r

-- the first runs, each with its legs
abbrev pub runs_below : ℕ → Holder → Bool
runs_below n h = nat_lt (run_of h) n

-- ---- the slots

abbrev pub in_slot : GroupSlot → Slot Holder → Option Holder
in_slot InProgress slot = slot.in_progress
in_slot Pending slot = slot.pending

abbrev pub beside_slot : GroupSlot → Slot Holder → Option Holder
beside_slot InProgress slot = slot.pending
beside_slot Pending slot = slot.in_progress

-- those among these have their slots
abbrev pub AreSeated : GroupSlot → (Holder → Bool) → List RunState → List (Group × Slot Holder) → Type 0
AreSeated slot who runs entries =
    (g : Group) (h : Holder) → (in_slot slot (slot_in entries g) ≡ Some h) ↔ ((is_in runs g h && (is_of slot runs h && who h)) ≡ true)

-- while those in progress take their slots, nobody is pending
abbrev pub NobodyIsBeside : GroupSlot → List (Group × Slot Holder) → Type 0
NobodyIsBeside InProgress entries = (g : Group) → (slot_in entries g).pending ≡ None
NobodyIsBeside Pending entries = Unit {0}

-- ---- what is kept on the way

pub record HasSeats (slot : GroupSlot) (runs : List RunState) (bindings : List RunBindings) (book : BookState Holder) : Type 0 where
  pub beside : NobodyIsBeside slot book.entries
  pub told : AreTold runs bindings
  pub expected : arrivals_to_come bindings ≤ book.expected

-- those among these that are to have the slot have their keys
abbrev pub HaveKeys : GroupSlot → (Holder → Bool) → List RunState → List RunBindings → Type 0
HaveKeys slot among runs bindings =
    (h : Holder) → (is_of slot runs h && among h) ≡ true → option_and_then ticket_in (holder_key_at bindings h) ≡ group_at runs h

-- others than those among these that are to have the slot
abbrev pub AreApart : GroupSlot → List RunState → (Holder → Bool) → (Holder → Bool) → Type 0
AreApart slot runs who among = (h : Holder) → (is_of slot runs h && among h) ≡ true → who h ≡ false

-- those among these have taken their slots
pub record TakeSeats (slot : GroupSlot) (among : Holder → Bool) (runs : List RunState) (was now : List RunBindings)
    (old new : List (Group × Slot Holder)) : Type 0 where
  pub keys : (h : Holder) → (is_of slot runs h && among h) ≡ false → holder_key_at now h ≡ holder_key_at was h
  pub places : (g : Group) → beside_slot slot (slot_in new g) ≡ beside_slot slot (slot_in old g)
  pub seated : (who : Holder → Bool) → AreApart slot runs who among → AreSeated slot who runs old
      → AreSeated slot (λ h. who h || among h) runs new

-- one of them found its slot taken, so two have it
abbrev pub OneIsTaken : GroupSlot → (Holder → Bool) → List RunState → List (Group × Slot Holder) → Type 0
OneIsTaken slot among runs old = (who : Holder → Bool) → AreApart slot runs who among → AreSeated slot who runs old → HasOneEach runs → ⊥

abbrev pub AreSeatedOrTaken : Bool → GroupSlot → (Holder → Bool) → List RunState → List RunBindings → List RunBindings
    → List (Group × Slot Holder) → List (Group × Slot Holder) → Type 0
AreSeatedOrTaken true slot among runs was now old new = TakeSeats slot among runs was now old new
AreSeatedOrTaken false slot among runs was now old new = OneIsTaken slot among runs old

-- a holder has taken its slot in its group
pub record SitsDown (slot : GroupSlot) (one : Holder) (g : Group) (old new : List (Group × Slot Holder)) : Type 0 where
  pub taken : in_slot slot (slot_in new g) ≡ Some one
  pub beside : (k : Group) → beside_slot slot (slot_in new k) ≡ beside_slot slot (slot_in old k)
  pub elsewhere : (k : Group) → same_group g k ≡ false → slot_in new k ≡ slot_in old k

-- one that is in progress begins
abbrev pub BeginsIf : GroupSlot → Option Group → List (Group × Slot Holder) → List (Group × Slot Holder) → Type 0
BeginsIf InProgress key old new = Begins key old new
BeginsIf Pending key old new = new ≡ old

-- ---- before anybody has taken a slot

pub record AreStored (rows : RowState) (book : BookState Holder) : Type 0 where
  pub told : AreTold rows.runs rows.bindings
  pub keys : (h : Holder) → is_there rows.runs h ≡ true → option_and_then ticket_in (holder_key_at rows.bindings h) ≡ group_at rows.runs h
  pub expected : arrivals_to_come rows.bindings ≤ book.expected
