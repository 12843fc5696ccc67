-- One step of a flusher, which makes checkpoints of a store beside the seats.
use Rattle.std.specs.Prelude.{◌≡◌, ◌≢◌, ◌⊎◌, ℕ, ◌+◌, ◌-◌, ◌*◌, ◌^◌, ◌<◌, min, true, false, Bool, Option, Some, None, Result, Ok, Err}
use Rattle.wf_value.specs.declared.refusal.Refusal.{Refusal}
use Rattle.act_disk.specs.Failed.{device_failed}
use Rattle.act_store.specs.Checkpoints.{IsFinished, begun_at, left_of, refusal_of_begin, refusal_of_finish, refusal_of_slice, sliced}
use Rattle.act_store.specs.Plain.{failed_earlier, room_in}
use Rattle.act_store.specs.Steps.{left_by}
use Rattle.act_store.specs.StoreState.{StoreState}
use Rattle.act_store.specs.declared.step.Step.TheVariants as asked
use Rattle.act_store.specs.Checkpoints.{checkpoint_length}

-- The state of a flusher: how many bytes of the checkpoint in progress are left to write, if there is one; how many entries were covered
-- when it last tried to begin one; and how many it has finished.
pub record Flushing : Type 0 where
  pub left : Option ℕ
  pub tried : Option ℕ
  pub finished : ℕ

-- less than half of the area is left for the next record, and entries were covered since the last attempt
abbrev pub IsDue : {D : Type 0} → Flushing → StoreState D → Type 0
IsDue f s = (2 * room_in s < s.area) × (f.tried ≢ Some s.covered)

-- 51 and 52, which end the flusher
abbrev pub IsOfDevice : Refusal → Type 0
IsOfDevice e = (e ≡ device_failed) ⊎ (e ≡ failed_earlier)

-- It begins a checkpoint. Running out of memory changes nothing. After any other refusal it waits until more entries are covered.
abbrev pub Begins : {D : Type 0} → Flushing → Flushing → StoreState D → StoreState D → Result Bool Refusal → Type 0
Begins f g s t (Ok true) = (t ≡ begun_at s t.disk) × (g ≡ record f { left = Some (checkpoint_length s); tried = Some s.covered })
Begins f g s t (Ok false) =
    (t ≡ s) × ((g ≡ f) ⊎ ((e : Refusal) × (refusal_of_begin s ≡ Some e) × (g ≡ record f { tried = Some s.covered })))
Begins f g s t (Err e) = IsOfDevice e

-- It writes a slice. A refusal means that the checkpoint belongs to another party.
abbrev pub Slices : {D : Type 0} → Flushing → Flushing → StoreState D → StoreState D → Result Bool Refusal → Type 0
Slices f g s t (Ok true) = (t ≡ sliced s t.disk) × (g ≡ record f { left = Some (left_of t.begun) })
Slices f g s t (Ok false) = (t ≡ s) × (e : Refusal) × (refusal_of_slice s ≡ Some e) × (g ≡ record f { left = None })
Slices f g s t (Err e) = IsOfDevice e

-- It finishes the checkpoint and counts it. A refusal ends the checkpoint, which is not counted.
abbrev pub Finishes : {D : Type 0} → Flushing → Flushing → StoreState D → StoreState D → Result Bool Refusal → Type 0
Finishes f g s t (Ok true) = IsFinished s t × (g ≡ record f { left = None; finished = min (f.finished + 1) (2 ^ 64 - 1) })
Finishes f g s t (Ok false) =
    (e : Refusal) × (refusal_of_finish s ≡ Some e) × (t ≡ left_by s asked.Finish e) × (g ≡ record f { left = None })
Finishes f g s t (Err e) = IsOfDevice e

-- One step, by the bytes left of the checkpoint in progress: a slice, or the finish if nothing is left. Without a checkpoint in progress
-- it begins one if that is due, and otherwise does nothing.
abbrev pub StepsFrom : {D : Type 0} → Option ℕ → Flushing → Flushing → StoreState D → StoreState D → Result Bool Refusal → Type 0
StepsFrom None f g s t r = (IsDue f s × Begins f g s t r) ⊎ ((IsDue f s → ⊥) × (g ≡ f) × (t ≡ s) × (r ≡ Ok false))
StepsFrom (Some n) f g s t r = ((n ≡ 0) × Finishes f g s t r) ⊎ ((0 < n) × Slices f g s t r)

abbrev pub Steps : {D : Type 0} → Flushing → Flushing → StoreState D → StoreState D → Result Bool Refusal → Type 0
Steps f g s t r = StepsFrom f.left f g s t r
