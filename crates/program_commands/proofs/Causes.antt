-- A step that a store refuses for a reason of its own does not report a failure of the device.
use Rattle.std.proofs.Common.{◌≡◌, ℕ, ◌+◌, inl, inr, length, Bool, true, false}
use Rattle.std.specs.Prelude.{Option, Some, None, is_some, nat_le, nat_lt, if◌then◌else◌}
use Rattle.wf_value.specs.declared.refusal.Refusal.{Refusal}
use Rattle.act_disk.specs.Failed.{device_failed}
use Rattle.run_plan.specs.declared.command.Command.{Command}
use Rattle.act_store.specs.Checkpoints.{has_no_room, is_written, last_counter, refusal_of_head, refusal_of_last}
use Rattle.act_store.specs.Layouts.{has_command}
use Rattle.act_store.specs.Plain.{area_full, checkpoint_order, failed_earlier, history_full, old_layout, refusal_of_form, refusal_of_room}
use Rattle.act_store.specs.Steps.{refusal_of}
use Rattle.act_store.specs.StoreState.{Checkpoint, StoreState}
use Rattle.act_store.specs.FaultCauses.{IsCause}
use Rattle.act_store.specs.declared.step.Step.{Step}
use Rattle.act_store.specs.declared.step.Step.TheVariants as requested

-- the reason is not a failure of the device
abbrev IsOther : Option Refusal → Type 0
IsOther cause = cause ≡ Some device_failed → ⊥

one_of_two : (b : Bool) (one two : Option Refusal) → IsOther one → IsOther two → IsOther (if b then one else two)
one_of_two true one two here there = here
one_of_two false one two here there = there

earlier : IsOther (Some failed_earlier)
earlier is = cc is

full : IsOther (Some area_full)
full is = cc is

turn : IsOther (Some checkpoint_order)
turn is = cc is

none : IsOther None
none is = cc is

module _ {D : Type 0} (s : StoreState D) where
  room_other : (command : Command) → IsOther (refusal_of_room s command)
  room_other command = one_of_two _ (Some area_full) None full none

  form_other : (command : Command) → IsOther (refusal_of_form s command)
  form_other command =
      one_of_two (has_command s.layout command) (refusal_of_room s command) (Some old_layout) (room_other command) (λ is. cc is)

  apply_other : (command : Command) → IsOther (refusal_of s (requested.Apply command))
  apply_other command =
      one_of_two s.failed (Some failed_earlier) _ earlier
      (one_of_two (nat_le 100000 (length s.history)) (Some history_full) (refusal_of_form s command) (λ is. cc is) (form_other command))

  head_other : IsOther (refusal_of_head s)
  head_other =
      one_of_two (nat_le 18446744073709551615 s.generation) (Some last_counter) _ (λ is. cc is) (one_of_two _ (Some area_full) None full none)

  last_other : (begun : Option Checkpoint) → IsOther (refusal_of_last s begun)
  last_other None = turn
  last_other (Some checkpoint) =
      one_of_two (nat_lt 0 checkpoint.left) (Some checkpoint_order) _ turn
      (one_of_two (has_no_room s checkpoint) (Some area_full) None full none)

  pub cause_is_other : (step : Step) → IsOther (refusal_of s step)
  cause_is_other (requested.Apply command) = apply_other command
  cause_is_other requested.Commit = one_of_two s.failed (Some failed_earlier) None earlier none
  cause_is_other requested.Begin =
      one_of_two s.failed (Some failed_earlier) _ earlier
      (one_of_two (is_some s.begun) (Some checkpoint_order) (refusal_of_head s) turn head_other)
  cause_is_other requested.Slice =
      one_of_two s.failed (Some failed_earlier) _ earlier (one_of_two (is_written s.begun) (Some checkpoint_order) None turn none)
  cause_is_other requested.Finish = one_of_two s.failed (Some failed_earlier) (refusal_of_last s s.begun) earlier (last_other s.begun)

-- ---- what is known of the disk

pub none_failed : (e : Refusal) (faults more : ℕ) → (e ≡ device_failed → ⊥) → IsCause e faults more → more ≡ faults
none_failed e faults more other (inl fault) = absurd (other fault.0)
none_failed e faults more other (inr same) = same.1

pub one_failed : (e : Refusal) (faults more : ℕ) → e ≡ device_failed → IsCause e faults more → more ≡ faults + 1
one_failed e faults more is (inl fault) = fault.1
one_failed e faults more is (inr same) = absurd (same.0 is)
