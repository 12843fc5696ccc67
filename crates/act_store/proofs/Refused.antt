-- A refused step: the cause of the refusal, and its effect.
use Rattle.std.proofs.Common.{◌≡◌, inl, inr, ⊎_elim, ◌+◌, ◌<◌, length, refl, sym, ◌∙◌, ap, subst}
use Rattle.std.proofs.Common.{Bool, true, false, [], ◌∷◌, ◌++◌}
use Rattle.std.specs.Prelude.{◌⊎◌, Option, Some, None, IfSome, Result, Err, if◌then◌else◌, nat_le, nat_lt, is_some}
use Rattle.wf_value.specs.Gives.{no_memory}
use Rattle.wf_value.specs.declared.refusal.Refusal.{Refusal}
use Rattle.act_disk.specs.Failed.{device_failed}
use Rattle.run_plan.specs.declared.command.Command.{Command}
use Rattle.act_store.specs.Checkpoints.{dropped, first_gate, has_no_room, last_counter, refusal_of_last, text_length}
use Rattle.act_store.specs.Layouts.{has_command}
use Rattle.act_store.specs.StoreState.{Checkpoint, StoreState, pending_commands, table_of}
use Rattle.act_store.specs.Plain.{area_full, broken, checkpoint_order, failed_earlier, history_full, old_layout, record_end}
use Rattle.act_store.specs.Plain.{refusal_of_apply, refusal_of_form, refusal_of_room}
use Rattle.act_store.specs.Steps.{IsRefused, is_area_full, left_by, refusal_of}
use Rattle.act_store.specs.declared.step.Step.{Step}
use Rattle.act_store.specs.declared.step.Step.TheVariants as requested

-- ---- a property of all causes

cause_has : (P : Refusal → Type 0) (b : Bool) (x e : Refusal) (o : Option Refusal) → P x → (o ≡ Some e → P e)
    → (if b then Some x else o) ≡ Some e → P e
cause_has P true x e o has rest is = let same : x ≡ e = cc is in subst P same has
cause_has P false x e o has rest is = rest is

form_has : (P : Refusal → Type 0) (b : Bool) (x e : Refusal) (o : Option Refusal) → P x → (o ≡ Some e → P e)
    → (if b then o else Some x) ≡ Some e → P e
form_has P true x e o has rest is = rest is
form_has P false x e o has rest is = let same : x ≡ e = cc is in subst P same has

none_of : (P : Refusal → Type 0) (e : Refusal) → None ≡ Some e → P e
none_of P e is = absurd (cc is)

abbrev IsNoFault : Refusal → Type 0
IsNoFault e = e ≡ device_failed → ⊥

due_or_none : {T : Type 0} (r : Result T Refusal) (o : Option Refusal) (e : Refusal) → r ≡ Err e → IfSome o (λ x. r ≡ Err x)
    → (o ≡ Some e) ⊎ (o ≡ None)
due_or_none r None e is due = inr refl
due_or_none r (Some x) e is due = let same : x ≡ e = cc (is, due) in inl (ap (λ (y : Refusal). Some y) same)

module _ {D : Type 0} where
  finish_has : (P : Refusal → Type 0) → P failed_earlier → P checkpoint_order → P area_full → (s : StoreState D) (e : Refusal)
      → refusal_of s requested.Finish ≡ Some e → P e
  finish_has P earlier numbered full s e is =
      cause_has P s.failed failed_earlier e (refusal_of_last s s.begun) earlier (last_has s.begun) is
    where
      last_has : (o : Option Checkpoint) → refusal_of_last s o ≡ Some e → P e
      last_has None is = let same : checkpoint_order ≡ e = cc is in subst P same numbered
      last_has (Some checkpoint) is =
          cause_has P (nat_lt 0 checkpoint.left) checkpoint_order e (if has_no_room s checkpoint then Some area_full else None) numbered
          (cause_has P (has_no_room s checkpoint) area_full e None full (none_of P e)) is

  pub apply_no_fault : (s : StoreState D) (command : Command) (e : Refusal) → refusal_of_apply s command ≡ Some e → IsNoFault e
  apply_no_fault s command e is =
      cause_has IsNoFault s.failed failed_earlier e _ (λ clash. cc)
      (cause_has IsNoFault (nat_le 100000 (length s.history)) history_full e (refusal_of_form s command) (λ clash. cc)
      (form_has IsNoFault (has_command s.layout command) old_layout e (refusal_of_room s command) (λ clash. cc)
      (cause_has IsNoFault (nat_lt s.area (record_end s (pending_commands s ++ command ∷ []))) area_full e None (λ clash. cc)
      (none_of IsNoFault e)))) is

  begin_no_fault : (s : StoreState D) (e : Refusal) → refusal_of s requested.Begin ≡ Some e → IsNoFault e
  begin_no_fault s e is =
      cause_has IsNoFault s.failed failed_earlier e _ (λ clash. cc)
      (cause_has IsNoFault (is_some s.begun) checkpoint_order e _ (λ clash. cc)
      (cause_has IsNoFault (nat_le 18446744073709551615 s.generation) last_counter e _ (λ clash. cc)
      (cause_has IsNoFault (nat_lt s.area (first_gate (text_length (table_of s)) + 1)) area_full e None (λ clash. cc)
      (none_of IsNoFault e)))) is

  finish_no_fault : (s : StoreState D) (e : Refusal) → refusal_of s requested.Finish ≡ Some e → IsNoFault e
  finish_no_fault s e is = finish_has IsNoFault (λ clash. cc) (λ clash. cc) (λ clash. cc) s e is

  -- the cause is lack of space in the area, or another one
  room_or_not : (s : StoreState D) (e : Refusal) → refusal_of s requested.Finish ≡ Some e
      → ((e ≡ area_full) × (is_area_full e ≡ true)) ⊎ ((e ≡ area_full → ⊥) × (is_area_full e ≡ false))
  room_or_not s e is =
      finish_has (λ x. ((x ≡ area_full) × (is_area_full x ≡ true)) ⊎ ((x ≡ area_full → ⊥) × (is_area_full x ≡ false)))
      (inr ((λ clash. cc), refl)) (inr ((λ clash. cc), refl)) (inl (refl, refl)) s e is

  -- ---- the effect

  module _ {T : Type 0} (old new : StoreState D) (r : Result T Refusal) (e : Refusal) (is : r ≡ Err e) where
    refused_so : (step : Step) → IfSome (refusal_of old step) (λ x. r ≡ Err x)
        → (refusal_of old step ≡ Some e → new ≡ left_by old step e)
        → (refusal_of old step ≡ None → IsRefused old step e new) → IsRefused old step e new
    refused_so step due left else_so =
        ⊎_elim (λ some. inl (some, left some)) else_so (due_or_none r (refusal_of old step) e is due)

    pub apply_refused : (command : Command) → IfSome (refusal_of old (requested.Apply command)) (λ x. r ≡ Err x)
        → (e ≡ no_memory) ⊎ (refusal_of old (requested.Apply command) ≡ Some e) → new ≡ old → IsRefused old (requested.Apply command) e new
    apply_refused command due cause same =
        refused_so (requested.Apply command) due (λ _. same)
        (λ none. ⊎_elim (λ memory. inr (inl (none, tt, memory, same))) (λ some. absurd (cc (none, some))) cause)

    pub begin_refused : IfSome (refusal_of old requested.Begin) (λ x. r ≡ Err x)
        → (e ≡ no_memory) ⊎ (e ≡ device_failed) ⊎ (refusal_of old requested.Begin ≡ Some e)
        → (r ≡ Err device_failed → new ≡ broken old new.disk) → ((e ≡ device_failed → ⊥) → new ≡ old)
        → IsRefused old requested.Begin e new
    begin_refused due cause device same =
        refused_so requested.Begin due (λ some. same (begin_no_fault old e some))
        (λ none. ⊎_elim
        (λ memory. inr (inl (none, tt, memory, same (λ fault. let clash : no_memory ≡ device_failed = cc (memory, fault) in cc))))
        (λ rest. ⊎_elim (λ fault. inr (inr (none, tt, fault, device (cc (is, fault))))) (λ some. absurd (cc (none, some))) rest) cause)

    pub slice_refused : IfSome (refusal_of old requested.Slice) (λ x. (r ≡ Err x) × (new ≡ old))
        → (e ≡ device_failed) ⊎ (refusal_of old requested.Slice ≡ Some e) → (r ≡ Err device_failed → new ≡ broken old new.disk)
        → IsRefused old requested.Slice e new
    slice_refused due cause device =
        refused_so requested.Slice (both_of (refusal_of old requested.Slice) due).0 (both_of (refusal_of old requested.Slice) due).1
        (λ none. ⊎_elim (λ fault. inr (inr (none, tt, fault, device (cc (is, fault))))) (λ some. absurd (cc (none, some))) cause)
      where
        both_of : (o : Option Refusal) → IfSome o (λ x. (r ≡ Err x) × (new ≡ old))
            → IfSome o (λ x. r ≡ Err x) × (o ≡ Some e → new ≡ old)
        both_of None due = (tt, λ some. absurd (cc some))
        both_of (Some x) due = (due.0, λ _. due.1)

    pub finish_refused : IfSome (refusal_of old requested.Finish) (λ x. r ≡ Err x)
        → (e ≡ device_failed) ⊎ (refusal_of old requested.Finish ≡ Some e)
        → (r ≡ Err device_failed → new ≡ broken old new.disk) → (r ≡ Err area_full → new ≡ dropped old)
        → ((e ≡ device_failed → ⊥) → (e ≡ area_full → ⊥) → new ≡ old) → IsRefused old requested.Finish e new
    finish_refused due cause device drops same =
        refused_so requested.Finish due
        (λ some. ⊎_elim
        (λ no_room. drops (cc (is, no_room.0)) ∙ sym (ap (λ (b : Bool). if b then dropped old else old) no_room.1))
        (λ other. same (finish_no_fault old e some) other.0 ∙ sym (ap (λ (b : Bool). if b then dropped old else old) other.1))
        (room_or_not old e some))
        (λ none. ⊎_elim (λ fault. inr (inr (none, tt, fault, device (cc (is, fault))))) (λ some. absurd (cc (none, some))) cause)

    -- a commit has no cause but an earlier fault
    pub commit_refused : (old.failed ≡ true → (r ≡ Err failed_earlier) × (new ≡ old)) → (old.failed ≡ false → e ≡ device_failed)
        → (old.failed ≡ false → old.covered < length old.history) → (old.failed ≡ false → new ≡ broken old new.disk)
        → IsRefused old requested.Commit e new
    commit_refused failed fault pending device = by_test old.failed refl
      where
        by_test : (b : Bool) → old.failed ≡ b → IsRefused old requested.Commit e new
        by_test true is_failed =
            let same : failed_earlier ≡ e = cc (is, (failed is_failed).0) in
            inl (ap (λ (b : Bool). if b then Some failed_earlier else None) is_failed ∙ ap (λ (x : Refusal). Some x) same, (failed is_failed).1)
        by_test false live =
            inr (inr (ap (λ (b : Bool). if b then Some failed_earlier else None) live, pending live, fault live, device live))
