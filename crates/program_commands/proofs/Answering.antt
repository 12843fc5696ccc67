-- A step of a store has the answer of a script's line.
use Rattle.std.proofs.Common.{◌≡◌, ◌⊎◌, inl, inr, ⊎_elim, ℕ, length, refl, sym, ◌∙◌, ap, subst}
use Rattle.std.proofs.Common.{Bool, true, false, Result, Ok, Err}
use Rattle.std.proofs.lemmas.Bool.{cases_Bool, ltb-false, ltb-true}
use Rattle.std.specs.Prelude.{IsSomeAnd, Option, Some, None, nat_lt, if◌then◌else◌}
use Rattle.wf_value.specs.Gives.{no_memory}
use Rattle.wf_value.specs.RefusalText.{refusal_text}
use Rattle.wf_value.specs.declared.refusal.Refusal.{Refusal}
use Rattle.act_disk.specs.Failed.{device_failed}
use Rattle.run_plan.specs.declared.reply.Reply.{Reply}
use Rattle.act_store.specs.Checkpoints.{dropped, finished, left_of}
use Rattle.act_store.specs.StoreState.{Checkpoint, StoreState}
use Rattle.act_store.specs.Plain.{committed}
use Rattle.act_store.specs.Steps.{Counts, Covers, IsRefused, MayCallDevice, MayTakeMemory, Replies, Takes, TellsStep, is_area_full, left_by, refusal_of}
use Rattle.act_store.specs.FaultCauses.{IsCause}
use Rattle.act_store.specs.declared.step.Played.{Played}
use Rattle.act_store.specs.declared.step.Played.TheVariants as told
use Rattle.act_store.specs.declared.step.Step.{Step}
use Rattle.act_store.specs.declared.step.Step.TheVariants as requested
use Rattle.program_commands.specs.Answers.{counted_as, played_text}
use Rattle.program_commands.specs.PlainStore.{PlainStore, all_checked, all_covered, done, taken_unless, without_disk}
use Rattle.program_commands.specs.Play.{IsAnswerOf, IsOfCommand, WantsMemory}
use Rattle.program_commands.proofs.Causes.{cause_is_other, none_failed, one_failed}

module _ {D : Type 0} (old new : StoreState D) (faults more : ℕ) where
  abbrev plain : PlainStore
  plain = without_disk old

  -- whether a step is refused does not depend on the disk
  same_refusal : (step : Step) → refusal_of plain step ≡ refusal_of old step
  same_refusal (requested.Apply command) = refl
  same_refusal requested.Commit = refl
  same_refusal requested.Begin = refl
  same_refusal requested.Slice = refl
  same_refusal requested.Finish = refl

  left_plain : (step : Step) (e : Refusal) → without_disk (left_by old step e) ≡ left_by plain step e
  left_plain (requested.Apply command) e = refl
  left_plain requested.Commit e = refl
  left_plain requested.Begin e = refl
  left_plain requested.Slice e = refl
  left_plain requested.Finish e = by_test (is_area_full e)
    where
      by_test : (b : Bool) → without_disk (if b then dropped old else old) ≡ (if b then dropped plain else plain)
      by_test true = refl
      by_test false = refl

  as_defined : (step : Step) (o : Option Refusal) (answer : Played) → refusal_of old step ≡ o
      → without_disk new ≡ (taken_unless plain step o).0 → answer ≡ (taken_unless plain step o).1 → more ≡ faults
      → IsAnswerOf plain faults (Ok step) (played_text (counted_as step) answer) (without_disk new) more
  as_defined step o answer is after same unfailed =
      let cause : o ≡ refusal_of plain step = sym (same_refusal step ∙ is) in
      inl (
        ap (λ (p : Played). played_text (counted_as step) p) (same ∙ ap (λ (x : Option Refusal). (taken_unless plain step x).1) cause),
        after ∙ ap (λ (x : Option Refusal). (taken_unless plain step x).0) cause,
        unfailed,
      )

  covers_plain : (count : ℕ) → Covers old count new → without_disk new ≡ all_covered plain
  covers_plain count covers = elim (cases_Bool (nat_lt old.covered (length old.history))) [
    | inl less ↦ ap (λ (k : StoreState D). without_disk k) (covers.some (ltb-true old.covered (length old.history) less))
        ∙ sym (ap (λ (b : Bool). if b then committed plain tt else plain) less)
    | inr all ↦ ap (λ (k : StoreState D). without_disk k) (covers.none (ltb-false old.covered (length old.history) all))
        ∙ sym (ap (λ (b : Bool). if b then committed plain tt else plain) all)
  ]

  finishes_plain : (o : Option Checkpoint) → IsSomeAnd o (λ checkpoint. new ≡ finished old checkpoint new.disk)
      → without_disk new ≡ all_checked plain o
  finishes_plain None done = absurd done
  finishes_plain (Some checkpoint) done = ap (λ (k : StoreState D). without_disk k) done

  replied_plain : (step : Step) (reply : Reply) → Replies old step reply new
      → (without_disk new ≡ (done plain step).0) × (told.Replied reply ≡ (done plain step).1)
  replied_plain (requested.Apply command) reply replies =
      (ap (λ (k : StoreState D). without_disk k) replies.0, ap (λ (r : Reply). told.Replied r) replies.1)
  replied_plain requested.Commit reply replies = absurd replies
  replied_plain requested.Begin reply replies = absurd replies
  replied_plain requested.Slice reply replies = absurd replies
  replied_plain requested.Finish reply replies = absurd replies

  counted_plain : (step : Step) (count : ℕ) → Counts old step count new
      → (without_disk new ≡ (done plain step).0) × (told.Count count ≡ (done plain step).1)
  counted_plain (requested.Apply command) count counts = absurd counts
  counted_plain requested.Commit count counts = (covers_plain count counts, ap (λ (n : ℕ). told.Count n) counts.count_is)
  counted_plain requested.Begin count counts =
      (ap (λ (k : StoreState D). without_disk k) counts.0, ap (λ (n : ℕ). told.Count n) counts.1)
  counted_plain requested.Slice count counts = (
    ap (λ (k : StoreState D). without_disk k) counts.0,
    ap (λ (n : ℕ). told.Count n) (counts.1 ∙ ap (λ (k : StoreState D). left_of k.begun) counts.0),
  )
  counted_plain requested.Finish count counts = (finishes_plain old.begun counts.0, ap (λ (n : ℕ). told.Count n) counts.1)

  wants_memory : (step : Step) → refusal_of old step ≡ None → MayTakeMemory step → WantsMemory plain (Ok step)
  wants_memory (requested.Apply command) none may = tt
  wants_memory requested.Commit none may = absurd may
  wants_memory requested.Begin none may = none
  wants_memory requested.Slice none may = absurd may
  wants_memory requested.Finish none may = absurd may

  calls_device : (step : Step) → MayCallDevice old step → MayCallDevice plain step
  calls_device (requested.Apply command) may = absurd may
  calls_device requested.Commit may = may
  calls_device requested.Begin may = tt
  calls_device requested.Slice may = tt
  calls_device requested.Finish may = tt

  refused_plain : (step : Step) (e : Refusal) → IsRefused old step e new → IsCause e faults more
      → IsAnswerOf plain faults (Ok step) (refusal_text e) (without_disk new) more
  refused_plain step e refused told_so =
      ⊎_elim (λ cause. as_defined step (Some e) (told.Refused e) cause.0
      (ap (λ (k : StoreState D). without_disk k) cause.1 ∙ left_plain step e) refl
      (none_failed e faults more (λ fault. cause_is_other old step (cause.0 ∙ ap (λ (x : Refusal). Some x) fault)) told_so))
      (λ rest. ⊎_elim
      (λ memory. inr (inl (
        wants_memory step memory.0 memory.1,
        ap refusal_text memory.2,
        ap (λ (k : StoreState D). without_disk k) memory.3,
        none_failed e faults more (λ fault. let clash : no_memory ≡ device_failed = sym memory.2 ∙ fault in cc) told_so,
      )))
      (λ fault. inr (inr (
        (same_refusal step ∙ fault.0, calls_device step fault.1),
        ap refusal_text fault.2,
        ap (λ (k : StoreState D). without_disk k) fault.3,
        one_failed e faults more fault.2 told_so,
      )))
      rest) refused

  pub answers_as : (step : Step) (answer : Played) → Takes old step answer new → TellsStep answer faults more
      → IsAnswerOf plain faults (Ok step) (played_text (counted_as step) answer) (without_disk new) more
  answers_as step (told.Replied reply) takes unfailed =
      let so = replied_plain step reply takes.1 in as_defined step None (told.Replied reply) takes.0 so.0 so.1 unfailed
  answers_as step (told.Count count) takes unfailed =
      let so = counted_plain step count takes.1 in as_defined step None (told.Count count) takes.0 so.0 so.1 unfailed
  answers_as step (told.Refused e) takes told_so = refused_plain step e takes told_so

-- ---- a line that is no step

wants_of : (s : PlainStore) (wanted : Result Step Refusal) → IsOfCommand wanted → WantsMemory s wanted
wants_of s (Err e) of = tt
wants_of s (Ok (requested.Apply command)) of = tt
wants_of s (Ok requested.Commit) of = absurd of
wants_of s (Ok requested.Begin) of = absurd of
wants_of s (Ok requested.Slice) of = absurd of
wants_of s (Ok requested.Finish) of = absurd of

pub refused_line : (s : PlainStore) (faults : ℕ) (wanted : Result Step Refusal) (e : Refusal) → (e ≡ no_memory) ⊎ (wanted ≡ Err e)
    → IsOfCommand wanted → IsAnswerOf s faults wanted (refusal_text e) s faults
refused_line s faults wanted e told of =
    ⊎_elim (λ memory. inr (inl (wants_of s wanted of, ap refusal_text memory, refl, refl)))
    (λ is. let P : Result Step Refusal → Type 0 = λ r. IsAnswerOf s faults r (refusal_text e) s faults in subst P (sym is) (inl (refl, refl, refl)))
    told
