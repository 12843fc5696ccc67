-- The steps of a store that enter no command.
use Rattle.std.proofs.Common.{◌≡◌, ⊎_elim, ℕ, ◌≤◌, Bool, true, false, length, refl, ap, ◌∙◌, subst, sym, arith, Ok, Err}
use Rattle.std.proofs.Math.Nat.{eq-or-lt_of_le}
use Rattle.std.specs.Prelude.{Option, Some, None, Result, OnErr, IsSomeAnd, if◌then◌else◌, ◌||◌, is_some, nat_lt}
use Rattle.wf_value.specs.declared.refusal.Refusal.{Refusal}
use Rattle.act_store.specs.Checkpoints.{begun_at, dropped, finished, sliced}
use Rattle.act_store.specs.Plain.{broken, checkpoint_order, committed, failed_earlier, refusal_of_turn_over}
use Rattle.act_store.specs.Steps.{Covers, IsRefused, Takes, is_area_full, left_by, refusal_of}
use Rattle.act_store.specs.StoreState.{Checkpoint, StoreState}
use Rattle.act_store.specs.declared.step.Played.{Played}
use Rattle.act_store.specs.declared.step.Played.TheVariants as played
use Rattle.act_store.specs.declared.step.Step.{Step}
use Rattle.act_store.specs.declared.step.Step.TheVariants as requested
use Rattle.client_loop.specs.Events.{EntersNone}

-- the same entries, and covered ones stay covered
pub record Keeps {D : Type 0} (old new : StoreState D) : Type 0 where
  pub base : new.base ≡ old.base
  pub history : new.history ≡ old.history
  pub covers : old.covered ≤ new.covered

module _ {D : Type 0} (old new : StoreState D) where
  keeps_by : (other : StoreState D) → new ≡ other → other.base ≡ old.base → other.history ≡ old.history → old.covered ≤ other.covered → Keeps old new
  keeps_by other same base history covers = subst (λ (s : StoreState D). Keeps old s) (sym same)
      (record { base = base; history = history; covers = covers })

  keeps_same : new ≡ old → Keeps old new
  keeps_same same = keeps_by old same refl refl (omega arith)

  keeps_broken : new ≡ broken old new.disk → Keeps old new
  keeps_broken same = keeps_by (broken old new.disk) same refl refl (omega arith)

  keeps_left : (step : Step) (e : Refusal) → new ≡ left_by old step e → Keeps old new
  keeps_left (requested.Apply command) e left = keeps_same left
  keeps_left requested.Commit e left = keeps_same left
  keeps_left requested.Begin e left = keeps_same left
  keeps_left requested.Slice e left = keeps_same left
  keeps_left requested.Finish e left = by_test (is_area_full e) left
    where
      by_test : (b : Bool) → new ≡ (if b then dropped old else old) → Keeps old new
      by_test true drops = keeps_by (dropped old) drops refl refl (omega arith)
      by_test false same = keeps_same same

  keeps_refused : (step : Step) (e : Refusal) → IsRefused old step e new → Keeps old new
  keeps_refused step e refused = ⊎_elim (λ cause. keeps_left step e cause.1)
      (λ rest. ⊎_elim (λ memory. keeps_same memory.3) (λ fault. keeps_broken fault.3) rest) refused

  keeps_covers : (count : ℕ) → old.covered ≤ length old.history → Covers old count new → Keeps old new
  keeps_covers count within covers = ⊎_elim (λ all. keeps_same (covers.none (omega (arith, all))))
      (λ less. keeps_by (committed old new.disk) (covers.some less) refl refl within) (eq-or-lt_of_le within)

  keeps_finished : (o : Option Checkpoint) → old.covered ≤ length old.history → IsSomeAnd o (λ checkpoint. new ≡ finished old checkpoint new.disk)
      → Keeps old new
  keeps_finished None within done = absurd done
  keeps_finished (Some checkpoint) within done = keeps_by (finished old checkpoint new.disk) done refl refl within

  pub takes_keeps : (step : Step) → EntersNone step → (answer : Played) → Takes old step answer new → old.covered ≤ length old.history → Keeps old new
  takes_keeps step none (played.Refused e) takes within = keeps_refused step e takes
  takes_keeps (requested.Apply command) none (played.Replied reply) takes within = absurd none
  takes_keeps requested.Commit none (played.Replied reply) takes within = absurd takes.1
  takes_keeps requested.Begin none (played.Replied reply) takes within = absurd takes.1
  takes_keeps requested.Slice none (played.Replied reply) takes within = absurd takes.1
  takes_keeps requested.Finish none (played.Replied reply) takes within = absurd takes.1
  takes_keeps (requested.Apply command) none (played.Count count) takes within = absurd none
  takes_keeps requested.Commit none (played.Count count) takes within = keeps_covers count within takes.1
  takes_keeps requested.Begin none (played.Count count) takes within = keeps_by (begun_at old new.disk) takes.1.0 refl refl (omega arith)
  takes_keeps requested.Slice none (played.Count count) takes within = keeps_by (sliced old new.disk) takes.1.0 refl refl (omega arith)
  takes_keeps requested.Finish none (played.Count count) takes within = keeps_finished old.begun within takes.1.0

-- ---- a store that has failed

no_none : (e : Refusal) → ◌≡◌ {A = Option Refusal} (Some e) None → ⊥
no_none e is = cc

same_refusal : (e f : Refusal) → ◌≡◌ {A = Option Refusal} (Some e) (Some f) → e ≡ f
same_refusal e f is = cc

module _ {D : Type 0} (old new : StoreState D) where
  dead_refusal : (step : Step) → EntersNone step → old.failed ≡ true → refusal_of old step ≡ Some failed_earlier
  dead_refusal (requested.Apply command) none is = absurd none
  dead_refusal requested.Commit none is = rw is refl
  dead_refusal requested.Begin none is = rw is refl
  dead_refusal requested.Slice none is = rw is refl
  dead_refusal requested.Finish none is = rw is refl

  left_dead : (step : Step) → left_by old step failed_earlier ≡ old
  left_dead (requested.Apply command) = refl
  left_dead requested.Commit = refl
  left_dead requested.Begin = refl
  left_dead requested.Slice = refl
  left_dead requested.Finish = refl

  pub takes_dead : (step : Step) → EntersNone step → (answer : Played) → Takes old step answer new → old.failed ≡ true → new ≡ old
  takes_dead step none (played.Refused e) takes failed =
      let is = dead_refusal step none failed in
      ⊎_elim (λ cause. cause.1 ∙ ap (left_by old step) (same_refusal e failed_earlier (sym cause.0 ∙ is)) ∙ left_dead step)
      (λ rest. ⊎_elim (λ memory. absurd (no_none failed_earlier (sym is ∙ memory.0))) (λ fault. absurd (no_none failed_earlier (sym is ∙ fault.0))) rest) takes
  takes_dead step none (played.Replied reply) takes failed = absurd (no_none failed_earlier (sym (dead_refusal step none failed) ∙ takes.0))
  takes_dead step none (played.Count count) takes failed = absurd (no_none failed_earlier (sym (dead_refusal step none failed) ∙ takes.0))

live_or : (failed begun pending : Bool) → (if failed then Some failed_earlier else (if begun || pending then Some checkpoint_order else None)) ≡ None
    → failed ≡ true → ⊥
live_or true begun pending is h = cc
live_or false begun pending is h = cc

pub turns_live : {D : Type 0} (s : StoreState D) → refusal_of_turn_over s ≡ None → s.failed ≡ true → ⊥
turns_live s none h = live_or s.failed (is_some s.begun) (nat_lt s.covered (length s.history)) none h

failed_or : (failed begun pending : Bool)
    → (if failed then Some failed_earlier else (if begun || pending then Some checkpoint_order else None)) ≡ Some failed_earlier → failed ≡ true
failed_or true begun pending is = refl
failed_or false true pending is = cc
failed_or false false true is = cc
failed_or false false false is = cc

-- only a store that has failed refuses a turn-over so
pub failed_refusal : {D : Type 0} (s : StoreState D) → refusal_of_turn_over s ≡ Some failed_earlier → s.failed ≡ true
failed_refusal s is = failed_or s.failed (is_some s.begun) (nat_lt s.covered (length s.history)) is

-- what is so, is so of a refusal
pub on_err : {A X : Type 0} (result : Result A Refusal) → X → OnErr result X
on_err (Ok a) x = tt
on_err (Err e) x = x
