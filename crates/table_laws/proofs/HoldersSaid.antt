-- The moves of a group over all commands determine its holders in the table after them.
use Rattle.std.specs.Prelude.{◌≡◌, ◌&&◌, not, Bool, true, false, List, refl}
use Rattle.std.proofs.Common.{ap, ap₂, sym, ◌∙◌, subst}
use Rattle.std.proofs.lemmas.Bool.{and_parts}
use Rattle.group_name.specs.Group.{Group}
use Rattle.run_plan.specs.declared.command.Command.{Command}
use Rattle.table_model.specs.GroupLaw.{is_pending, is_in_progress, was_stopped, Move}
use Rattle.table_model.specs.Groups.{holds, is_in, is_pending_in, is_in_progress_in, is_stop_requested, waits}
use Rattle.table_model.specs.Step.{after}
use Rattle.table_model.specs.Runs.{RunState}
use Rattle.table_model.specs.Sound.{IsSound}
use Rattle.table_model.specs.TableState.{TableState}
use Rattle.table_laws.specs.GroupHistories.{all_moves}
use Rattle.table_laws.specs.GroupHolders.{SayWhoHolds, is_stopping, is_stopping_in}
use Rattle.table_laws.specs.Names.{Names, name_in}
use Rattle.table_laws.proofs.HistoryLaw.{told_so_far}
use Rattle.table_laws.proofs.HistoryStep.{SoFar}
use Rattle.table_laws.proofs.HolderStatus.{Fits, Status, fits_pending, fits_in_progress, fits_stopped, held_is, holds_as, status, told_as, waits_as}
use Rattle.table_laws.proofs.OwnMoves.{own, runs_by_own, waits_by_own}
use Rattle.table_model.specs.declared.holder.Holder.{Holder}

module _ (names : Names) (t : TableState) (g : Group) (requests : Holder → Bool) (whole : List Move)
    (so_far : SoFar names g requests t whole) where
  abbrev runs : List RunState
  runs = t.runs

  abbrev moves : List Move
  moves = so_far.now

  -- what the moves say about a holder of the group, if they say nothing about others
  said : (h : Holder) (told tested : Bool) → (is_in runs g h ≡ true → told ≡ tested) → (is_in runs g h ≡ false → told ≡ false)
      → told ≡ (is_in runs g h && tested)
  said h told tested within outside =
      elim (is_in runs g h) as (λ b. is_in runs g h ≡ b → told ≡ (b && tested)) [
        | true ↦ within
        | false ↦ outside
      ] refl

  in_progress_said : (h : Holder) → is_in_progress h moves ≡ is_in_progress_in runs g h
  in_progress_said h =
      said h (is_in_progress h moves) (holds runs h)
      (λ is. fits_in_progress (status runs h) h moves (so_far.each h is) ∙ sym (holds_as runs h))
      (λ isnt. sym (runs_by_own h moves) ∙ ap (is_in_progress h) (so_far.others h isnt))

  pending_said : (h : Holder) → is_pending h moves ≡ is_pending_in runs g h
  pending_said h =
      said h (is_pending h moves) (waits runs h) (λ is. fits_pending (status runs h) h moves (so_far.each h is) ∙ sym (waits_as runs h))
      (λ isnt. sym (waits_by_own h moves) ∙ ap (is_pending h) (so_far.others h isnt))

  -- a holder in progress
  told_said : (h : Holder) → is_in_progress_in runs g h ≡ true → was_stopped h moves ≡ is_stop_requested runs h
  told_said h is =
      let parts = and_parts (is_in runs g h) (holds runs h) is in
      let held = held_is (status runs h) (sym (holds_as runs h) ∙ parts.1) in
      fits_stopped held.0 h moves (subst (λ (s : Status). Fits s h (own h moves)) held.1 (so_far.each h parts.0))
      ∙ sym (told_as runs h held.0 held.1)

  stopping_said : (h : Holder) → is_stopping h moves ≡ is_stopping_in runs g h
  stopping_said h =
      elim (is_in_progress_in runs g h) as
      (λ b. is_in_progress_in runs g h ≡ b → (is_in_progress h moves && was_stopped h moves) ≡ (b && is_stop_requested runs h)) [
        | true ↦ λ is. ap (λ b. b && was_stopped h moves) (in_progress_said h ∙ is) ∙ told_said h is
        | false ↦ λ isnt. ap (λ b. b && was_stopped h moves) (in_progress_said h ∙ isnt)
      ] refl

  in_progress_named : (h : Holder) → is_in_progress (name_in names t h) whole ≡ is_in_progress h moves
  in_progress_named h = ap₂ (λ s e. s && not e) (so_far.agrees.started h) (so_far.agrees.ended h)

  pending_named : (h : Holder) → is_pending (name_in names t h) whole ≡ is_pending h moves
  pending_named h =
      ap₂ (λ a b. a && b) (so_far.agrees.arrived h) (ap₂ (λ s e. not s && not e) (so_far.agrees.started h) (so_far.agrees.ended h))

  pub so_far_says : SayWhoHolds names t g whole
  so_far_says = record {
    in_progress = (λ h. in_progress_named h ∙ in_progress_said h);
    pending = (λ h. pending_named h ∙ pending_said h);
    stopping = (λ h. ap₂ (λ a b. a && b) (in_progress_named h) (so_far.agrees.stopped h) ∙ stopping_said h);
    who_runs = so_far.agrees.who_runs;
    who_waits = so_far.agrees.who_waits;
  }

pub moves_say_who_holds : (names : Names) (t : TableState) (cs : List Command) (g : Group) → IsSound t
    → SayWhoHolds names (after t cs) g (all_moves names g t cs)
moves_say_who_holds names t cs g s =
    so_far_says names (after t cs) g (λ n. false) (all_moves names g t cs) (told_so_far names t cs g s)
