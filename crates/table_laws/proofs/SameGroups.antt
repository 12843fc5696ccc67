-- What the moves of a group say about its holders holds by the groups of a later table too, since a holder that has arrived stays in its
-- group.
use Rattle.std.specs.Prelude.{◌≡◌, ◌⊎◌, List, [], Bool, true, false, Some, None, refl}
use Rattle.std.proofs.Common.{ap, inl, inr, sym, ◌∙◌, subst}
use Rattle.std.proofs.lemmas.Bool.{true≢false}
use Rattle.group_name.specs.Group.{Group}
use Rattle.table_model.specs.GroupLaw.{has_arrived, Move}
use Rattle.table_model.specs.Groups.{is_in}
use Rattle.table_model.specs.Runs.{leg_at, run_at, LegState, RunState}
use Rattle.table_model.proofs.RunFits.{RunsFit}
use Rattle.settling_laws.proofs.OneEach.{IsOneOf, one_that_waits}
use Rattle.table_laws.proofs.GroupsKept.{Grows, is_in_kept}
use Rattle.table_laws.proofs.HolderStatus.{Fits, Status, status, status_by, status_of_leg, status_of_run}
use Rattle.table_laws.proofs.LawSoFar.{LawSoFar, unseen_is_unmoved}
use Rattle.table_laws.proofs.OwnMoves.{arrived_by_own, own}
use Rattle.table_model.specs.declared.holder.Holder.{Holder}
use Rattle.table_model.specs.declared.holder.Holder.TheVariants.{Run, Leg}

pub there_or_not : (runs : List RunState) (h : Holder) → IsOneOf runs h ⊎ (status runs h ≡ Status.unarrived)
there_or_not runs (Run r) =
    elim (run_at runs r) as (λ o. ((x : RunState) × (o ≡ Some x)) ⊎ (status_by status_of_run o ≡ Status.unarrived)) [
      | None ↦ inr refl
      | Some x ↦ inl (x, refl)
    ]
there_or_not runs (Leg p) =
    elim (leg_at runs p) as (λ o. ((z : LegState) × (o ≡ Some z)) ⊎ (status_by status_of_leg o ≡ Status.unarrived)) [
      | None ↦ inr refl
      | Some z ↦ inl (z, refl)
    ]

module _ (cancels : Holder → Bool) (g : Group) (runs next : List RunState) (fit : RunsFit runs) (grows : Grows runs next)
    (start moves : List Move)
    (so_far : LawSoFar (is_in runs g) cancels start runs moves) where
  same_group_as : (h : Holder) → IsOneOf runs h → is_in next g h ≡ is_in runs g h
  same_group_as = is_in_kept runs next fit grows g

  -- a holder that has not arrived has made no move
  none_of_it : (h : Holder) → status runs h ≡ Status.unarrived → own h moves ≡ []
  none_of_it h unseen = unseen_is_unmoved (is_in runs g) cancels runs moves so_far.each so_far.others h unseen

  -- a holder that has arrived is in the group
  arrived_in_it : (h : Holder) → has_arrived h moves ≡ true → is_in runs g h ≡ true
  arrived_in_it h arrives =
      elim (is_in runs g h) as (λ b. is_in runs g h ≡ b → b ≡ true) [
        | true ↦ λ is. refl
        | false ↦ λ isnt. absurd (true≢false (sym arrives ∙ sym (arrived_by_own h moves) ∙ ap (has_arrived h) (so_far.others h isnt)))
      ] refl

  pub by_later_groups : LawSoFar (is_in next g) cancels start runs moves
  by_later_groups = record {
    each = (λ h is.
        elim (there_or_not runs h) [
          | inl there ↦ so_far.each h (sym (same_group_as h there) ∙ is)
          | inr unseen ↦ subst (λ (s : Status). Fits s h (own h moves)) (sym unseen) (none_of_it h unseen)
        ]);
    others = (λ h isnt.
        elim (there_or_not runs h) [
          | inl there ↦ so_far.others h (sym (same_group_as h there) ∙ isnt)
          | inr unseen ↦ none_of_it h unseen
        ]);
    newest = (λ h is e. so_far.newest h (sym (same_group_as h (one_that_waits runs h e)) ∙ is) e);
    unbegun = (λ h is arrives unstarted. so_far.unbegun h (arrived_in_it h arrives) arrives unstarted);
    rest = so_far.rest;
    split = so_far.split;
    walk = so_far.walk;
    once = so_far.once;
  }
