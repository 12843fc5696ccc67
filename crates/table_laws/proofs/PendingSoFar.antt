-- By the moves so far a pending holder is the latest arrival and has made no other move. So if some holders' moves are left out, the last
-- move that remains displaces nobody.
use Rattle.std.specs.Prelude.{◌≡◌, List, [], ◌∷◌, ◌++◌, ◌&&◌, ◌||◌, not, Bool, true, false, Some, None, if◌then◌else◌, refl}
use Rattle.std.proofs.Common.{ap, inl, inr, sym, ◌∙◌, subst}
use Rattle.std.proofs.lemmas.Bool.{true≢false}
use Rattle.std.proofs.lemmas.Option.{same_Some}
use Rattle.group_name.specs.Group.{Group}
use Rattle.table_model.specs.GroupLaw.{has_arrived, has_ended, has_started, is_pending, is_in_progress, latest, next_displaced, same_holder, Move}
use Rattle.table_model.specs.Groups.{holds, is_in, waits}
use Rattle.table_model.specs.TableState.{TableState}
use Rattle.settling_laws.proofs.ArrivalKeeps.{itself, one_or_another}
use Rattle.table_laws.specs.Names.{Names}
use Rattle.table_laws.proofs.Forgotten.{latest_kept}
use Rattle.table_laws.proofs.GroupSaid.{latest_on, pending_on}
use Rattle.table_laws.proofs.HistoryStep.{SoFar}
use Rattle.table_laws.proofs.HolderStatus.{Fits, Status, fits_pending, fits_in_progress, holds_as, status, waiting_is, waits_as}
use Rattle.table_laws.proofs.NamedMoves.{displaced_is, last_same, pending_unmoved}
use Rattle.table_laws.proofs.OwnMoves.{of_group, own, own_of_another, own_of_group, own_on, runs_by_own, waits_by_own}
use Rattle.table_model.specs.declared.holder.Holder.{Holder}

still_waits : (a s e : Bool) → (a && (not s && not e)) ≡ true → ((a || true) && (not (s || false) && not (e || false))) ≡ true
still_waits false s e is = cc
still_waits true true e is = cc
still_waits true false true is = cc
still_waits true false false is = refl

module _ (names : Names) (g : Group) (requests : Holder → Bool) (t : TableState) (whole : List Move) (so_far : SoFar names g requests t whole) where
  -- a holder that neither holds nor waits
  pub idle_so_far : (h : Holder) → (holds t.runs h ≡ false) × (waits t.runs h ≡ false)
      → (is_in_progress h so_far.now ≡ false) × (is_pending h so_far.now ≡ false)
  idle_so_far h idle =
      elim (is_in t.runs g h) as
      (λ b. is_in t.runs g h ≡ b → (is_in_progress h so_far.now ≡ false) × (is_pending h so_far.now ≡ false)) [
        | true ↦ λ is. (
          fits_in_progress (status t.runs h) h so_far.now (so_far.each h is) ∙ sym (holds_as t.runs h) ∙ idle.0,
          fits_pending (status t.runs h) h so_far.now (so_far.each h is) ∙ sym (waits_as t.runs h) ∙ idle.1,
        )
        | false ↦ λ isnt. (
          sym (runs_by_own h so_far.now) ∙ ap (is_in_progress h) (so_far.others h isnt),
          sym (waits_by_own h so_far.now) ∙ ap (is_pending h) (so_far.others h isnt),
        )
      ] refl

  pending_in_it : (h : Holder) → is_pending h so_far.now ≡ true → (is_in t.runs g h ≡ true) × (waits t.runs h ≡ true)
  pending_in_it h pends =
      elim (is_in t.runs g h) as (λ b. is_in t.runs g h ≡ b → (b ≡ true) × (waits t.runs h ≡ true)) [
        | true ↦ λ is. (refl, waits_as t.runs h ∙ sym (fits_pending (status t.runs h) h so_far.now (so_far.each h is)) ∙ pends)
        | false ↦ λ isnt.
            absurd (true≢false (sym pends ∙ sym (waits_by_own h so_far.now) ∙ ap (is_pending h) (so_far.others h isnt)))
      ] refl

  pub pending_is_newest : (h : Holder) → is_pending h so_far.now ≡ true → latest so_far.now ≡ Some h
  pending_is_newest h pends = let its = pending_in_it h pends in so_far.newest h its.0 its.1

  -- it has arrived and has made no other move
  pending_moves : (h : Holder) → is_pending h so_far.now ≡ true → own h so_far.now ≡ Move.arrive h ∷ []
  pending_moves h pends =
      let its = pending_in_it h pends in
      subst (λ (st : Status). Fits st h (own h so_far.now)) (waiting_is (status t.runs h) (sym (waits_as t.runs h) ∙ its.1))
      (so_far.each h its.0)

  -- ---- the moves of the holders that are kept

  module _ (keeps : Holder → Bool) where
    abbrev kept : List Move
    kept = of_group keeps so_far.now

    pending_kept : (h : Holder) → is_pending h kept ≡ true → (keeps h ≡ true) × (is_pending h so_far.now ≡ true)
    pending_kept h pends =
        elim (keeps h) as (λ b. keeps h ≡ b → (b ≡ true) × (is_pending h so_far.now ≡ true)) [
          | true ↦ λ is. (
            refl,
            sym (waits_by_own h so_far.now) ∙ ap (is_pending h) (sym (own_of_group keeps h so_far.now is)) ∙ waits_by_own h kept ∙ pends,
          )
          | false ↦ λ gone.
              absurd (true≢false (sym pends ∙ sym (waits_by_own h kept) ∙ ap (is_pending h) (own_of_another keeps h so_far.now gone)))
        ] refl

    -- an arrival that displaces is not the last of them
    pub settled_by_now : (before : List Move) (k h : Holder) → kept ≡ before ++ Move.arrive k ∷ [] → next_displaced before ≡ Some h → ⊥
    settled_by_now before k h split displaced =
        let was = displaced_is before h displaced in
        elim (one_or_another h k) [
          | inr apart ↦ apart.0 (of_another apart.1 was.1)
          | inl same ↦ of_itself same was.1
        ]
      where
        -- if they differ, the displaced holder would still be the latest arrival
        of_another : same_holder h k ≡ false → is_pending h before ≡ true → h ≡ k
        of_another apart pended =
            let pends : is_pending h kept ≡ true = ap (is_pending h) split ∙ pending_unmoved h before (Move.arrive k) apart ∙ pended in
            let its = pending_kept h pends in
            let last : latest kept ≡ Some h = latest_kept keeps so_far.now None None h its.0 (λ e. e) (pending_is_newest h its.1) in
            same_Some h k (sym last ∙ ap latest split ∙ latest_on before (Move.arrive k ∷ []))

        -- if they are the same, the holder would arrive twice
        of_itself : h ≡ k → is_pending h before ≡ true → ⊥
        of_itself same pended =
            let its : same_holder h k ≡ true = ap (same_holder h) (sym same) ∙ itself h in
            let pends : is_pending h kept ≡ true =
            ap (is_pending h) split
            ∙ pending_on h before (Move.arrive k ∷ []) true false false (ap (λ b. b || false) its) refl refl
            ∙ still_waits (has_arrived h before) (has_started h before) (has_ended h before) pended in
            let there = pending_kept h pends in
            let alone : own h before ++ Move.arrive k ∷ [] ≡ [] ++ Move.arrive h ∷ [] =
            ap (λ ms. own h before ++ ms) (sym (ap (λ b. if b then Move.arrive k ∷ [] else []) its))
            ∙ sym (own_on h before (Move.arrive k ∷ [])) ∙ ap (own h) (sym split) ∙ own_of_group keeps h so_far.now there.0
            ∙ pending_moves h there.1 in
            let none : own h before ≡ [] = (last_same (own h before) [] (Move.arrive k) (Move.arrive h) alone).0 in
            true≢false (sym pended ∙ sym (waits_by_own h before) ∙ ap (is_pending h) none)
