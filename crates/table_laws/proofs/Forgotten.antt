-- The moves of holders that are over are dropped, and these holders get new names.
use Rattle.std.specs.Prelude.{◌≡◌, List, [], ◌∷◌, ◌++◌, ◌&&◌, filter_map, not, Bool, true, false, Option, Some, None, if◌then◌else◌, refl}
use Rattle.std.specs.List.{last_or}
use Rattle.std.proofs.Common.{ap, ap₂, sym, ◌∙◌}
use Rattle.std.proofs.lemmas.Bool.{true≢false}
use Rattle.std.proofs.lemmas.Option.{same_Some}
use Rattle.table_model.specs.GroupLaw.{arrival_of, has_arrived, has_ended, has_started, is_pending, is_in_progress, latest, Move}
use Rattle.table_model.specs.GroupLaw.{next_displaced, was_stopped}
use Rattle.table_laws.proofs.Agrees.{Agrees}
use Rattle.table_laws.proofs.NamedMoves.{latest_arrived}
use Rattle.table_laws.proofs.OwnMoves.{arrived_by_own, ended_by_own, of_group, own, own_of_another, own_of_group, started_by_own}
use Rattle.table_laws.proofs.OwnMoves.{stopped_by_own, waits_by_own}
use Rattle.table_model.specs.declared.holder.Holder.{Holder}

-- the latest arrival, if it is kept, is the latest of those that are kept
pub latest_kept : (keeps : Holder → Bool) (moves : List Move) (o u : Option Holder) (h : Holder) → keeps h ≡ true → (o ≡ Some h → u ≡ Some h)
    → last_or o (filter_map arrival_of moves) ≡ Some h → last_or u (filter_map arrival_of (of_group keeps moves)) ≡ Some h
latest_kept keeps [] o u h is onward e = onward e
latest_kept keeps (Move.arrive k ∷ moves) o u h is onward e =
    elim (keeps k) as
    (λ b. keeps k ≡ b
    → last_or u (filter_map arrival_of (if b then Move.arrive k ∷ of_group keeps moves else of_group keeps moves)) ≡ Some h) [
      | true ↦ λ kept. latest_kept keeps moves (Some k) (Some k) h is (λ same. same) e
      | false ↦ λ gone.
          latest_kept keeps moves (Some k) u h is
          (λ same. absurd (true≢false (sym is ∙ ap keeps (sym (same_Some k h same)) ∙ gone))) e
    ] refl
latest_kept keeps (Move.start k ∷ moves) o u h is onward e =
    elim (keeps k) as
    (λ b. last_or u (filter_map arrival_of (if b then Move.start k ∷ of_group keeps moves else of_group keeps moves)) ≡ Some h) [
      | true ↦ latest_kept keeps moves o u h is onward e
      | false ↦ latest_kept keeps moves o u h is onward e
    ]
latest_kept keeps (Move.stop k ∷ moves) o u h is onward e =
    elim (keeps k) as
    (λ b. last_or u (filter_map arrival_of (if b then Move.stop k ∷ of_group keeps moves else of_group keeps moves)) ≡ Some h) [
      | true ↦ latest_kept keeps moves o u h is onward e
      | false ↦ latest_kept keeps moves o u h is onward e
    ]
latest_kept keeps (Move.end_with r k ∷ moves) o u h is onward e =
    elim (keeps k) as
    (λ b. last_or u (filter_map arrival_of (if b then Move.end_with r k ∷ of_group keeps moves else of_group keeps moves)) ≡ Some h) [
      | true ↦ latest_kept keeps moves o u h is onward e
      | false ↦ latest_kept keeps moves o u h is onward e
    ]

-- a property of a holder that depends only on its own moves
module _ (word : Holder → List Move → Bool) (by_own : (h : Holder) (moves : List Move) → word h (own h moves) ≡ word h moves) where
  said_of_kept : (keeps : Holder → Bool) (moves : List Move) (h : Holder) → keeps h ≡ true → word h (of_group keeps moves) ≡ word h moves
  said_of_kept keeps moves h is =
      sym (by_own h (of_group keeps moves)) ∙ ap (word h) (own_of_group keeps h moves is) ∙ by_own h moves

  said_of_gone : (keeps : Holder → Bool) (moves : List Move) (h : Holder) → keeps h ≡ false → word h (of_group keeps moves) ≡ word h []
  said_of_gone keeps moves h isnt = sym (by_own h (of_group keeps moves)) ∙ ap (word h) (own_of_another keeps h moves isnt)

  said_of_new : (moves : List Move) (h : Holder) → own h moves ≡ [] → word h moves ≡ word h []
  said_of_new moves h none = sym (by_own h moves) ∙ ap (word h) none

  said_again : (name next : Holder → Holder) (keeps : Holder → Bool) (now whole : List Move)
      → ((h : Holder) → keeps h ≡ true → next h ≡ name h) → ((h : Holder) → keeps h ≡ false → own (next h) whole ≡ [])
      → ((h : Holder) → word h [] ≡ false) → ((h : Holder) → word (name h) whole ≡ word h now) → (h : Holder)
      → word (next h) whole ≡ word h (of_group keeps now)
  said_again name next keeps now whole same new nothing agrees h =
      elim (keeps h) as (λ b. keeps h ≡ b → word (next h) whole ≡ word h (of_group keeps now)) [
        | true ↦ λ is. ap (λ n. word n whole) (same h is) ∙ agrees h ∙ sym (said_of_kept keeps now h is)
        | false ↦ λ isnt. said_of_new whole (next h) (new h isnt) ∙ nothing (next h) ∙ sym (nothing h) ∙ sym (said_of_gone keeps now h isnt)
      ] refl

pub forgets : (name next : Holder → Holder) (keeps : Holder → Bool) (now whole : List Move)
    → ((h : Holder) → keeps h ≡ true → next h ≡ name h) → ((h : Holder) → keeps h ≡ false → own (next h) whole ≡ [])
    → ((h : Holder) → keeps h ≡ false → (is_in_progress h now ≡ false) × (is_pending h now ≡ false))
    → ((h : Holder) → is_pending h now ≡ true → latest now ≡ Some h)
    → ((before : List Move) (k h : Holder) → of_group keeps now ≡ before ++ Move.arrive k ∷ [] → next_displaced before ≡ Some h → ⊥)
    → Agrees name now whole → Agrees next (of_group keeps now) whole
forgets name next keeps now whole same new over newest settled agrees =
    let in_progress : (h : Holder) → is_in_progress (name h) whole ≡ is_in_progress h now =
    λ h. ap₂ (λ s e. s && not e) (agrees.started h) (agrees.ended h) in
    let pending : (h : Holder) → is_pending (name h) whole ≡ is_pending h now =
    λ h. ap₂ (λ a b. a && b) (agrees.arrived h) (ap₂ (λ s e. not s && not e) (agrees.started h) (agrees.ended h)) in
    record {
      arrived = said_again has_arrived arrived_by_own name next keeps now whole same new (λ h. refl) agrees.arrived;
      started = said_again has_started started_by_own name next keeps now whole same new (λ h. refl) agrees.started;
      stopped = said_again was_stopped stopped_by_own name next keeps now whole same new (λ h. refl) agrees.stopped;
      ended = said_again has_ended ended_by_own name next keeps now whole same new (λ h. refl) agrees.ended;
      who_runs = (λ n is.
          let from = agrees.who_runs n is in
          let h = from.0 in
          let runs : is_in_progress h now ≡ true = sym (in_progress h) ∙ ap (λ x. is_in_progress x whole) (sym from.1) ∙ is in
          elim (keeps h) as (λ b. keeps h ≡ b → (k : Holder) × (n ≡ next k)) [
            | true ↦ λ kept. (h, from.1 ∙ sym (same h kept))
            | false ↦ λ gone. absurd (true≢false (sym runs ∙ (over h gone).0))
          ] refl);
      who_waits = (λ n is.
          let from = agrees.who_waits n is in
          let h = from.0 in
          let waits : is_pending h now ≡ true = sym (pending h) ∙ ap (λ x. is_pending x whole) (sym from.1) ∙ is in
          elim (keeps h) as (λ b. keeps h ≡ b → (k : Holder) × (n ≡ next k)) [
            | true ↦ λ kept. (h, from.1 ∙ sym (same h kept))
            | false ↦ λ gone. absurd (true≢false (sym waits ∙ (over h gone).1))
          ] refl);
      latest_named = (λ h is.
          elim (keeps h) as (λ b. keeps h ≡ b → latest (of_group keeps now) ≡ Some h) [
            | true ↦ λ kept.
                latest_kept keeps now None None h kept (λ e. e) (agrees.latest_named h (is ∙ ap (λ x. Some x) (same h kept)))
            | false ↦ λ gone.
                absurd (true≢false (sym (latest_arrived whole (next h) is)
                ∙ said_of_new has_arrived arrived_by_own whole (next h) (new h gone)))
          ] refl);
      named_latest = (λ h waits is.
          elim (keeps h) as (λ b. keeps h ≡ b → latest whole ≡ Some (next h)) [
            | true ↦ λ kept.
                let waits_now : is_pending h now ≡ true = sym (said_of_kept is_pending waits_by_own keeps now h kept) ∙ waits in
                agrees.named_latest h waits_now (newest h waits_now) ∙ ap (λ x. Some x) (sym (same h kept))
            | false ↦ λ gone. absurd (true≢false (sym waits ∙ said_of_gone is_pending waits_by_own keeps now h gone))
          ] refl);
      just = (λ before k h split displaced. absurd (settled before k h split displaced));
    }
