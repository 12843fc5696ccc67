-- The names of holders over a history: they do not change within a step in which runs keep their attempts, and a name that has not arrived
-- has made no move.
use Rattle.std.specs.Prelude.{◌≡◌, ℕ, ◌≤◌, List, [], ◌∷◌, ◌++◌, Some, refl}
use Rattle.std.proofs.Common.{arith, ap, sym, ◌∙◌, subst}
use Rattle.table_model.specs.GroupLaw.{has_arrived, has_ended, has_started, was_stopped, Move}
use Rattle.table_model.specs.Sound.{IsSound}
use Rattle.table_model.specs.TableState.{TableState}
use Rattle.table_laws.specs.Names.{Names, attempt_of, by_id, name_in}
use Rattle.table_laws.proofs.Agrees.{Agrees, IsInjective}
use Rattle.table_laws.proofs.HolderIds.{by_id_apart}
use Rattle.table_laws.proofs.ListWalk.{nil_is_no_cons}
use Rattle.table_laws.proofs.OwnMoves.{own}
use Rattle.table_model.specs.declared.holder.Holder.{Holder}

pub names_are_injective : (names : Names) (t : TableState) → IsSound t → IsInjective (name_in names t)
names_are_injective names t s h k e =
    by_id_apart t s h k (names.differ (attempt_of t.runs h) (attempt_of t.runs k) (by_id t h) (by_id t k) e).1

-- agreement under other names that are equal for each holder
pub agrees_by : (name next : Holder → Holder) (now whole : List Move) → ((h : Holder) → next h ≡ name h) → Agrees name now whole
    → Agrees next now whole
agrees_by name next now whole same agrees = record {
  arrived = (λ h. ap (λ n. has_arrived n whole) (same h) ∙ agrees.arrived h);
  started = (λ h. ap (λ n. has_started n whole) (same h) ∙ agrees.started h);
  stopped = (λ h. ap (λ n. was_stopped n whole) (same h) ∙ agrees.stopped h);
  ended = (λ h. ap (λ n. has_ended n whole) (same h) ∙ agrees.ended h);
  who_runs = (λ n is. let from = agrees.who_runs n is in (from.0, from.1 ∙ sym (same from.0)));
  who_waits = (λ n is. let from = agrees.who_waits n is in (from.0, from.1 ∙ sym (same from.0)));
  latest_named = (λ h is. agrees.latest_named h (is ∙ ap (λ x. Some x) (same h)));
  named_latest = (λ h waits is. agrees.named_latest h waits is ∙ ap (λ x. Some x) (sym (same h)));
  just = (λ before k h split displaced.
      let was = agrees.just before k h split displaced in (
        was.0,
        was.1 ∙ ap (λ x. was.0 ++ Move.arrive x ∷ []) (sym (same k)),
        was.2 ∙ ap (λ x. Some x) (sym (same h)),
      ));
}

-- before there are moves
pub agrees_at_first : (name : Holder → Holder) → Agrees name [] []
agrees_at_first name = record {
  arrived = (λ h. refl);
  started = (λ h. refl);
  stopped = (λ h. refl);
  ended = (λ h. refl);
  who_runs = (λ n is. cc);
  who_waits = (λ n is. cc);
  latest_named = (λ h is. cc);
  named_latest = (λ h waits is. cc);
  just = (λ before k h split displaced. absurd (nil_is_no_cons before [] (Move.arrive k) split));
}

-- the holder of each move is named by an attempt up to its run's present one, if the run is in the table
abbrev pub AreNamed : Names → TableState → List Move → Type 0
AreNamed names t whole = (n : Holder) → (own n whole ≡ [] → ⊥)
    → (a : ℕ) × (m : Holder) × (n ≡ names.name a m) × ((h : Holder) → m ≡ by_id t h → a ≤ attempt_of t.runs h)

pub still_named : (names : Names) (t next : TableState) (whole : List Move) → ((h : Holder) → by_id next h ≡ by_id t h)
    → ((h : Holder) → attempt_of t.runs h ≤ attempt_of next.runs h) → AreNamed names t whole → AreNamed names next whole
still_named names t next whole same rise are n some =
    let from = are n some in (
      from.0,
      from.1,
      from.2,
      λ h is.
          let below : from.0 ≤ attempt_of t.runs h = from.3 h (is ∙ same h) in
          let later : attempt_of t.runs h ≤ attempt_of next.runs h = rise h in
          omega (arith, below, later),
    )

-- a later attempt has made no move
pub later_is_new : (names : Names) (t : TableState) (whole : List Move) → AreNamed names t whole → (a : ℕ) (h : Holder)
    → (a ≤ attempt_of t.runs h → ⊥) → own (names.name a (by_id t h)) whole ≡ []
later_is_new names t whole are a h later =
    elim (own (names.name a (by_id t h)) whole) as (λ ms. own (names.name a (by_id t h)) whole ≡ ms → ms ≡ []) [
      | [] ↦ λ none. refl
      | m ∷ ms ↦ λ some.
          let from = are (names.name a (by_id t h)) (λ none. no_cons m ms (sym some ∙ none)) in
          let same = names.differ a from.0 (by_id t h) from.1 from.2 in
          absurd (later (subst (λ b. b ≤ attempt_of t.runs h) (sym same.0) (from.3 h (sym same.1))))
    ] refl
  where
    no_cons : (m : Move) (ms : List Move) → m ∷ ms ≡ [] → ⊥
    no_cons m ms e = cc
