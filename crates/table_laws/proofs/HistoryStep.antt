-- What is known about a group after some commands: the moves of the present attempts match the status of its holders, and all moves, by
-- names, satisfy the law. One step preserves this.
use Rattle.std.specs.Prelude.{◌≡◌, ℕ, ◌≤◌, List, [], ◌∷◌, ◌++◌, map, Bool, true, false, Some, if◌then◌else◌, refl}
use Rattle.std.proofs.Common.{arith, ap, sym, ◌∙◌, subst}
use Rattle.std.proofs.lemmas.Bool.{true≢false}
use Rattle.std.proofs.lemmas.List.{append_cancel_left}
use Rattle.group_name.specs.Group.{Group}
use Rattle.table_model.specs.Groups.{cancels_in_progress, is_in, waits}
use Rattle.table_model.specs.GroupLaw.{has_arrived, has_started, holder_of, latest, same_holder, Move, KeepsLaw}
use Rattle.settling_laws.proofs.ArrivalKeeps.{holder_tested}
use Rattle.table_model.specs.Sound.{IsSound}
use Rattle.table_model.specs.TableState.{Step, TableState}
use Rattle.table_laws.specs.GroupHistories.{moves_in}
use Rattle.table_laws.specs.Names.{Names, attempt_of, by_id, name_in, renamed}
use Rattle.table_laws.proofs.Agrees.{Agrees}
use Rattle.table_laws.proofs.GroupLawWalk.{Lawful}
use Rattle.table_laws.proofs.HistoryNames.{AreNamed, names_are_injective}
use Rattle.table_laws.proofs.HolderIds.{by_id_apart}
use Rattle.table_laws.proofs.HolderStatus.{Fits, status}
use Rattle.table_laws.proofs.LawSoFar.{LawSoFar}
use Rattle.table_laws.proofs.ListWalk.{Walk}
use Rattle.table_laws.proofs.NamedLaw.{named_law_goes_on}
use Rattle.table_laws.proofs.OwnMoves.{arrived_by_own, own, own_on}
use Rattle.table_laws.proofs.Unbegun.{Unbegun}
use Rattle.table_model.specs.declared.holder.Holder.{Holder}

pub record SoFar (names : Names) (g : Group) (requests : Holder → Bool) (t : TableState) (whole : List Move) : Type 0 where
  pub now : List Move
  pub each : (h : Holder) → is_in t.runs g h ≡ true → Fits (status t.runs h) h (own h now)
  pub others : (h : Holder) → is_in t.runs g h ≡ false → own h now ≡ []
  pub newest : (h : Holder) → is_in t.runs g h ≡ true → waits t.runs h ≡ true → latest now ≡ Some h
  pub unbegun : (h : Holder) → is_in t.runs g h ≡ true → has_arrived h now ≡ true → has_started h now ≡ false → Unbegun t.runs h
  pub agrees : Agrees (name_in names t) now whole
  pub named : AreNamed names t whole
  pub law : KeepsLaw requests whole

-- a holder that asks for cancellation by its name, and arrives in this step, does so in the table after it
abbrev pub AreRequested : Names → Group → (Holder → Bool) → Step → List Move → Type 0
AreRequested names g requests s whole =
    (k : Holder) → has_arrived k (moves_in s.table.runs g s.moves) ≡ true → has_arrived (name_in names s.table k) whole ≡ false
    → requests (name_in names s.table k) ≡ true → cancels_in_progress s.table.runs k ≡ true

-- a holder that has arrived is in the group
pub arrived_in_it : (names : Names) (g : Group) (requests : Holder → Bool) (t : TableState) (whole : List Move)
    → (so_far : SoFar names g requests t whole) → (h : Holder) → has_arrived h so_far.now ≡ true → is_in t.runs g h ≡ true
arrived_in_it names g requests t whole so_far h arrives =
    elim (is_in t.runs g h) as (λ b. is_in t.runs g h ≡ b → b ≡ true) [
      | true ↦ λ it. refl
      | false ↦ λ isnt.
          absurd (true≢false (sym arrives ∙ sym (arrived_by_own h so_far.now) ∙ ap (has_arrived h) (so_far.others h isnt)))
    ] refl

-- a move by a new name is of the holder with that name
named_by : (name : Holder → Holder) (n : Holder) (moves : List Move) → (own n (map (renamed name) moves) ≡ [] → ⊥)
    → (h : Holder) × (n ≡ name h)
named_by name n [] some = absurd (some refl)
named_by name n (m ∷ moves) some = first (λ rest. named_by name n moves rest) m some
  where
    Later : Type 0
    Later = (own n (map (renamed name) moves) ≡ [] → ⊥) → (h : Holder) × (n ≡ name h)

    of_first : Later → (h : Holder) (x : Move) → holder_of x ≡ name h
        → ((if same_holder n (holder_of x) then x ∷ own n (map (renamed name) moves) else own n (map (renamed name) moves)) ≡ [] → ⊥)
        → (k : Holder) × (n ≡ name k)
    of_first later h x is other =
        elim (same_holder n (holder_of x)) as
        (λ b. same_holder n (holder_of x) ≡ b
        → ((if b then x ∷ own n (map (renamed name) moves) else own n (map (renamed name) moves)) ≡ [] → ⊥)
        → (k : Holder) × (n ≡ name k)) [
          | true ↦ λ same not_none. (h, holder_tested n (holder_of x) same ∙ is)
          | false ↦ λ apart not_none. later not_none
        ] refl other

    first : Later → (x : Move) → (own n (map (renamed name) (x ∷ moves)) ≡ [] → ⊥) → (h : Holder) × (n ≡ name h)
    first later (Move.arrive h) other = of_first later h (Move.arrive (name h)) refl other
    first later (Move.start h) other = of_first later h (Move.start (name h)) refl other
    first later (Move.stop h) other = of_first later h (Move.stop (name h)) refl other
    first later (Move.end_with r h) other = of_first later h (Move.end_with r (name h)) refl other

module _ (names : Names) (g : Group) (t : TableState) (s : IsSound t) where
  abbrev name : Holder → Holder
  name = name_in names t

  named_on : (whole more : List Move) → AreNamed names t whole → AreNamed names t (whole ++ map (renamed name) more)
  named_on whole more are n some =
      elim (own n whole) as
      (λ ms. own n whole ≡ ms
      → (a : ℕ) × (m : Holder) × (n ≡ names.name a m) × ((h : Holder) → m ≡ by_id t h → a ≤ attempt_of t.runs h)) [
        | [] ↦ λ none.
            let from = named_by name n more (λ gone. some (own_on n whole (map (renamed name) more)
            ∙ ap (λ ms. ms ++ own n (map (renamed name) more)) none ∙ gone)) in
            (attempt_of t.runs from.0, by_id t from.0, from.1, up_to from.0)
        | m ∷ ms ↦ λ there. are n (λ none. no_cons m ms (sym there ∙ none))
      ] refl
    where
      no_cons : (m : Move) (ms : List Move) → m ∷ ms ≡ [] → ⊥
      no_cons m ms e = cc

      up_to : (k h : Holder) → by_id t k ≡ by_id t h → attempt_of t.runs k ≤ attempt_of t.runs h
      up_to k h is =
          let same : attempt_of t.runs k ≡ attempt_of t.runs h = ap (attempt_of t.runs) (by_id_apart t s k h is) in
          omega (arith, same)

  -- the part of a step after these moves, in which no attempt changes; a holder that arrives in it has not arrived under its name before
  pub after_step : (cancels requests : Holder → Bool) (now whole more : List Move) → Agrees name now whole
      → AreNamed names t whole → KeepsLaw requests whole
      → ((k : Holder) → has_arrived k more ≡ true → has_arrived (name k) whole ≡ false → requests (name k) ≡ true → cancels k ≡ true)
      → LawSoFar (is_in t.runs g) cancels now t.runs (now ++ more)
      → SoFar names g requests t (whole ++ map (renamed name) more)
  after_step cancels requests now whole more agrees named law requested so =
      let rest : so.rest ≡ more = sym (append_cancel_left now more so.rest so.split) in
      let walk : Walk (Lawful cancels) now more = subst (λ ms. Walk (Lawful cancels) now ms) rest so.walk in
      let new : (k : Holder) → has_arrived k more ≡ true → has_arrived (name k) whole ≡ false =
      λ k arrives. agrees.arrived k ∙ so.once k (ap (has_arrived k) rest ∙ arrives) in
      let both = named_law_goes_on name cancels requests now whole more (names_are_injective names t s) agrees
      (λ k arrives. requested k arrives (new k arrives)) walk law in
      record {
        now = now ++ more;
        each = so.each;
        others = so.others;
        newest = so.newest;
        unbegun = so.unbegun;
        agrees = both.1;
        named = named_on whole more named;
        law = both.0;
      }
