-- The moves of a group over all commands satisfy its law, after the base moves of the holders that the group already has, by the names of
-- the holders by the ids and attempts of their runs.
use Rattle.std.specs.Prelude.{◌≡◌, ◌≤◌, List, [], ◌∷◌, ◌++◌, ◌&&◌, not, Bool, true, false, refl}
use Rattle.std.proofs.Common.{arith, ap, ap₂, inl, inr, sym, ◌∙◌, subst, append_assoc}
use Rattle.std.proofs.lemmas.Bool.{and_from, and_parts, and_right, false≢true, or_parts}
use Rattle.std.proofs.lemmas.List.{append-nil}
use Rattle.group_name.specs.Group.{Group}
use Rattle.run_plan.specs.declared.command.Command.{Command}
use Rattle.table_model.specs.Groups.{cancels_in_progress, is_in}
use Rattle.table_model.specs.GroupLaw.{has_arrived, Move, KeepsLaw}
use Rattle.table_model.specs.Step.{after, stepped}
use Rattle.table_model.specs.Sound.{IsSound}
use Rattle.table_model.specs.TableState.{Step, TableState, index_of}
use Rattle.settling_laws.specs.Moved.{moved}
use Rattle.run_table.proofs.Kept.{kept_from_sound}
use Rattle.run_table.proofs.StepKeeps.{stepped_is_sound}
use Rattle.table_laws.specs.GroupHistories.{all_moves, requests_by, requests_cancellation, first_moves, group_moves, moves_in, named_moves}
use Rattle.table_laws.specs.GroupHistories.{step_moves}
use Rattle.table_laws.specs.Names.{Names, attempt_of, by_id, name_in}
use Rattle.table_laws.proofs.AttemptNames.{again_rises}
use Rattle.table_laws.proofs.ForgetSteps.{attempt_then, drops_of, same_by_id_then}
use Rattle.table_laws.proofs.Requesting.{requests_later, requests_now}
use Rattle.table_laws.proofs.BaseSoFar.{base_so_far}
use Rattle.table_laws.proofs.GroupSaid.{arrived_on}
use Rattle.table_laws.proofs.GroupsKept.{Grows}
use Rattle.table_laws.proofs.HistoryNames.{agrees_by, still_named}
use Rattle.table_laws.proofs.HistoryStep.{AreRequested, SoFar, after_step}
use Rattle.table_laws.proofs.HolderIds.{same_by_id}
use Rattle.table_laws.proofs.LawSoFar.{LawSoFar}
use Rattle.table_laws.proofs.RerunLaw.{again_goes_on}
use Rattle.table_laws.proofs.SameGroups.{by_later_groups}
use Rattle.table_laws.proofs.RunsDropped.{dropped_goes_on}
use Rattle.table_laws.proofs.StepsLaw.{Forgets, StepSays, step_says}
use Rattle.table_model.specs.declared.holder.Holder.{Holder}

-- ---- one step

module _ (names : Names) (g : Group) (requests : Holder → Bool) where
  -- in which no run begins again
  step_goes_on : (t : TableState) (s : Step) (whole : List Move) → IsSound t → IsSound s.table → StepSays g t s
      → AreRequested names g requests s whole → SoFar names g requests t whole → SoFar names g requests s.table (whole ++ step_moves names g s)
  step_goes_on t s whole sound sound_then says requested so_far =
      let next = s.table.runs in
      let now = so_far.now in
      let cancels : Holder → Bool = λ h. requests (name_in names s.table h) && cancels_in_progress next h in
      let same_ids : (h : Holder) → by_id s.table h ≡ by_id t h = same_by_id t s.table sound sound_then says.same_forgotten in
      let here : LawSoFar (is_in t.runs g) cancels now t.runs now = record {
        each = so_far.each;
        others = so_far.others;
        newest = so_far.newest;
        unbegun = so_far.unbegun;
        rest = [];
        split = sym (append-nil now);
        walk = tt;
        once = (λ h e. absurd (false≢true e));
      } in
      let made = says.goes_on cancels (λ h e. (and_parts (requests (name_in names s.table h)) (cancels_in_progress next h) e).1) now now
      (by_later_groups cancels g t.runs next (kept_from_sound t sound).fit says.grows now now here) in
      after_step names g s.table sound_then cancels requests now whole (moves_in next g s.moves)
      (agrees_by (name_in names t) (name_in names s.table) now whole (λ h. ap₂ names.name (says.grows.same_attempts h) (same_ids h)) so_far.agrees)
      (still_named names t s.table whole same_ids (λ h. no_lower h says.grows) so_far.named) so_far.law
      (λ k arrives new requested_it.
      and_from (requests (name_in names s.table k)) (cancels_in_progress next k) requested_it (requested k arrives new requested_it)) made
    where
      no_lower : (h : Holder) → Grows t.runs s.table.runs → attempt_of t.runs h ≤ attempt_of s.table.runs h
      no_lower h grows = let same : attempt_of s.table.runs h ≡ attempt_of t.runs h = grows.same_attempts h in omega (arith, same)

  -- in which the first runs are dropped
  forget_goes_on : (t : TableState) (s : Step) (whole : List Move) → Forgets g t s → SoFar names g requests t whole
      → SoFar names g requests s.table (whole ++ step_moves names g s)
  forget_goes_on t s whole forgets so_far =
      let none : step_moves names g s ≡ [] = ap (λ ms. named_moves names s.table (moves_in s.table.runs g ms)) forgets.silent in
      let drops = drops_of forgets.gone t s.table forgets.dropped g forgets.ended in
      subst (SoFar names g requests s.table) (sym (append-nil whole) ∙ ap (λ ms. whole ++ ms) (sym none))
      (dropped_goes_on names g requests forgets.gone t s.table drops whole so_far)

  command_goes_on : (t : TableState) (c : Command) (whole : List Move) → IsSound t → AreRequested names g requests (stepped t c) whole
      → SoFar names g requests t whole → SoFar names g requests (stepped t c).table (whole ++ step_moves names g (stepped t c))
  command_goes_on t c whole s requested so_far =
      elim (step_says g t c s) [
        | inl says ↦ step_goes_on t (stepped t c) whole s (stepped_is_sound t c s) says requested so_far
        | inr other ↦ elim other [
          | inl runs ↦
              subst (λ (made : Step). SoFar names g requests made.table (whole ++ step_moves names g made)) (sym runs.is)
              (again_goes_on names g requests t runs.requested s runs.begins whole so_far
              (subst (λ (made : Step). IsSound made.table) runs.is (stepped_is_sound t c s))
              (subst (λ (made : Step). AreRequested names g requests made whole) runs.is requested))
          | inr forgets ↦ forget_goes_on t (stepped t c) whole forgets so_far
        ]
      ]

  -- ---- all commands

  -- a name that has not arrived yet asks for cancellation only by the step in which it arrives
  abbrev pub AreRequestedBy : TableState → List Command → List Move → Type 0
  AreRequestedBy t cs whole = (n : Holder) → has_arrived n whole ≡ false → requests n ≡ true → requests_by names g t cs n ≡ true

  requested_in_step : (t : TableState) (c : Command) (cs : List Command) (whole : List Move) → IsSound (stepped t c).table
      → AreRequestedBy t (c ∷ cs) whole → AreRequested names g requests (stepped t c) whole
  requested_in_step t c cs whole s requested k arrives new requests_it =
      let next = (stepped t c).table in
      sym (requests_now names g (stepped t c) s k (requests_by names g next cs (name_in names next k)) arrives)
      ∙ requested (name_in names next k) new requests_it

  requested_after_step : (t : TableState) (c : Command) (cs : List Command) (whole : List Move) → AreRequestedBy t (c ∷ cs) whole
      → AreRequestedBy (stepped t c).table cs (whole ++ step_moves names g (stepped t c))
  requested_after_step t c cs whole requested n new requests_it =
      let next = (stepped t c).table in
      let made = step_moves names g (stepped t c) in
      let parts = or_parts (has_arrived n whole) (has_arrived n made) (sym (arrived_on n whole made) ∙ new) in
      sym (requests_later names g (stepped t c) n (requests_by names g next cs n) parts.1) ∙ requested n parts.0 requests_it

  pub history_goes_on : (t : TableState) (cs : List Command) (whole : List Move) → IsSound t → AreRequestedBy t cs whole
      → SoFar names g requests t whole → SoFar names g requests (after t cs) (whole ++ group_moves names g t cs)
  history_goes_on t [] whole s requested so_far = subst (SoFar names g requests t) (sym (append-nil whole)) so_far
  history_goes_on t (c ∷ cs) whole s requested so_far =
      let next = (stepped t c).table in
      let made = step_moves names g (stepped t c) in
      let next_sound = stepped_is_sound t c s in
      subst (SoFar names g requests (after next cs)) (append_assoc whole made (group_moves names g next cs))
      (history_goes_on next cs (whole ++ made) next_sound (requested_after_step t c cs whole requested)
      (command_goes_on t c whole s (requested_in_step t c cs whole next_sound requested) so_far))

  pub all_go_on : (t : TableState) (cs : List Command) → IsSound t → ((n : Holder) → has_arrived n (first_moves names g t) ≡ true → requests n ≡ false)
      → AreRequestedBy t cs (first_moves names g t) → SoFar names g requests (after t cs) (all_moves names g t cs)
  all_go_on t cs s none_requests requested =
      history_goes_on t cs (first_moves names g t) s requested (base_so_far names g requests t s none_requests)

-- a holder had its id before, and its attempt was no later
pub record Earlier (t next : TableState) (h : Holder) : Type 0 where
  pub was : Holder
  pub same_id : by_id next h ≡ by_id t was
  pub no_later : attempt_of t.runs was ≤ attempt_of next.runs h

-- attempts never decrease
pub attempts_rise : (g : Group) (t : TableState) (c : Command) → IsSound t → (h : Holder) → Earlier t (stepped t c).table h
attempts_rise g t c s h =
    let next = (stepped t c).table in
    let next_sound = stepped_is_sound t c s in
    elim (step_says g t c s) [
      | inl says ↦
          let same : attempt_of next.runs h ≡ attempt_of t.runs h = says.grows.same_attempts h in
          record { was = h; same_id = same_by_id t next s next_sound says.same_forgotten h; no_later = omega (arith, same) }
      | inr other ↦ elim other [
        | inl runs ↦ record {
          was = h;
          same_id = same_by_id t next s next_sound (ap (λ (made : Step). made.table.forgotten.through) runs.is) h;
          no_later = subst (λ (made : Step). attempt_of t.runs h ≤ attempt_of made.table.runs h) (sym runs.is)
              (again_rises t (index_of t runs.requested.run) runs.begins.was runs.begins.there (kept_from_sound t s).fit h);
        }
        | inr forgets ↦
            let k = forgets.gone in
            let same : attempt_of next.runs h ≡ attempt_of t.runs (moved k h) = attempt_then k t next forgets.dropped h in
            record { was = moved k h; same_id = same_by_id_then k t next forgets.dropped h; no_later = omega (arith, same) }
      ]
    ]

-- ---- the law

pub all_so_far : (names : Names) (t : TableState) (cs : List Command) (g : Group) → IsSound t
    → SoFar names g (requests_cancellation names g t cs) (after t cs) (all_moves names g t cs)
all_so_far names t cs g s =
    let first = first_moves names g t in
    all_go_on names g (requests_cancellation names g t cs) t cs s
    (λ n arrives. ap (λ b. requests_by names g t cs n && not b) arrives ∙ and_right (requests_by names g t cs n) false refl)
    (λ n new requested. (and_parts (requests_by names g t cs n) (not (has_arrived n first)) requested).0)

-- whichever holders ask for cancellation
pub told_so_far : (names : Names) (t : TableState) (cs : List Command) (g : Group) → IsSound t
    → SoFar names g (λ n. false) (after t cs) (all_moves names g t cs)
told_so_far names t cs g s = all_go_on names g (λ n. false) t cs s (λ n arrives. refl) (λ n new requested. absurd (false≢true requested))

pub group_keeps_law : (names : Names) (t : TableState) (cs : List Command) (g : Group) → IsSound t
    → KeepsLaw (requests_cancellation names g t cs) (all_moves names g t cs)
group_keeps_law names t cs g s = (all_so_far names t cs g s).law
