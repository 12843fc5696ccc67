-- The base moves match the status of each holder that a group already has, and satisfy its law, by the holders' names.
use Rattle.std.specs.Prelude.{◌≡◌, List, [], ◌∷◌, ◌++◌, find, map, option_to_list, Bool, true, false, Option, Some, None}
use Rattle.std.specs.Prelude.{if◌then◌else◌, refl}
use Rattle.std.specs.List.{AllByRecursion}
use Rattle.std.specs.Option.{option_map_or}
use Rattle.std.proofs.Common.{ap, ap₂, sym, ◌∙◌}
use Rattle.std.proofs.lemmas.Bool.{and_from, and_parts, false≢true, true≢false}
use Rattle.std.proofs.lemmas.List.{append-nil}
use Rattle.group_name.specs.Group.{Group}
use Rattle.table_model.specs.Groups.{cancels_in_progress, is_stop_requested, waits}
use Rattle.table_model.specs.GroupLaw.{has_arrived, has_started, holder_of, is_pending, is_in_progress, is_the, same_holder, Move}
use Rattle.table_model.specs.Groups.{HasOneEach, all_holders, group_state, holds, is_in, is_pending_in, is_in_progress_in}
use Rattle.table_model.specs.Runs.{RunState}
use Rattle.table_model.specs.Sound.{IsSound}
use Rattle.table_model.specs.TableState.{TableState}
use Rattle.table_model.proofs.Found.{find_passes, none_found}
use Rattle.table_model.proofs.RunFits.{RunsFit}
use Rattle.settling_laws.proofs.OneEach.{IsOneOf, each_holder, one_that_holds, one_that_waits}
use Rattle.run_table.proofs.Kept.{kept_from_sound}
use Rattle.table_model.proofs.Filters.{filter_all, filter_none}
use Rattle.settling_laws.proofs.ArrivalKeeps.{holder_tested}
use Rattle.table_laws.specs.GroupChanges.{base_moves, beyond_base, in_progress_moves}
use Rattle.table_laws.specs.GroupHistories.{first_moves}
use Rattle.table_laws.specs.Names.{Names, name_in}
use Rattle.table_laws.proofs.GroupBase.{base_keeps_law, base_matches}
use Rattle.table_laws.proofs.GroupLawWalk.{law_walks, walk_is_law}
use Rattle.table_laws.proofs.GroupSaid.{runs_started, the_one, the_same}
use Rattle.table_laws.proofs.HistoryNames.{agrees_at_first, names_are_injective}
use Rattle.table_laws.proofs.HistoryStep.{SoFar, after_step}
use Rattle.table_laws.proofs.HolderStatus.{Fits, Status, fits_in_progress, holds_as, is_held, is_waiting, status, told_as, waits_as}
use Rattle.table_laws.proofs.LawSoFar.{LawSoFar}
use Rattle.table_laws.proofs.NamedMoves.{arrived_named}
use Rattle.table_laws.proofs.OwnMoves.{arrived_by_own, own, own_on}
use Rattle.table_laws.proofs.Unbegun.{waiting_unbegun}
use Rattle.table_model.specs.declared.holder.Holder.{Holder}

-- ---- the moves of each holder

each_in_progress : (h k : Holder) (b told : Bool) → same_holder h k ≡ b
    → AllByRecursion (λ m. same_holder h (holder_of m) ≡ b) (in_progress_moves told k)
each_in_progress h k b true e = (e, (e, (e, tt)))
each_in_progress h k b false e = (e, (e, tt))

own_of_in_progress : (h k : Holder) (told b : Bool) → same_holder h k ≡ b
    → own h (in_progress_moves told k) ≡ (if b then in_progress_moves told h else [])
own_of_in_progress h k told true e =
    filter_all (λ m. same_holder h (holder_of m)) (in_progress_moves told k) (each_in_progress h k true told e)
    ∙ ap (in_progress_moves told) (sym (holder_tested h k e))
own_of_in_progress h k told false e = filter_none (λ m. same_holder h (holder_of m)) (in_progress_moves told k) (each_in_progress h k false told e)

own_in_progress : (o : Option Holder) (told : Bool) (h : Holder)
    → own h (option_map_or (in_progress_moves told) o []) ≡ (if is_the o h then in_progress_moves told h else [])
own_in_progress None told h = refl
own_in_progress (Some k) told h = own_of_in_progress h k told (same_holder h k) refl

own_arrival : (h k : Holder) (b : Bool) → same_holder h k ≡ b → own h (Move.arrive k ∷ []) ≡ (if b then Move.arrive h ∷ [] else [])
own_arrival h k true e = filter_all (λ m. same_holder h (holder_of m)) (Move.arrive k ∷ []) (e, tt)
    ∙ ap (λ x. Move.arrive x ∷ []) (sym (holder_tested h k e))
own_arrival h k false e = filter_none (λ m. same_holder h (holder_of m)) (Move.arrive k ∷ []) (e, tt)

own_pending : (o : Option Holder) (h : Holder)
    → own h (map (λ k. Move.arrive k) (option_to_list o)) ≡ (if is_the o h then Move.arrive h ∷ [] else [])
own_pending None h = refl
own_pending (Some k) h = own_arrival h k (same_holder h k) refl

module _ (runs : List RunState) (g : Group) (fit : RunsFit runs) (each : HasOneEach runs) where
  found : (test : Holder → Bool) (h : Holder) → test h ≡ true → IsOneOf runs h → ((k : Holder) → test k ≡ true → k ≡ h)
      → find test (all_holders runs) ≡ Some h
  found test h is there only =
      elim (find test (all_holders runs)) as (λ o. find test (all_holders runs) ≡ o → o ≡ Some h) [
        | None ↦ λ none.
            absurd (true≢false (sym is ∙ each_holder (λ k. test k ≡ false) runs h (none_found test (all_holders runs) none) there))
        | Some k ↦ λ at. ap (λ x. Some x) (only k (find_passes test (all_holders runs) k at))
      ] refl

  runs_in : (h : Holder) → is_in_progress_in runs g h ≡ true → (group_state runs g).in_progress ≡ Some h
  runs_in h is =
      found (is_in_progress_in runs g) h is (one_that_holds runs h (and_parts (is_in runs g h) (holds runs h) is).1)
      (λ k too. each.in_progress g k h too is)

  waits_in : (h : Holder) → is_pending_in runs g h ≡ true → (group_state runs g).pending ≡ Some h
  waits_in h is =
      found (is_pending_in runs g) h is (one_that_waits runs h (and_parts (is_in runs g h) (waits runs h) is).1)
      (λ k too. each.pending g k h too is)

  -- the holders in the state run and wait
  it_runs : (h : Holder) → (group_state runs g).in_progress ≡ Some h → is_in_progress_in runs g h ≡ true
  it_runs h at = find_passes (is_in_progress_in runs g) (all_holders runs) h at

  it_waits : (h : Holder) → (group_state runs g).pending ≡ Some h → is_pending_in runs g h ≡ true
  it_waits h at = find_passes (is_pending_in runs g) (all_holders runs) h at

  not_both_ways : (s : Status) → is_held s ≡ true → is_waiting s ≡ true → ⊥
  not_both_ways Status.unarrived a b = cc
  not_both_ways Status.waiting a b = cc
  not_both_ways (Status.in_progress told) a b = cc
  not_both_ways Status.over a b = cc

  not_the : (o : Option Holder) (h : Holder) → (o ≡ Some h → ⊥) → is_the o h ≡ false
  not_the o h other =
      elim (is_the o h) as (λ b. is_the o h ≡ b → b ≡ false) [
        | true ↦ λ is. absurd (other (the_one o h is))
        | false ↦ λ is. refl
      ] refl

  held_now : (h : Holder) → (group_state runs g).in_progress ≡ Some h → is_held (status runs h) ≡ true
  held_now h at = sym (holds_as runs h) ∙ (and_parts (is_in runs g h) (holds runs h) (it_runs h at)).1

  waiting_now : (h : Holder) → (group_state runs g).pending ≡ Some h → is_waiting (status runs h) ≡ true
  waiting_now h at = sym (waits_as runs h) ∙ (and_parts (is_in runs g h) (waits runs h) (it_waits h at)).1

  differ : (h : Holder) → (group_state runs g).in_progress ≡ Some h → is_the (group_state runs g).pending h ≡ false
  differ h at =
      not_the (group_state runs g).pending h (λ too. not_both_ways (status runs h) (held_now h at) (waiting_now h too))

  -- ---- the base moves

  own_base : (h : Holder)
      → own h (base_moves (group_state runs g))
      ≡ (if is_the (group_state runs g).in_progress h then in_progress_moves (group_state runs g).stopping h else [])
      ++ (if is_the (group_state runs g).pending h then Move.arrive h ∷ [] else [])
  own_base h =
      own_on h (option_map_or (in_progress_moves (group_state runs g).stopping) (group_state runs g).in_progress [])
      (map (λ k. Move.arrive k) (option_to_list (group_state runs g).pending))
      ∙ ap₂ (λ a b. a ++ b) (own_in_progress (group_state runs g).in_progress (group_state runs g).stopping h) (own_pending
      (group_state runs g).pending h)

  own_by : (h : Holder) (a b : Bool) → is_the (group_state runs g).in_progress h ≡ a → is_the (group_state runs g).pending h ≡ b
      → own h (base_moves (group_state runs g))
      ≡ (if a then in_progress_moves (group_state runs g).stopping h else []) ++ (if b then Move.arrive h ∷ [] else [])
  own_by h a b runs_it waits_it =
      own_base h
      ∙ ap₂ (λ x y. (if x then in_progress_moves (group_state runs g).stopping h else []) ++
      (if y then Move.arrive h ∷ [] else [])) runs_it waits_it

  idle : (h : Holder) → (is_held (status runs h) ≡ true → ⊥) → is_the (group_state runs g).in_progress h ≡ false
  idle h other = not_the (group_state runs g).in_progress h (λ at. other (held_now h at))

  unqueued : (h : Holder) → (is_waiting (status runs h) ≡ true → ⊥) → is_the (group_state runs g).pending h ≡ false
  unqueued h other = not_the (group_state runs g).pending h (λ at. other (waiting_now h at))

  fits_by : (h : Holder) (s : Status) → status runs h ≡ s → is_in runs g h ≡ true → Fits s h (own h (base_moves (group_state runs g)))
  fits_by h Status.unarrived at is =
      own_by h false false (idle h (λ e. false≢true (sym (ap is_held at) ∙ e))) (unqueued h (λ e. false≢true (sym (ap is_waiting at) ∙ e)))
  fits_by h Status.waiting at is =
      let waits_it : waits runs h ≡ true = waits_as runs h ∙ ap is_waiting at in
      own_by h false true (idle h (λ e. false≢true (sym (ap is_held at) ∙ e)))
      (the_same (group_state runs g).pending h (waits_in h (and_from (is_in runs g h) (waits runs h) is waits_it)))
  fits_by h (Status.in_progress told) at is =
      let holds_it : holds runs h ≡ true = holds_as runs h ∙ ap is_held at in
      let one = runs_in h (and_from (is_in runs g h) (holds runs h) is holds_it) in
      let flag : (group_state runs g).stopping ≡ told = ap (λ o. option_map_or (is_stop_requested runs) o false) one
      ∙ told_as runs h told at in
      own_by h true false (the_same (group_state runs g).in_progress h one) (unqueued h (λ e. false≢true (sym (ap is_waiting at) ∙ e)))
      ∙ append-nil (in_progress_moves (group_state runs g).stopping h) ∙ ap (λ b. in_progress_moves b h) flag
  fits_by h Status.over at is =
      let none = own_by h false false (idle h (λ e. false≢true (sym (ap is_held at) ∙ e)))
      (unqueued h (λ e. false≢true (sym (ap is_waiting at) ∙ e))) in
      (ap (is_in_progress h) none, ap (is_pending h) none)

  -- a holder that has arrived and not started waits
  waits_by : (h : Holder) (s : Status) → status runs h ≡ s → is_in runs g h ≡ true → has_arrived h (base_moves (group_state runs g)) ≡ true
      → has_started h (base_moves (group_state runs g)) ≡ false → waits runs h ≡ true
  waits_by h Status.unarrived at is arrives unstarted =
      absurd (true≢false (sym arrives ∙ sym (arrived_by_own h (base_moves (group_state runs g)))
      ∙ ap (has_arrived h) (fits_by h Status.unarrived at is)))
  waits_by h Status.waiting at is arrives unstarted = waits_as runs h ∙ ap is_waiting at
  waits_by h (Status.in_progress told) at is arrives unstarted =
      absurd (true≢false (sym (runs_started h (base_moves (group_state runs g))
      (fits_in_progress (Status.in_progress told) h (base_moves (group_state runs g)) (fits_by h (Status.in_progress told) at is))) ∙ unstarted))
  waits_by h Status.over at is arrives unstarted =
      let none = own_by h false false (idle h (λ e. false≢true (sym (ap is_held at) ∙ e)))
      (unqueued h (λ e. false≢true (sym (ap is_waiting at) ∙ e))) in
      absurd (true≢false (sym arrives ∙ sym (arrived_by_own h (base_moves (group_state runs g))) ∙ ap (has_arrived h) none))

  base_law : LawSoFar (is_in runs g) (beyond_base (cancels_in_progress runs) (group_state runs g)) [] runs (base_moves (group_state runs g))
  base_law =
      let cancels = cancels_in_progress runs in
      let state = group_state runs g in
      record {
        each = (λ h is. fits_by h (status runs h) refl is);
        others = (λ h isnt.
            own_by h false false
            (not_the state.in_progress h (λ at. true≢false (sym (and_parts (is_in runs g h) (holds runs h) (it_runs h at)).0 ∙ isnt)))
            (not_the state.pending h (λ at. true≢false (sym (and_parts (is_in runs g h) (waits runs h) (it_waits h at)).0 ∙ isnt))));
        newest = (λ h is e.
            (base_matches cancels state differ).latest h (waits_in h (and_from (is_in runs g h) (waits runs h) is e)));
        unbegun = (λ h is arrives unstarted. waiting_unbegun runs fit h (waits_by h (status runs h) refl is arrives unstarted));
        rest = base_moves state;
        split = refl;
        walk = law_walks (beyond_base cancels state) (base_moves state) (base_keeps_law cancels state differ);
        once = (λ h arrives. refl);
      }

-- ---- by their names

pub base_so_far : (names : Names) (g : Group) (requests : Holder → Bool) (t : TableState) → IsSound t
    → ((n : Holder) → has_arrived n (first_moves names g t) ≡ true → requests n ≡ false) → SoFar names g requests t (first_moves names g t)
base_so_far names g requests t s none_requests =
    let name = name_in names t in
    let state = group_state t.runs g in
    after_step names g t s (beyond_base (cancels_in_progress t.runs) state) requests [] [] (base_moves state) (agrees_at_first name)
    (λ n some. absurd (some refl)) (walk_is_law requests [] tt)
    (λ k arrives new requested.
    absurd (true≢false (sym requested
    ∙ none_requests (name k) (arrived_named name (names_are_injective names t s) k (base_moves state) ∙ arrives))))
    (base_law t.runs g (kept_from_sound t s).fit s.one_of_each_group)
