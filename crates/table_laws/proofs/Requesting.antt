-- Whether a holder asks for cancellation is determined in the step in which it arrives.
use Rattle.std.specs.Prelude.{◌≡◌, List, [], ◌∷◌, ◌||◌, filter_map, find, map, Bool, true, false, Some, None, option_map, if◌then◌else◌, refl}
use Rattle.std.specs.Option.{unwrap_or}
use Rattle.std.proofs.Common.{ap, sym, ◌∙◌}
use Rattle.std.proofs.lemmas.Bool.{or_parts}
use Rattle.group_name.specs.Group.{Group}
use Rattle.table_model.specs.Groups.{cancels_in_progress}
use Rattle.table_model.specs.GroupLaw.{arrival_of, has_arrived, same_holder, Move}
use Rattle.settling_laws.proofs.ArrivalKeeps.{holder_tested}
use Rattle.table_model.specs.Sound.{IsSound}
use Rattle.table_model.specs.TableState.{Step}
use Rattle.table_laws.specs.GroupHistories.{requests_in, moves_in, step_moves}
use Rattle.table_laws.specs.Names.{Names, name_in, renamed}
use Rattle.table_laws.proofs.HistoryNames.{names_are_injective}
use Rattle.table_laws.proofs.NamedMoves.{arrived_named}
use Rattle.table_model.specs.declared.holder.Holder.{Holder}

module _ (name : Holder → Holder) (n : Holder) where
  nobody_comes : (moves : List Move) → has_arrived n (map (renamed name) moves) ≡ false
      → find (λ h. same_holder n (name h)) (filter_map arrival_of moves) ≡ None
  nobody_comes [] e = refl
  nobody_comes (Move.arrive h ∷ moves) e =
      let parts = or_parts (same_holder n (name h)) (has_arrived n (map (renamed name) moves)) e in
      ap (λ b. if b then Some h else find (λ k. same_holder n (name k)) (filter_map arrival_of moves)) parts.0 ∙ nobody_comes moves parts.1
  nobody_comes (Move.start h ∷ moves) e = nobody_comes moves e
  nobody_comes (Move.stop h ∷ moves) e = nobody_comes moves e
  nobody_comes (Move.end_with r h ∷ moves) e = nobody_comes moves e

  pub somebody_comes : (moves : List Move) → has_arrived n (map (renamed name) moves) ≡ true
      → (h : Holder) × (find (λ k. same_holder n (name k)) (filter_map arrival_of moves) ≡ Some h) × (n ≡ name h)
  somebody_comes [] e = cc
  somebody_comes (Move.arrive h ∷ moves) e =
      elim (same_holder n (name h)) as
      (λ b. same_holder n (name h) ≡ b → (b || has_arrived n (map (renamed name) moves)) ≡ true → (k : Holder)
      × ((if b then Some h else find (λ x. same_holder n (name x)) (filter_map arrival_of moves)) ≡ Some k) × (n ≡ name k)) [
        | true ↦ λ same f. (h, refl, holder_tested n (name h) same)
        | false ↦ λ apart f. somebody_comes moves f
      ] refl e
  somebody_comes (Move.start h ∷ moves) e = somebody_comes moves e
  somebody_comes (Move.stop h ∷ moves) e = somebody_comes moves e
  somebody_comes (Move.end_with r h ∷ moves) e = somebody_comes moves e

module _ (names : Names) (g : Group) (s : Step) where
  -- a holder that arrives in the step
  pub requests_now : IsSound s.table → (k : Holder) (later : Bool) → has_arrived k (moves_in s.table.runs g s.moves) ≡ true
      → unwrap_or (requests_in names g s (name_in names s.table k)) later ≡ cancels_in_progress s.table.runs k
  requests_now sound k later arrives =
      let name = name_in names s.table in
      let one = names_are_injective names s.table sound in
      let moves = moves_in s.table.runs g s.moves in
      let from = somebody_comes name (name k) moves (arrived_named name one k moves ∙ arrives) in
      ap (λ o. unwrap_or (option_map (cancels_in_progress s.table.runs) o) later) from.1
      ∙ ap (cancels_in_progress s.table.runs) (sym (one k from.0 from.2))

  -- a holder that does not
  pub requests_later : (n : Holder) (later : Bool) → has_arrived n (step_moves names g s) ≡ false → unwrap_or (requests_in names g s n) later ≡ later
  requests_later n later none =
      ap (λ o. unwrap_or (option_map (cancels_in_progress s.table.runs) o) later)
      (nobody_comes (name_in names s.table) n (moves_in s.table.runs g s.moves) none)
