-- The step in which a run begins again preserves the law of every group. The moves of its attempt before are dropped, and it arrives as a
-- holder with another name.
use Rattle.std.specs.Prelude.{◌≡◌, ℕ, ◌+◌, ◌≤◌, List, [], ◌++◌, ◌&&◌, Bool, true, false, Some, None}
use Rattle.std.specs.Prelude.{refl}
use Rattle.std.specs.Option.{option_map_or}
use Rattle.std.proofs.Common.{arith, ap, ap₂, inl, inr, sym, ◌∙◌, subst, append_assoc}
use Rattle.std.proofs.lemmas.Bool.{and_from, and_parts, false≢true, true≢false}
use Rattle.std.proofs.lemmas.List.{append-nil}
use Rattle.group_name.specs.Group.{Group, same_group}
use Rattle.run_plan.specs.declared.command.Attempt.{Attempt}
use Rattle.table_model.specs.Groups.{cancels_in_progress, is_in, waits}
use Rattle.table_model.specs.GroupLaw.{has_arrived, has_started, latest}
use Rattle.table_model.specs.Holders.{run_of}
use Rattle.table_model.specs.GroupLaw.{Move, Transition}
use Rattle.table_model.specs.Runs.{again, with_run, RunState}
use Rattle.table_model.specs.Settling.{remaining_phases, settled, settling}
use Rattle.table_model.proofs.RunFits.{RunsFit}
use Rattle.settling_laws.proofs.OneEach.{IsOneOf, one_that_waits}
use Rattle.table_model.specs.Sound.{IsSound}
use Rattle.table_model.specs.Step.{entered_again, rerunning}
use Rattle.table_model.specs.TableState.{TableState, index_of}
use Rattle.run_table.proofs.BeginsAgain.{BeginsAgain}
use Rattle.run_table.proofs.EnteredAgain.{again_fits, again_waits, beside_again, entered_again_one_each, group_beside}
use Rattle.run_table.proofs.Kept.{kept_from_sound}
use Rattle.table_laws.specs.GroupHistories.{moves_in, step_moves}
use Rattle.table_laws.specs.Names.{Names, attempt_of, by_id, name_in}
use Rattle.table_laws.proofs.Agrees.{Agrees}
use Rattle.table_laws.proofs.AttemptNames.{again_grows, again_rises, attempt_before, attempt_elsewhere, attempt_then, entered_fits, entry_grows}
use Rattle.table_laws.proofs.Forgotten.{forgets, latest_kept}
use Rattle.table_laws.proofs.GroupsKept.{grows_not, is_in_kept}
use Rattle.table_laws.proofs.HistoryNames.{later_is_new, still_named}
use Rattle.table_laws.proofs.HistoryStep.{AreRequested, SoFar, after_step, arrived_in_it}
use Rattle.table_laws.proofs.HolderIds.{same_by_id}
use Rattle.table_laws.proofs.HolderStatus.{Fits, Status, is_waiting, status, waits_as}
use Rattle.table_laws.proofs.LawSoFar.{LawSoFar, unseen_is_unmoved}
use Rattle.table_laws.proofs.OwnMoves.{arrived_by_own, of_group, of_group_on, own, own_of_another, own_of_group, started_by_own}
use Rattle.table_laws.proofs.Parked.{again_comes, again_still, arrives_alone, here_or_elsewhere, idle_before, is_another, is_elsewhere, is_here}
use Rattle.table_laws.proofs.Parked.{one_elsewhere, parked_is_over, parked_run, status_elsewhere, unbegun_elsewhere}
use Rattle.table_laws.proofs.PendingSoFar.{idle_so_far, pending_is_newest, settled_by_now}
use Rattle.table_laws.proofs.RulesLaw.{arrival_keeps, settled_keeps}
use Rattle.table_laws.proofs.SameGroups.{there_or_not}
use Rattle.table_laws.proofs.Unbegun.{Unbegun}
use Rattle.table_model.specs.declared.holder.Holder.{Holder}
use Rattle.table_model.specs.declared.holder.Holder.TheVariants.{Run}

module _ (names : Names) (g : Group) (requests : Holder → Bool) (t : TableState) (requested : Attempt) (s : IsSound t)
    (begins : BeginsAgain t.runs (index_of t requested.run) requested.attempt) (whole : List Move) (so_far : SoFar names g requests t whole)
    (sound_then : IsSound (rerunning t requested).table) where
  abbrev r : ℕ
  r = index_of t requested.run

  abbrev x : RunState
  x = begins.was

  abbrev parked : List RunState
  parked = with_run r parked_run t.runs

  abbrev now : List RunState
  now = with_run r again t.runs

  abbrev entered : Transition
  entered = entered_again t r

  abbrev reached : List RunState
  reached = settled entered.runs

  abbrev next : TableState
  next = (rerunning t requested).table

  fit : RunsFit t.runs
  fit = (kept_from_sound t s).fit

  -- ---- the moves so far that remain

  abbrev start : List Move
  start = of_group (is_elsewhere r) so_far.now

  own_here : (h : Holder) → is_elsewhere r h ≡ false → own h start ≡ []
  own_here h gone = own_of_another (is_elsewhere r) h so_far.now gone

  own_elsewhere : (h : Holder) → is_elsewhere r h ≡ true → own h start ≡ own h so_far.now
  own_elsewhere h kept = own_of_group (is_elsewhere r) h so_far.now kept

  same_group_then : (h : Holder) → IsOneOf t.runs h → (run_of h ≡ r → ⊥) → is_in reached g h ≡ is_in t.runs g h
  same_group_then h there other =
      is_in_kept now reached (again_fits t.runs r fit) (again_grows t r x begins.there fit) g h (one_elsewhere t.runs r again h other there)
      ∙ ap (λ o. option_map_or (same_group g) o false) (group_beside t.runs r h other)

  -- ---- while the run is parked, they match the status of each holder

  nothing_fits : (h : Holder) → run_of h ≡ r → Fits (status parked h) h []
  nothing_fits h same =
      elim (parked_is_over t.runs r x begins.there fit begins.ended h same) [
        | inl over ↦ subst (λ (st : Status). Fits st h []) (sym over) (refl, refl)
        | inr unseen ↦ subst (λ (st : Status). Fits st h []) (sym unseen) refl
      ]

  fits_before : (h : Holder) → (run_of h ≡ r → ⊥) → is_in reached g h ≡ true → Fits (status t.runs h) h (own h so_far.now)
  fits_before h other is =
      elim (there_or_not t.runs h) [
        | inl there ↦ so_far.each h (sym (same_group_then h there other) ∙ is)
        | inr unseen ↦
            subst (λ (st : Status). Fits st h (own h so_far.now)) (sym unseen)
            (unseen_is_unmoved (is_in t.runs g) requests t.runs so_far.now so_far.each so_far.others h unseen)
      ]

  none_before : (h : Holder) → (run_of h ≡ r → ⊥) → is_in reached g h ≡ false → own h so_far.now ≡ []
  none_before h other isnt =
      elim (there_or_not t.runs h) [
        | inl there ↦ so_far.others h (sym (same_group_then h there other) ∙ isnt)
        | inr unseen ↦ unseen_is_unmoved (is_in t.runs g) requests t.runs so_far.now so_far.each so_far.others h unseen
      ]

  each_parked : (h : Holder) → is_in reached g h ≡ true → Fits (status parked h) h (own h start)
  each_parked h is =
      elim (here_or_elsewhere r h) [
        | inl here ↦ subst (Fits (status parked h) h) (sym (own_here h here.1)) (nothing_fits h here.0)
        | inr there ↦
            subst (λ (st : Status). Fits st h (own h start)) (sym (status_elsewhere t.runs r parked_run h there.0))
            (subst (Fits (status t.runs h) h) (sym (own_elsewhere h there.1)) (fits_before h there.0 is))
      ]

  others_parked : (h : Holder) → is_in reached g h ≡ false → own h start ≡ []
  others_parked h isnt =
      elim (here_or_elsewhere r h) [
        | inl here ↦ own_here h here.1
        | inr there ↦ own_elsewhere h there.1 ∙ none_before h there.0 isnt
      ]

  waits_elsewhere : (h : Holder) → waits parked h ≡ true → (run_of h ≡ r → ⊥) × (is_elsewhere r h ≡ true) × (waits t.runs h ≡ true)
  waits_elsewhere h e =
      elim (here_or_elsewhere r h) [
        | inl here ↦ absurd (false≢true (sym (idle h here.0) ∙ sym (waits_as parked h) ∙ e))
        | inr there ↦ (
          there.0,
          there.1,
          waits_as t.runs h ∙ ap is_waiting (sym (status_elsewhere t.runs r parked_run h there.0)) ∙ sym (waits_as parked h) ∙ e,
        )
      ]
    where
      idle : (h : Holder) → run_of h ≡ r → is_waiting (status parked h) ≡ false
      idle h same =
          elim (parked_is_over t.runs r x begins.there fit begins.ended h same) [
            | inl over ↦ ap is_waiting over
            | inr unseen ↦ ap is_waiting unseen
          ]

  newest_parked : (h : Holder) → is_in reached g h ≡ true → waits parked h ≡ true → latest start ≡ Some h
  newest_parked h is e =
      let waited = waits_elsewhere h e in
      latest_kept (is_elsewhere r) so_far.now None None h waited.1 (λ same. same)
      (so_far.newest h (sym (same_group_then h (one_that_waits t.runs h waited.2) waited.0) ∙ is) waited.2)

  unbegun_parked : (h : Holder) → is_in reached g h ≡ true → has_arrived h start ≡ true → has_started h start ≡ false → Unbegun parked h
  unbegun_parked h is arrives unstarted =
      elim (here_or_elsewhere r h) [
        | inl here ↦
            absurd (true≢false (sym arrives ∙ sym (arrived_by_own h start) ∙ ap (has_arrived h) (own_here h here.1)))
        | inr there ↦
            let came : has_arrived h so_far.now ≡ true =
            sym (arrived_by_own h so_far.now) ∙ ap (has_arrived h) (sym (own_elsewhere h there.1)) ∙ arrived_by_own h start ∙ arrives in
            let not_yet : has_started h so_far.now ≡ false =
            sym (started_by_own h so_far.now) ∙ ap (has_started h) (sym (own_elsewhere h there.1)) ∙ started_by_own h start ∙ unstarted in
            unbegun_elsewhere t.runs r parked_run h there.0
            (so_far.unbegun h (arrived_in_it names g requests t whole so_far h came) came not_yet)
      ]

  parked_so_far : (cancels : Holder → Bool) → LawSoFar (is_in reached g) cancels start parked start
  parked_so_far cancels = record {
    each = each_parked;
    others = others_parked;
    newest = newest_parked;
    unbegun = unbegun_parked;
    rest = [];
    split = sym (append-nil start);
    walk = tt;
    once = (λ h e. absurd (false≢true e));
  }

  -- ---- the names

  same_ids : (h : Holder) → by_id next h ≡ by_id t h
  same_ids = same_by_id t next s sound_then refl

  agrees_then : Agrees (name_in names next) start whole
  agrees_then =
      forgets (name_in names t) (name_in names next) (is_elsewhere r) so_far.now whole
      (λ h kept. ap₂ names.name (attempt_elsewhere t r x begins.there fit h (is_another r h kept)) (same_ids h))
      (λ h gone.
      ap (λ m. own (names.name (attempt_of reached h) m) whole) (same_ids h)
      ∙ later_is_new names t whole so_far.named (attempt_of reached h) h (too_late h (is_here r h gone)))
      (λ h gone.
      idle_so_far names g requests t whole so_far h (idle_before t.runs r x begins.there fit begins.ended h (is_here r h gone)))
      (pending_is_newest names g requests t whole so_far) (settled_by_now names g requests t whole so_far (is_elsewhere r)) so_far.agrees
    where
      too_late : (h : Holder) → run_of h ≡ r → attempt_of reached h ≤ attempt_of t.runs h → ⊥
      too_late h same le =
          let before : attempt_of t.runs h ≡ x.attempt = attempt_before t r x begins.there fit h same in
          let next : attempt_of reached h ≡ x.attempt + 1 = attempt_then t r x begins.there fit h same in
          omega (arith, before, next, le)

  -- ---- the arrival, and settling

  pub again_goes_on : AreRequested names g requests (rerunning t requested) whole
      → SoFar names g requests next (whole ++ step_moves names g (rerunning t requested))
  again_goes_on are_requested =
      let n = Run r in
      let of_it = is_in reached g in
      let cancels : Holder → Bool = λ h. requests (name_in names next h) && cancels_in_progress reached h in
      let requests_now = λ (h : Holder) (e : cancels h ≡ true). (and_parts (requests (name_in names next h)) (cancels_in_progress reached h) e).1 in
      let first = arrival_keeps reached g cancels requests_now parked now n (again_fits t.runs r fit)
      (arrives_alone t.runs r x begins.there fit begins.ended) (again_comes t.runs r x begins.there fit begins.ended)
      (again_waits t.runs r x begins.there) (beside_again t.runs r s.one_of_each_group)
      (again_still t.runs r x begins.there fit begins.ended (again_fits t.runs r fit)) (entry_grows t r x begins.there fit) start start
      (parked_so_far cancels) (λ is. own_here n (here_itself n refl)) in
      let rest = settled_keeps reached g cancels requests_now (remaining_phases entered.runs) entered.runs (entered_fits t r x begins.there fit)
      (entered_again_one_each t r requested.attempt fit begins s.one_of_each_group) (grows_not reached) start (start ++ of_group of_it entered.moves)
      first in
      after_step names g next sound_then cancels requests start whole (moves_in reached g (rerunning t requested).moves) agrees_then
      (still_named names t next whole same_ids (again_rises t r x begins.there fit) so_far.named) so_far.law
      (λ k arrives new requests_it.
      and_from (requests (name_in names next k)) (cancels_in_progress reached k) requests_it (are_requested k arrives new requests_it))
      (subst (LawSoFar of_it cancels start reached)
      (append_assoc start (of_group of_it entered.moves) (of_group of_it (settling entered.runs).moves)
      ∙ ap (λ ms. start ++ ms) (sym (of_group_on of_it entered.moves (settling entered.runs).moves))) rest)
    where
      here_itself : (n : Holder) → run_of n ≡ r → is_elsewhere r n ≡ false
      here_itself n same = elim (here_or_elsewhere r n) [ inl here ↦ here.1 | inr there ↦ absurd (there.0 same) ]
