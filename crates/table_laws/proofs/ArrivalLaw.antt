-- After an arrival the moves of each group satisfy its law again, and match the status of each of its holders.
use Rattle.std.specs.Prelude.{◌≡◌, ◌⊎◌, List, [], ◌∷◌, ◌++◌, ◌&&◌, ◌||◌, filter_map, not, Bool, true, false, Option, Some, None}
use Rattle.std.specs.Prelude.{option_to_list, if◌then◌else◌, refl}
use Rattle.std.specs.List.{last_or}
use Rattle.std.specs.Option.{option_map_or}
use Rattle.std.proofs.Common.{ap, ap₂, append_assoc, inl, inr, sym, ◌∙◌, subst}
use Rattle.std.proofs.lemmas.Bool.{and_from, and_parts, or_parts, true≢false}
use Rattle.std.proofs.lemmas.List.{append-nil}
use Rattle.std.proofs.lemmas.List.Elements.{filter_map-append}
use Rattle.wf_value.specs.declared.outcome.Outcome.TheVariants.{Cancelled}
use Rattle.group_name.specs.Group.{Group, same_group}
use Rattle.table_model.specs.Settling.{arrived, displaced, others_pending, room_made, stopped_where_requested}
use Rattle.table_model.specs.Groups.{cancels_in_progress, group_at}
use Rattle.table_model.specs.GroupLaw.{arrival_of, has_arrived, has_started, is_pending, is_in_progress, latest, next_displaced}
use Rattle.table_model.specs.GroupLaw.{same_holder, was_stopped, Move, Transition, at_each, without_moves, BeginsWith, cancelled_end}
use Rattle.table_model.specs.Groups.{HasOneBeside, holds, is_in, is_pending_in, is_in_progress_in, in_progress_in, waits}
use Rattle.table_model.specs.Runs.{RunState}
use Rattle.table_model.specs.Stops.{stop_holder}
use Rattle.table_model.proofs.RunFits.{RunsFit}
use Rattle.settling_laws.proofs.ArrivalKeeps.{requested_fades, displaced_one_each, itself, nobody_else, one_or_another}
use Rattle.settling_laws.proofs.OneEach.{Comes, IsOneOf, group_is, one_that_holds, one_that_waits}
use Rattle.table_laws.proofs.ArrivalTold.{stop_begins, tells_then}
use Rattle.table_laws.proofs.ChangesTold.{only_one}
use Rattle.table_laws.proofs.GroupFollows.{displaced_waits, next_shown}
use Rattle.table_laws.proofs.GroupLawWalk.{Lawful}
use Rattle.table_laws.proofs.GroupSaid.{arrived_on, latest_on}
use Rattle.table_laws.proofs.GroupTruths.{or_false}
use Rattle.table_laws.proofs.HolderStatus.{Fits, Goes, Status, fits_pending, fits_in_progress, fits_stopped, held_is, holds_as, is_held}
use Rattle.table_laws.proofs.HolderStatus.{in_progress_by, status, waiting_is, waits_as}
use Rattle.table_laws.proofs.HoldersOnce.{one_holder_kept, some_kept}
use Rattle.table_laws.proofs.LawSoFar.{IsQuiet, LawSoFar, goes_on_then, nobody_arrives, others_on, quiet_goes_on, split_on, walk_further}
use Rattle.table_laws.proofs.LawSoFar.{started_before, stops_are_quiet}
use Rattle.table_laws.proofs.ListWalk.{Walk}
use Rattle.table_laws.proofs.OwnMoves.{arrived_by_own, of_group, of_group_on, own, own_of_group, own_on, runs_by_own, waits_by_own}
use Rattle.table_laws.proofs.RoomMade.{Displaces, requested_all_still, requested_stops, requested_tells, begins_in_group, displaced_all_still, displaced_fades, displaced_so, end_is_silent, end_of_another, end_of_group, who_is_displaced}
use Rattle.table_laws.proofs.StopsTold.{Tells}
use Rattle.table_laws.proofs.Unbegun.{AllStill, Unbegun, still_of_all, waiting_unbegun}
use Rattle.table_model.specs.declared.holder.Holder.{Holder}

-- ---- the newcomer has arrived and waits; then room is made for it

module _ (in_group cancels : Holder → Bool) (g : Group) (before now : List RunState) (n : Holder) (fit : RunsFit now)
    (set : (h : Holder) → (h ≡ n → ⊥) → Goes h (status before h) (own h (Move.arrive n ∷ [])) (status now h))
    (comes : Comes before now n) (waiting : waits now n ≡ true) (besides : HasOneBeside now n)
    (same : (h : Holder) → IsOneOf now h → in_group h ≡ is_in now g h) (still : AllStill before now) where
  -- ---- the newcomer is in another group

  module _ (isnt : in_group n ≡ false) where
    coming_is_quiet : IsQuiet in_group cancels before (record { runs = now; moves = Move.arrive n ∷ [] })
    coming_is_quiet =
        let none : of_group in_group (Move.arrive n ∷ []) ≡ [] = ap (λ b. if b then Move.arrive n ∷ [] else []) isnt in
        record {
          tells = (λ h is. set h (λ e. true≢false (sym is ∙ ap in_group e ∙ isnt)));
          still = still_of_all before now still;
          silent = ap (filter_map arrival_of) none;
          waited = (λ h is e.
              elim (comes.waited h e) [
                | inl it ↦ absurd (true≢false (sym is ∙ ap in_group it ∙ isnt))
                | inr waited ↦ waited
              ]);
          lawful = (λ start moves so_far. subst (λ (ms : List Move). Walk (Lawful cancels) moves ms) (sym none) tt);
        }

    module _ (k : Group) (its : group_at now n ≡ Some k) (o : Option Holder) (displaces : Displaces now k n o) where
      not_of_group : (d : Holder) → o ≡ Some d → in_group d ≡ false
      not_of_group d e =
          let pends = (displaces.each d e).pends in
          let parts = and_parts (is_in now k d) (waits now d) pends in
          same d (one_that_waits now d parts.1)
          ∙ ap (λ x. option_map_or (same_group g) x false) (group_is now k d parts.0 ∙ sym its)
          ∙ sym (same n (one_that_waits now n waiting)) ∙ isnt

      displacing_is_quiet : IsQuiet in_group cancels now (displaced k n now)
      displacing_is_quiet =
          let so = displaced_so now (others_pending k n now) o displaces.are
          (λ d e. waiting_is (status now d) (sym (waits_as now d)
          ∙ (and_parts (is_in now k d) (waits now d) (displaces.each d e).pends).1)) in
          let none : of_group in_group (displaced k n now).moves ≡ [] = ap (of_group in_group) so.1
          ∙ end_of_another in_group o not_of_group in
          record {
            tells = (λ h is. so.0 h);
            still = still_of_all now (displaced k n now).runs (displaced_all_still k n now);
            silent = ap (filter_map arrival_of) none;
            waited = (λ h is e. (displaced_fades k n now).waited h e);
            lawful = (λ start moves so_far. subst (λ (ms : List Move). Walk (Lawful cancels) moves ms) (sym none) tt);
          }

      elsewhere_goes_on : (c : Bool) (start moves : List Move) → LawSoFar in_group cancels start before moves
          → LawSoFar in_group cancels start (room_made c n now k).runs (moves ++ of_group in_group (Move.arrive n ∷ (room_made c n now k).moves))
      elsewhere_goes_on c =
          let mid = (displaced k n now).runs in
          goes_on_then in_group cancels before (record { runs = now; moves = Move.arrive n ∷ [] }) (λ _. room_made c n now k)
          (quiet_goes_on in_group cancels before (record { runs = now; moves = Move.arrive n ∷ [] }) coming_is_quiet)
          (goes_on_then in_group cancels now (displaced k n now) (stopped_where_requested c k)
          (quiet_goes_on in_group cancels now (displaced k n now) displacing_is_quiet)
          (quiet_goes_on in_group cancels mid (stopped_where_requested c k mid)
          (stops_are_quiet in_group cancels mid (stopped_where_requested c k mid) (requested_tells c k mid) (requested_stops c k mid)
          (requested_fades c k mid).waited (requested_all_still c k mid))))

  -- ---- the newcomer is in this group

  module _ (is : in_group n ≡ true) (its : group_at now n ≡ Some g) (requests : cancels n ≡ true → cancels_in_progress now n ≡ true)
      (same_then : (h : Holder) → IsOneOf (displaced g n now).runs h → in_group h ≡ is_in (displaced g n now).runs g h)
      (start moves : List Move) (so_far : LawSoFar in_group cancels start before moves) (fresh : in_group n ≡ true → own n moves ≡ [])
      (o : Option Holder) (displaces : Displaces now g n o) where
    mid : List RunState
    mid = (displaced g n now).runs

    pends_now : (d : Holder) → o ≡ Some d → waits now d ≡ true
    pends_now d e = (and_parts (is_in now g d) (waits now d) (displaces.each d e).pends).1

    of_it : (d : Holder) → o ≡ Some d → in_group d ≡ true
    of_it d e =
        let parts = and_parts (is_in now g d) (waits now d) (displaces.each d e).pends in
        same d (one_that_waits now d parts.1) ∙ parts.0

    so : Tells now (displaced g n now) × ((displaced g n now).moves ≡ cancelled_end o)
    so = displaced_so now (others_pending g n now) o displaces.are
        (λ d e. waiting_is (status now d) (sym (waits_as now d) ∙ pends_now d e))

    -- the newcomer has made no move
    unmoved : own n moves ≡ []
    unmoved = fresh is

    not_the_newcomer : (h : Holder) → (is_in_progress h moves ≡ true) ⊎ (is_pending h moves ≡ true) → h ≡ n → ⊥
    not_the_newcomer h (inl runs) e =
        true≢false (sym runs ∙ ap (λ k. is_in_progress k moves) e ∙ sym (runs_by_own n moves) ∙ ap (is_in_progress n) unmoved)
    not_the_newcomer h (inr pends) e =
        true≢false (sym pends ∙ ap (λ k. is_pending k moves) e ∙ sym (waits_by_own n moves) ∙ ap (is_pending n) unmoved)

    waits_then : (h : Holder) → (h ≡ n → ⊥) → in_group h ≡ true → is_pending h moves ≡ true → waits now h ≡ true
    waits_then h other too pends =
        let none : own h (Move.arrive n ∷ []) ≡ [] = only_one n (Move.arrive n) refl h other in
        let fits : Fits (status now h) h (own h moves) =
        subst (Fits (status now h) h) (ap (λ ms. own h moves ++ ms) none
        ∙ append-nil (own h moves)) (set h other (own h moves) (so_far.each h too)) in
        waits_as now h ∙ sym (fits_pending (status now h) h moves fits) ∙ pends

    apart : (h : Holder) → (h ≡ n → ⊥) → same_holder h n ≡ false
    apart h other =
        elim (one_or_another h n) [
          | inl it ↦ absurd (other it)
          | inr not_it ↦ not_it.1
        ]

    in_it : (h : Holder) → is_pending h moves ≡ true → in_group h ≡ true
    in_it h pends =
        elim (in_group h) as (λ b. in_group h ≡ b → b ≡ true) [
          | true ↦ λ too. refl
          | false ↦ λ isnt.
              absurd (true≢false (sym pends ∙ sym (waits_by_own h moves) ∙ ap (is_pending h) (so_far.others h isnt)))
        ] refl

    -- so the holder that it displaces is the one that would start next
    next_is : next_displaced moves ≡ o
    next_is = by_one o refl
      where
        none_next : (x : Option Holder) → ((h : Holder) → x ≡ Some h → ⊥) → x ≡ None
        none_next None never = refl
        none_next (Some h) never = absurd (never h refl)

        nobody : o ≡ None → (h : Holder) → next_displaced moves ≡ Some h → ⊥
        nobody none h e =
            let pends = displaced_waits moves h e in
            let too = in_it h pends in
            let waits_now = waits_then h (not_the_newcomer h (inr pends)) too pends in
            let other : same_holder h n ≡ false = apart h (not_the_newcomer h (inr pends)) in
            let there = one_that_waits now h waits_now in
            let pends_in = and_from (is_in now g h) (waits now h) (sym (same h there) ∙ too) waits_now in
            some_kept now (λ k. is_pending_in now g k && not (same_holder k n)) h there
            (and_from (is_pending_in now g h) (not (same_holder h n)) pends_in (ap not other)) (displaces.are ∙ ap option_to_list none)

        by_one : (x : Option Holder) → o ≡ x → next_displaced moves ≡ x
        by_one None none = none_next (next_displaced moves) (nobody none)
        by_one (Some d) one =
            elim (comes.waited d (pends_now d one)) [
              | inl it ↦ absurd ((displaces.each d one).other it)
              | inr waited ↦
                  let too = of_it d one in
                  next_shown moves d (so_far.newest d too waited)
                  (fits_pending (status before d) d moves (so_far.each d too) ∙ sym (waits_as before d) ∙ waited)
            ]

    -- ---- a holder in progress that is not asked to stop is still so once the pending holder is displaced

    module _ (h : Holder) (runs : is_in_progress h moves ≡ true) (untold : was_stopped h moves ≡ false) where
      of_h : in_group h ≡ true
      of_h =
          elim (in_group h) as (λ b. in_group h ≡ b → b ≡ true) [
            | true ↦ λ too. refl
            | false ↦ λ isnt. absurd (true≢false (sym runs ∙ sym (runs_by_own h moves) ∙ ap (is_in_progress h) (so_far.others h isnt)))
          ] refl

      not_displaced : (d : Holder) → o ≡ Some d → h ≡ d → ⊥
      not_displaced d one e =
          elim (comes.waited d (pends_now d one)) [
            | inl it ↦ (displaces.each d one).other it
            | inr waited ↦
                true≢false (sym runs ∙ ap (λ k. is_in_progress k moves) e ∙ fits_in_progress (status before d) d moves (so_far.each d (of_it d one))
                ∙ ap is_held (waiting_is (status before d) (sym (waits_as before d) ∙ waited)))
          ]

      none_of_displaced : (x : Option Holder) → o ≡ x → own h (cancelled_end x) ≡ []
      none_of_displaced None one = refl
      none_of_displaced (Some d) one = only_one d (Move.end_with Cancelled d) refl h (not_displaced d one)

      fits_then : Fits (status (displaced g n now).runs h) h (own h moves)
      fits_then =
          let none : own h (Move.arrive n ∷ []) ≡ [] = only_one n (Move.arrive n) refl h (not_the_newcomer h (inl runs)) in
          let first : Fits (status now h) h (own h moves) =
          subst (Fits (status now h) h) (ap (λ ms. own h moves ++ ms) none
          ∙ append-nil (own h moves)) (set h (not_the_newcomer h (inl runs)) (own h moves) (so_far.each h of_h)) in
          subst (Fits (status (displaced g n now).runs h) h)
          (ap (λ ms. own h moves ++ ms) (ap (own h) so.1 ∙ none_of_displaced o refl)
          ∙ append-nil (own h moves)) (so.0 h (own h moves) first)

      held_then : is_held (status (displaced g n now).runs h) ≡ true
      held_then = sym (in_progress_by (status (displaced g n now).runs h) h (own h moves) fits_then) ∙ runs_by_own h moves ∙ runs

      still_untold : status (displaced g n now).runs h ≡ Status.in_progress false
      still_untold =
          let at = held_is (status (displaced g n now).runs h) held_then in
          let told : at.0 ≡ false =
          sym (fits_stopped at.0 h moves (subst (λ (s : Status). Fits s h (own h moves)) at.1 fits_then)) ∙ untold in
          at.1 ∙ ap (λ b. Status.in_progress b) told

      only_it : in_progress_in (displaced g n now).runs g ≡ h ∷ []
      only_it =
          let held : holds (displaced g n now).runs h ≡ true = holds_as (displaced g n now).runs h ∙ held_then in
          let there = one_that_holds (displaced g n now).runs h held in
          let passes =
          and_from (is_in (displaced g n now).runs g h) (holds (displaced g n now).runs h) (sym (same_then h there) ∙ of_h) held in
          one_holder_kept (displaced g n now).runs (is_in_progress_in (displaced g n now).runs g) h there passes
          (λ k too. (displaced_one_each now fit n g waiting its besides).in_progress g k h too passes)

      stopped_first : (c : Bool) → c ≡ true
          → BeginsWith (Move.stop h ∷ []) (of_group in_group (stopped_where_requested c g (displaced g n now).runs).moves)
      stopped_first false isnt = cc
      stopped_first true it =
          let begins = stop_begins h (displaced g n now).runs still_untold in
          begins_in_group in_group h (stopped_where_requested true g (displaced g n now).runs).moves of_h (
            begins.0,
            ap (λ hs. (at_each stop_holder hs (displaced g n now).runs).moves) only_it
                ∙ append-nil (stop_holder h (displaced g n now).runs).moves ∙ begins.1,
          )

    -- ---- the law

    module _ (c : Bool) (requested : cancels n ≡ true → c ≡ true) where
      rest : List Move
      rest = of_group in_group (stopped_where_requested c g (displaced g n now).runs).moves

      tail_walks : (x : Option Holder) → o ≡ x
          → Walk (Lawful cancels) (moves ++ Move.arrive n ∷ []) (cancelled_end x ++ of_group in_group (stopped_where_requested c g
          (displaced g n now).runs).moves)
      tail_walks None one = (requested_stops c g (displaced g n now).runs).lawful cancels in_group (moves ++ Move.arrive n ∷ [])
      tail_walks (Some p) one = (
        λ unstarted unstopped. (refl, (moves, n, refl, next_is ∙ one)),
        (requested_stops c g (displaced g n now).runs).lawful cancels in_group
            ((moves ++ Move.arrive n ∷ []) ++ Move.end_with Cancelled p ∷ []),
      )

      walks : Walk (Lawful cancels) moves
          (Move.arrive n ∷ (cancelled_end o ++ of_group in_group (stopped_where_requested c g (displaced g n now).runs).moves))
      walks =
          let stops = of_group in_group (stopped_where_requested c g (displaced g n now).runs).moves in (
            (
              λ h e. (stops, ap (λ x. cancelled_end x ++ stops) (sym next_is ∙ e)),
              λ h requests_now runs untold.
                  let first = stopped_first h runs untold c (requested requests_now) in (
                    first.0,
                    ap₂ (λ x ms. cancelled_end x ++ ms) (sym next_is) first.1
                        ∙ sym (append_assoc (cancelled_end (next_displaced moves)) (Move.stop h ∷ []) first.0),
                  ),
            ),
            tail_walks o refl,
          )

      more_is : of_group in_group (Move.arrive n ∷ (room_made c n now g).moves)
          ≡ Move.arrive n ∷ (cancelled_end o ++ of_group in_group (stopped_where_requested c g (displaced g n now).runs).moves)
      more_is =
          let stops = (stopped_where_requested c g (displaced g n now).runs).moves in
          let all = of_group in_group ((displaced g n now).moves ++ stops) in
          ap (λ b. if b then Move.arrive n ∷ all else all) is
          ∙ ap (λ ms. Move.arrive n ∷ ms)
          (of_group_on in_group (displaced g n now).moves stops
          ∙ ap (λ ms. ms ++ of_group in_group stops) (ap (of_group in_group) so.1 ∙ end_of_group in_group o of_it))

      is_latest : latest (moves ++ of_group in_group (Move.arrive n ∷ (room_made c n now g).moves)) ≡ Some n
      is_latest =
          let stops = of_group in_group (stopped_where_requested c g (displaced g n now).runs).moves in
          ap (λ ms. latest (moves ++ ms)) more_is ∙ latest_on moves (Move.arrive n ∷ (cancelled_end o ++ stops))
          ∙ ap (λ hs. last_or (latest moves) (n ∷ hs))
          (filter_map-append arrival_of (cancelled_end o) stops
          ∙ ap₂ (λ a b. a ++ b) (end_is_silent o) ((requested_stops c g (displaced g n now).runs).silent in_group))

      nobody_waits_but_it : (h : Holder) → in_group h ≡ true → waits (room_made c n now g).runs h ≡ true → h ≡ n
      nobody_waits_but_it h too e =
          let waits_then_too = (requested_fades c g (displaced g n now).runs).waited h e in
          let there = one_that_waits (displaced g n now).runs h waits_then_too in
          nobody_else now fit n g h
          (and_from (is_in (displaced g n now).runs g h) (waits (displaced g n now).runs h) (sym (same_then h there) ∙ too) waits_then_too)

      rest_is_silent : filter_map arrival_of (cancelled_end o ++ of_group in_group (stopped_where_requested c g
          (displaced g n now).runs).moves) ≡ []
      rest_is_silent =
          filter_map-append arrival_of (cancelled_end o) (of_group in_group (stopped_where_requested c g (displaced g n now).runs).moves)
          ∙ ap₂ (λ a b. a ++ b) (end_is_silent o) ((requested_stops c g (displaced g n now).runs).silent in_group)

      -- every other holder had arrived before
      had_arrived : (h : Holder) (earlier : List Move) → (h ≡ n → ⊥)
          → has_arrived h (earlier ++ of_group in_group (Move.arrive n ∷ (room_made c n now g).moves)) ≡ true → has_arrived h earlier ≡ true
      had_arrived h earlier other arrives =
          let rest = cancelled_end o ++ of_group in_group (stopped_where_requested c g (displaced g n now).runs).moves in
          let none : has_arrived h (Move.arrive n ∷ rest) ≡ false =
          ap (λ b. b || has_arrived h rest) (apart h other) ∙ nobody_arrives h rest rest_is_silent in
          sym (or_false (has_arrived h earlier)) ∙ ap (λ b. has_arrived h earlier || b) (sym none)
          ∙ sym (arrived_on h earlier (Move.arrive n ∷ rest))
          ∙ ap (λ ms. has_arrived h (earlier ++ ms)) (sym more_is) ∙ arrives

      -- the newcomer had not
      newcomer_is_new : has_arrived n start ≡ false
      newcomer_is_new =
          let none : has_arrived n moves ≡ false = sym (arrived_by_own n moves) ∙ ap (has_arrived n) unmoved in
          (or_parts (has_arrived n start) (has_arrived n so_far.rest)
          (sym (arrived_on n start so_far.rest) ∙ ap (has_arrived n) (sym so_far.split) ∙ none)).0

      arrives_once : (h : Holder) → has_arrived h (so_far.rest ++ of_group in_group (Move.arrive n ∷ (room_made c n now g).moves)) ≡ true
          → has_arrived h start ≡ false
      arrives_once h arrives =
          elim (one_or_another h n) [
            | inl it ↦ ap (λ k. has_arrived k start) it ∙ newcomer_is_new
            | inr not_it ↦ so_far.once h (had_arrived h so_far.rest not_it.0 arrives)
          ]

      all_still : AllStill now (room_made c n now g).runs
      all_still h un = requested_all_still c g (displaced g n now).runs h (displaced_all_still g n now h un)

      unbegun_then : (h : Holder) → in_group h ≡ true
          → has_arrived h (moves ++ of_group in_group (Move.arrive n ∷ (room_made c n now g).moves)) ≡ true
          → has_started h (moves ++ of_group in_group (Move.arrive n ∷ (room_made c n now g).moves)) ≡ false
          → Unbegun (room_made c n now g).runs h
      unbegun_then h too arrives unstarted =
          let more = of_group in_group (Move.arrive n ∷ (room_made c n now g).moves) in
          elim (one_or_another h n) [
            | inl it ↦
                subst (λ (k : Holder). Unbegun (room_made c n now g).runs k) (sym it) (all_still n (waiting_unbegun now fit n waiting))
            | inr not_it ↦
                all_still h (still h (so_far.unbegun h too (had_arrived h moves not_it.0 arrives)
                (started_before in_group cancels h moves more unstarted)))
          ]

      -- the status of each holder after the arrival, and then after room is made
      came : (h : Holder) → in_group h ≡ true → Fits (status now h) h (own h moves ++ own h (Move.arrive n ∷ []))
      came h too =
          elim (one_or_another h n) [
            | inl it ↦
                subst (λ (k : Holder). Fits (status now k) k (own k moves ++ own k (Move.arrive n ∷ []))) (sym it)
                (subst (λ (s : Status). Fits s n (own n moves ++ own n (Move.arrive n ∷ [])))
                (sym (waiting_is (status now n) (sym (waits_as now n) ∙ waiting)))
                (ap₂ (λ a b. a ++ b) unmoved (ap (λ b. if b then Move.arrive n ∷ [] else []) (itself n))))
            | inr other ↦ set h other.0 (own h moves) (so_far.each h too)
          ]

      each_then : (h : Holder) → in_group h ≡ true
          → Fits (status (room_made c n now g).runs h) h (own h (moves ++ of_group in_group (Move.arrive n ∷ (room_made c n now g).moves)))
      each_then h too =
          let room = (room_made c n now g).moves in
          let later : Tells now (room_made c n now g) =
          tells_then now (displaced g n now) (stopped_where_requested c g) so.0 (requested_tells c g (displaced g n now).runs) in
          let parts : own h (moves ++ of_group in_group (Move.arrive n ∷ room)) ≡ (own h moves ++ own h (Move.arrive n ∷ [])) ++ own h room =
          own_on h moves (of_group in_group (Move.arrive n ∷ room))
          ∙ ap (λ ms. own h moves ++ ms) (own_of_group in_group h (Move.arrive n ∷ room) too ∙ own_on h (Move.arrive n ∷ []) room)
          ∙ sym (append_assoc (own h moves) (own h (Move.arrive n ∷ [])) (own h room)) in
          subst (Fits (status (room_made c n now g).runs h) h) (sym parts)
          (later h (own h moves ++ own h (Move.arrive n ∷ [])) (came h too))

      here_goes_on : LawSoFar in_group cancels start (room_made c n now g).runs
          (moves ++ of_group in_group (Move.arrive n ∷ (room_made c n now g).moves))
      here_goes_on =
          let made : Transition = record { runs = (room_made c n now g).runs; moves = Move.arrive n ∷ (room_made c n now g).moves } in
          record {
            each = each_then;
            others = others_on in_group cancels made moves so_far.others;
            newest = (λ h too e. is_latest ∙ ap (λ k. Some k) (sym (nobody_waits_but_it h too e)));
            unbegun = unbegun_then;
            rest = so_far.rest ++ of_group in_group (Move.arrive n ∷ (room_made c n now g).moves);
            split = split_on in_group cancels start so_far.rest moves (of_group in_group (Move.arrive n ∷ (room_made c n now g).moves))
                so_far.split;
            walk = walk_further in_group cancels start so_far.rest moves
                (of_group in_group (Move.arrive n ∷ (room_made c n now g).moves)) so_far.split so_far.walk
                (subst (λ (ms : List Move). Walk (Lawful cancels) moves ms) (sym more_is) walks);
            once = arrives_once;
          }

  -- ---- in any group

  module _ (requested : cancels n ≡ true → cancels_in_progress now n ≡ true)
      (same_then : group_at now n ≡ Some g → (h : Holder) → IsOneOf (displaced g n now).runs h
      → in_group h ≡ is_in (displaced g n now).runs g h)
      (start moves : List Move) (so_far : LawSoFar in_group cancels start before moves) (fresh : in_group n ≡ true → own n moves ≡ []) where
    abbrev SoAfter : Transition → Type 0
    SoAfter made = LawSoFar in_group cancels start made.runs (moves ++ of_group in_group (Move.arrive n ∷ made.moves))

    its_group : (k : Group) → group_at now n ≡ Some k → in_group n ≡ true → g ≡ k
    its_group k its is =
        one_group (sym (group_is now g n (sym (same n (one_that_waits now n waiting)) ∙ is)) ∙ its)
      where
        one_group : Some g ≡ Some k → g ≡ k
        one_group e = cc

    in_its_group : (k : Group) → group_at now n ≡ Some k → SoAfter (room_made (cancels_in_progress now n) n now k)
    in_its_group k its =
        elim (in_group n) as (λ b. in_group n ≡ b → SoAfter (room_made (cancels_in_progress now n) n now k)) [
          | true ↦ λ is.
              let this = its_group k its is in
              let own_group : group_at now n ≡ Some g = its ∙ ap (λ x. Some x) (sym this) in
              let who = who_is_displaced now g n besides in
              subst (λ (x : Group). SoAfter (room_made (cancels_in_progress now n) n now x)) this
              (here_goes_on is own_group requested (same_then own_group) start moves so_far fresh who.0 who.1 (cancels_in_progress now n) requested)
          | false ↦ λ isnt.
              let who = who_is_displaced now k n besides in
              elsewhere_goes_on isnt k its who.0 who.1 (cancels_in_progress now n) start moves so_far
        ] refl

    pub arrival_goes_on : LawSoFar in_group cancels start (arrived n now).runs (moves ++ of_group in_group (arrived n now).moves)
    arrival_goes_on =
        elim (group_at now n) as
        (λ x. group_at now n ≡ x → SoAfter (option_map_or (room_made (cancels_in_progress now n) n now) x (without_moves now))) [
          | None ↦ λ none.
              let isnt : in_group n ≡ false =
              same n (one_that_waits now n waiting) ∙ ap (λ x. option_map_or (same_group g) x false) none in
              quiet_goes_on in_group cancels before (record { runs = now; moves = Move.arrive n ∷ [] }) (coming_is_quiet isnt) start moves so_far
          | Some k ↦ λ its. in_its_group k its
        ] refl
