-- The moves of a group so far satisfy its law and match the status of each of its holders; which changes preserve this.
use Rattle.std.specs.Prelude.{◌≡◌, List, [], ◌∷◌, ◌++◌, ◌&&◌, ◌||◌, filter_map, not, Bool, true, false, Some, None}
use Rattle.std.specs.Prelude.{if◌then◌else◌, refl}
use Rattle.std.specs.List.{last_or}
use Rattle.std.proofs.Common.{ap, sym, ◌∙◌, subst, append_assoc}
use Rattle.std.proofs.lemmas.List.{append-nil}
use Rattle.std.proofs.lemmas.Bool.{and_from, or_parts}
use Rattle.wf_value.specs.declared.outcome.Outcome.{Outcome}
use Rattle.group_name.specs.Group.{Group}
use Rattle.table_model.specs.GroupLaw.{arrival_of, has_arrived, has_ended, has_started, is_in_progress, latest}
use Rattle.table_model.specs.Groups.{holds, is_in, may_start, waits}
use Rattle.table_model.specs.GroupLaw.{Move, Transition, and_then, without_moves}
use Rattle.table_model.specs.Runs.{RunState}
use Rattle.table_model.specs.Stops.{stop_holder}
use Rattle.settling_laws.proofs.HoldersFade.{holder_stop_fades}
use Rattle.settling_laws.proofs.OneEach.{IsOneOf, free_to_start, one_that_holds, one_that_waits}
use Rattle.table_laws.proofs.ChangesTold.{stop_tells}
use Rattle.table_laws.proofs.GroupLawWalk.{Lawful, still_lawful}
use Rattle.table_laws.proofs.GroupSaid.{arrived_on, latest_on, runs_started, started_on}
use Rattle.table_laws.proofs.GroupTruths.{not_both, or_false}
use Rattle.table_laws.proofs.HolderStatus.{Fits, Goes, Status, fits_in_progress, fits_unended, holds_as, status, waiting_is, waits_as}
use Rattle.table_laws.proofs.ListWalk.{Walk, walk_on}
use Rattle.table_laws.proofs.OnlyStops.{OnlyStops, holder_stops}
use Rattle.table_laws.proofs.OwnMoves.{of_group, of_group_on, own, own_of_another, own_of_group, own_on, runs_by_own}
use Rattle.table_laws.proofs.StopsTold.{Tells}
use Rattle.table_laws.proofs.Unbegun.{AllStill, Still, Unbegun, still_of_all, stop_all_still}
use Rattle.table_model.specs.declared.holder.Holder.{Holder}

-- ---- so far

-- if no move is an arrival, no holder has arrived
pub nobody_arrives : (h : Holder) (moves : List Move) → filter_map arrival_of moves ≡ [] → has_arrived h moves ≡ false
nobody_arrives h [] e = refl
nobody_arrives h (Move.arrive k ∷ moves) e = cc
nobody_arrives h (Move.start k ∷ moves) e = nobody_arrives h moves e
nobody_arrives h (Move.stop k ∷ moves) e = nobody_arrives h moves e
nobody_arrives h (Move.end_with r k ∷ moves) e = nobody_arrives h moves e

module _ (in_group cancels : Holder → Bool) where
  -- The moves of the present attempts. Each move after the prefix `start` is lawful, and no holder that has arrived in `start` arrives
  -- after it. The moves of earlier attempts are not included, so the moves here need not satisfy the law on their own.
  pub record LawSoFar (start : List Move) (runs : List RunState) (moves : List Move) : Type 0 where
    pub each : (h : Holder) → in_group h ≡ true → Fits (status runs h) h (own h moves)
    pub others : (h : Holder) → in_group h ≡ false → own h moves ≡ []
    pub newest : (h : Holder) → in_group h ≡ true → waits runs h ≡ true → latest moves ≡ Some h
    pub unbegun : (h : Holder) → in_group h ≡ true → has_arrived h moves ≡ true → has_started h moves ≡ false → Unbegun runs h
    pub rest : List Move
    pub split : moves ≡ start ++ rest
    pub walk : Walk (Lawful cancels) start rest
    pub once : (h : Holder) → has_arrived h rest ≡ true → has_arrived h start ≡ false

  -- a change that preserves this
  abbrev pub GoesOn : List RunState → Transition → Type 0
  GoesOn runs m = (start moves : List Move) → LawSoFar start runs moves → LawSoFar start m.runs (moves ++ of_group in_group m.moves)

  -- the moves of a change match how the status of each holder of the group changes
  abbrev pub TellsOfGroup : List RunState → Transition → Type 0
  TellsOfGroup runs m = (h : Holder) → in_group h ≡ true → Goes h (status runs h) (own h m.moves) (status m.runs h)

  -- a change without an arrival in the group
  pub record IsQuiet (runs : List RunState) (m : Transition) : Type 0 where
    pub tells : TellsOfGroup runs m
    pub silent : filter_map arrival_of (of_group in_group m.moves) ≡ []
    pub waited : (h : Holder) → in_group h ≡ true → waits m.runs h ≡ true → waits runs h ≡ true
    pub still : Still runs m.runs
    pub lawful : (start moves : List Move) → LawSoFar start runs moves → Walk (Lawful cancels) moves (of_group in_group m.moves)

  -- the moves of each holder match its status after the change
  pub each_on : (runs : List RunState) (m : Transition) (moves : List Move) → TellsOfGroup runs m
      → ((h : Holder) → in_group h ≡ true → Fits (status runs h) h (own h moves)) → (h : Holder) → in_group h ≡ true
      → Fits (status m.runs h) h (own h (moves ++ of_group in_group m.moves))
  each_on runs m moves tells each h is =
      let parts = own_on h moves (of_group in_group m.moves) ∙ ap (λ ms. own h moves ++ ms) (own_of_group in_group h m.moves is) in
      subst (Fits (status m.runs h) h) (sym parts) (tells h is (own h moves) (each h is))

  pub others_on : (m : Transition) (moves : List Move) → ((h : Holder) → in_group h ≡ false → own h moves ≡ []) → (h : Holder)
      → in_group h ≡ false
      → own h (moves ++ of_group in_group m.moves) ≡ []
  others_on m moves others h isnt =
      own_on h moves (of_group in_group m.moves)
      ∙ ap (λ ms. own h moves ++ ms) (own_of_another in_group h m.moves isnt) ∙ append-nil (own h moves) ∙ others h isnt

  -- a holder that has not arrived has made no move
  pub unseen_is_unmoved : (runs : List RunState) (moves : List Move)
      → ((h : Holder) → in_group h ≡ true → Fits (status runs h) h (own h moves)) → ((h : Holder) → in_group h ≡ false → own h moves ≡ [])
      → (h : Holder) → status runs h ≡ Status.unarrived → own h moves ≡ []
  unseen_is_unmoved runs moves each others h unseen =
      elim (in_group h) as (λ b. in_group h ≡ b → own h moves ≡ []) [
        | true ↦ λ is. subst (λ (s : Status). Fits s h (own h moves)) unseen (each h is)
        | false ↦ λ isnt. others h isnt
      ] refl

  -- a holder that has not started holds no group
  pub holds_nothing : (runs : List RunState) (moves : List Move)
      → ((h : Holder) → in_group h ≡ true → Fits (status runs h) h (own h moves)) → (h : Holder) → in_group h ≡ true
      → has_started h moves ≡ false → holds runs h ≡ false
  holds_nothing runs moves each h is unstarted =
      holds_as runs h ∙ sym (fits_in_progress (status runs h) h moves (each h is)) ∙ ap (λ b. b && not (has_ended h moves)) unstarted

  pub started_before : (h : Holder) (moves more : List Move) → has_started h (moves ++ more) ≡ false → has_started h moves ≡ false
  started_before h moves more unstarted =
      (or_parts (has_started h moves) (has_started h more) (sym (started_on h moves more) ∙ unstarted)).0

  pub split_on : (start rest moves more : List Move) → moves ≡ start ++ rest → moves ++ more ≡ start ++ (rest ++ more)
  split_on start rest moves more is = ap (λ ms. ms ++ more) is ∙ append_assoc start rest more

  pub walk_further : (start rest moves more : List Move) → moves ≡ start ++ rest → Walk (Lawful cancels) start rest
      → Walk (Lawful cancels) moves more → Walk (Lawful cancels) start (rest ++ more)
  walk_further start rest moves more is first second =
      walk_on (Lawful cancels) (still_lawful cancels) start rest more first (subst (λ ms. Walk (Lawful cancels) ms more) is second)

  -- a holder that has arrived, but not by the last moves, had arrived before them
  pub arrived_earlier : (h : Holder) (moves more : List Move) → filter_map arrival_of more ≡ [] → has_arrived h (moves ++ more) ≡ true
      → has_arrived h moves ≡ true
  arrived_earlier h moves more silent arrives =
      sym (or_false (has_arrived h moves)) ∙ ap (λ b. has_arrived h moves || b) (sym (nobody_arrives h more silent))
      ∙ sym (arrived_on h moves more) ∙ arrives

  pub quiet_goes_on : (runs : List RunState) (m : Transition) → IsQuiet runs m → GoesOn runs m
  quiet_goes_on runs m quiet start moves so_far = record {
    each = each_on runs m moves quiet.tells so_far.each;
    others = others_on m moves so_far.others;
    newest = (λ h is waits_now.
        latest_on moves (of_group in_group m.moves) ∙ ap (last_or (latest moves)) quiet.silent
        ∙ so_far.newest h is (quiet.waited h is waits_now));
    unbegun = (λ h is arrives unstarted.
        let more = of_group in_group m.moves in
        let before = started_before h moves more unstarted in
        quiet.still h (holds_nothing runs moves so_far.each h is before)
        (holds_nothing m.runs (moves ++ more) (each_on runs m moves quiet.tells so_far.each) h is unstarted)
        (so_far.unbegun h is (arrived_earlier h moves more quiet.silent arrives) before));
    rest = so_far.rest ++ of_group in_group m.moves;
    split = split_on start so_far.rest moves (of_group in_group m.moves) so_far.split;
    walk = walk_further start so_far.rest moves (of_group in_group m.moves) so_far.split so_far.walk (quiet.lawful start moves so_far);
    once = (λ h arrives. so_far.once h (arrived_earlier h so_far.rest (of_group in_group m.moves) quiet.silent arrives));
  }

  -- ---- one change after another

  pub goes_on_then : (runs : List RunState) (m : Transition) (change : List RunState → Transition) → GoesOn runs m → GoesOn m.runs (change m.runs)
      → GoesOn runs (and_then m change)
  goes_on_then runs m change first second start moves so_far =
      subst (LawSoFar start (change m.runs).runs)
      (append_assoc moves (of_group in_group m.moves) (of_group in_group (change m.runs).moves)
      ∙ ap (λ ms. moves ++ ms) (sym (of_group_on in_group m.moves (change m.runs).moves)))
      (second start (moves ++ of_group in_group m.moves) (first start moves so_far))

  pub goes_on_still : (runs : List RunState) → GoesOn runs (without_moves runs)
  goes_on_still runs start moves so_far = subst (LawSoFar start runs) (sym (append-nil moves)) so_far

  -- ---- changes without moves, and stops

  pub unmoved_is_quiet : (runs next : List RunState) → Tells runs (without_moves next)
      → ((h : Holder) → waits next h ≡ true → waits runs h ≡ true) → Still runs next → IsQuiet runs (without_moves next)
  unmoved_is_quiet runs next tells waited still = record {
    tells = (λ h is. tells h);
    still = still;
    silent = refl;
    waited = (λ h is e. waited h e);
    lawful = (λ start moves so_far. tt);
  }

  pub stops_are_quiet : (runs : List RunState) (m : Transition) → Tells runs m → OnlyStops m.moves
      → ((h : Holder) → waits m.runs h ≡ true → waits runs h ≡ true) → AllStill runs m.runs → IsQuiet runs m
  stops_are_quiet runs m tells stops waited still = record {
    tells = (λ h is. tells h);
    still = still_of_all runs m.runs still;
    silent = stops.silent in_group;
    waited = (λ h is e. waited h e);
    lawful = (λ start moves so_far. stops.lawful cancels in_group moves);
  }

  pub stop_is_quiet : (h : Holder) (runs : List RunState) → IsQuiet runs (stop_holder h runs)
  stop_is_quiet h runs =
      stops_are_quiet runs (stop_holder h runs) (stop_tells h runs) (holder_stops h runs) (holder_stop_fades h runs).waited
      (stop_all_still h runs)

  -- ---- the holder in progress ends

  nobody_comes : (k : Holder) (m : Move) → arrival_of m ≡ None → filter_map arrival_of (if in_group k then m ∷ [] else []) ≡ []
  nobody_comes k m none =
      elim (in_group k) as (λ b. filter_map arrival_of (if b then m ∷ [] else []) ≡ []) [
        | true ↦ no_one m none
        | false ↦ refl
      ]
    where
      no_one : (m : Move) → arrival_of m ≡ None → filter_map arrival_of (m ∷ []) ≡ []
      no_one (Move.arrive h) e = cc
      no_one (Move.start h) e = refl
      no_one (Move.stop h) e = refl
      no_one (Move.end_with r h) e = refl

  -- a holder that holds its group has started
  has_begun : (runs : List RunState) (k : Holder) (start moves : List Move) → LawSoFar start runs moves → in_group k ≡ true → holds runs k ≡ true
      → has_started k moves ≡ true
  has_begun runs k start moves so_far is held =
      runs_started k moves (fits_in_progress (status runs k) k moves (so_far.each k is) ∙ sym (holds_as runs k) ∙ held)

  pub end_is_quiet : (runs next : List RunState) (r : Outcome) (k : Holder)
      → Tells runs (record { runs = next; moves = Move.end_with r k ∷ [] })
      → ((h : Holder) → waits next h ≡ true → waits runs h ≡ true) → Still runs next → holds runs k ≡ true
      → IsQuiet runs (record { runs = next; moves = Move.end_with r k ∷ [] })
  end_is_quiet runs next r k tells waited still held = record {
    tells = (λ h is. tells h);
    still = still;
    silent = nobody_comes k (Move.end_with r k) refl;
    waited = (λ h is e. waited h e);
    lawful = (λ start moves so_far.
        elim (in_group k) as (λ b. in_group k ≡ b → Walk (Lawful cancels) moves (if b then Move.end_with r k ∷ [] else [])) [
          | true ↦ λ is.
              (λ unstarted unstopped. absurd (not_both (has_started k moves) (has_begun runs k start moves so_far is held) unstarted), tt)
          | false ↦ λ is. tt
        ] refl);
  }

  -- ---- the pending holder starts

  module _ (g : Group) (runs : List RunState) (same : (h : Holder) → IsOneOf runs h → in_group h ≡ is_in runs g h) where
    none_in_progress : (k : Holder) (start moves : List Move) → LawSoFar start runs moves → in_group k ≡ true → waits runs k ≡ true → may_start runs k ≡ true
        → (other : Holder) → is_in_progress other moves ≡ false
    none_in_progress k start moves so_far is waiting may other =
        elim (in_group other) as (λ b. in_group other ≡ b → is_in_progress other moves ≡ false) [
          | false ↦ λ isnt. sym (runs_by_own other moves) ∙ ap (is_in_progress other) (so_far.others other isnt)
          | true ↦ λ too. fits_in_progress (status runs other) other moves (so_far.each other too) ∙ sym (holds_as runs other)
              ∙ elim (holds runs other) as (λ b. holds runs other ≡ b → b ≡ false) [
                | false ↦ λ idle. refl
                | true ↦ λ held.
                    let there = one_that_holds runs other held in
                    let of_k = sym (same k (one_that_waits runs k waiting)) ∙ is in
                    let of_other = sym (same other there) ∙ too in
                    absurd (free_to_start runs g k other may of_k (and_from (is_in runs g other) (holds runs other) of_other held))
              ] refl
        ] refl

    starts : (k : Holder) (start moves : List Move) → LawSoFar start runs moves → in_group k ≡ true → waits runs k ≡ true → may_start runs k ≡ true
        → Lawful cancels moves (Move.start k) []
    starts k start moves so_far is waiting may = (
      none_in_progress k start moves so_far is waiting may,
      so_far.newest k is waiting,
      fits_unended k moves
          (subst (λ (s : Status). Fits s k (own k moves)) (waiting_is (status runs k) (sym (waits_as runs k)
          ∙ waiting)) (so_far.each k is)),
    )

    pub start_is_quiet : (next : List RunState) (k : Holder) → Tells runs (record { runs = next; moves = Move.start k ∷ [] })
        → ((h : Holder) → waits next h ≡ true → waits runs h ≡ true) → Still runs next → waits runs k ≡ true → may_start runs k ≡ true
        → IsQuiet runs (record { runs = next; moves = Move.start k ∷ [] })
    start_is_quiet next k tells waited still waiting may = record {
      tells = (λ h is. tells h);
      still = still;
      silent = nobody_comes k (Move.start k) refl;
      waited = (λ h is e. waited h e);
      lawful = (λ start moves so_far.
          elim (in_group k) as (λ b. in_group k ≡ b → Walk (Lawful cancels) moves (if b then Move.start k ∷ [] else [])) [
            | true ↦ λ is. (starts k start moves so_far is waiting may, tt)
            | false ↦ λ is. tt
          ] refl);
    }
