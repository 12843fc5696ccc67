-- An arrival preserves the law of its group, and the moves determine the state after it.
use Rattle.std.specs.List.{last_or, list_any}
use Rattle.std.specs.Prelude.{filter_map, map, option_and_then, option_to_list, cond}
use Rattle.std.proofs.Common.{◌≡◌, List, [], ◌∷◌, ◌++◌, Bool, true, false, ◌&&◌, ◌||◌, not, Option, Some, None}
use Rattle.std.proofs.Common.{refl, ap, ap₂, sym, subst, ◌∙◌}
use Rattle.std.proofs.lemmas.Bool.{false_from_ne_true, not-true, or_parts}
use Rattle.std.proofs.lemmas.List.{append-nil}
use Rattle.std.proofs.lemmas.Option.{same_Some}
use Rattle.wf_value.specs.declared.outcome.Outcome.TheVariants.{Cancelled}
use Rattle.table_model.specs.Groups.{GroupState}
use Rattle.table_model.specs.GroupLaw.{arrival_of, end_of, start_of, stop_of, has_arrived, has_ended, has_started, was_stopped, Move}
use Rattle.table_model.specs.GroupLaw.{holder_of, is_pending, is_in_progress, is_the, latest, next_displaced, same_holder}
use Rattle.settling_laws.proofs.ArrivalKeeps.{holder_tested, itself}
use Rattle.table_laws.specs.GroupChanges.{Change, Matches, changed, is_new, moves_of, stopped_at_arrival}
use Rattle.table_model.specs.GroupLaw.{BeginsWith, cancelled_end}
use Rattle.table_laws.proofs.GroupLawWalk.{Lawful}
use Rattle.table_laws.proofs.GroupSaid.{latest_on, pending_on, in_progress_on, stopped_on, the_one, the_same}
use Rattle.table_laws.proofs.GroupTruths.{not_both, or_false, pending_after_arrival, in_progress_after_arrival}
use Rattle.table_laws.proofs.ListWalk.{Walk}
use Rattle.table_laws.proofs.OwnMoves.{arrival_is_own, end_is_own, start_is_own, stop_is_own}
use Rattle.table_model.specs.declared.holder.Holder.{Holder}

-- ---- the holder that the next arrival displaces

next_by : (moves : List Move) (last one : Option Holder) → ((h : Holder) → is_pending h moves ≡ is_the one h)
    → ((h : Holder) → one ≡ Some h → last ≡ Some h)
    → option_and_then (λ h. cond (is_pending h moves) (Some h) None) last ≡ one
next_by moves last (Some p) pending late =
    ap (λ l. option_and_then (λ h. cond (is_pending h moves) (Some h) None) l) (late p refl)
    ∙ ap (λ b. cond b (Some p) None) (pending p ∙ itself p)
next_by moves None None pending late = refl
next_by moves (Some h) None pending late = ap (λ b. cond b (Some h) None) (pending h)

pub next_is_pending : (g : GroupState) (moves : List Move) → Matches g moves → next_displaced moves ≡ g.pending
next_is_pending g moves is = next_by moves (latest moves) g.pending is.pending is.latest

-- ---- the moves of an arrival, with the displaced holder and the stopped one

abbrev arrival_moves : Holder → Option Holder → Option Holder → List Move
arrival_moves k displaced stopped = Move.arrive k ∷ cancelled_end displaced ++ map (λ s. Move.stop s) (option_to_list stopped)

arrived_here : (h k : Holder) (d s : Option Holder) → has_arrived h (arrival_moves k d s) ≡ same_holder h k
arrived_here h k None None = or_false (same_holder h k)
arrived_here h k None (Some r) = or_false (same_holder h k)
arrived_here h k (Some p) None = or_false (same_holder h k)
arrived_here h k (Some p) (Some r) = or_false (same_holder h k)

started_here : (h k : Holder) (d s : Option Holder) → has_started h (arrival_moves k d s) ≡ false
started_here h k None None = refl
started_here h k None (Some r) = refl
started_here h k (Some p) None = refl
started_here h k (Some p) (Some r) = refl

ended_here : (h k : Holder) (d s : Option Holder) → has_ended h (arrival_moves k d s) ≡ is_the d h
ended_here h k None None = refl
ended_here h k None (Some r) = refl
ended_here h k (Some p) None = or_false (same_holder h p)
ended_here h k (Some p) (Some r) = or_false (same_holder h p)

stopped_here : (h k : Holder) (d s : Option Holder) → was_stopped h (arrival_moves k d s) ≡ is_the s h
stopped_here h k None None = refl
stopped_here h k None (Some r) = or_false (same_holder h r)
stopped_here h k (Some p) None = refl
stopped_here h k (Some p) (Some r) = or_false (same_holder h r)

latest_here : (k : Holder) (d s : Option Holder) → filter_map arrival_of (arrival_moves k d s) ≡ k ∷ []
latest_here k None None = refl
latest_here k None (Some r) = refl
latest_here k (Some p) None = refl
latest_here k (Some p) (Some r) = refl

-- ---- the law

begins_with_end : (d : Option Holder) (more : List Move) (h : Holder) → d ≡ Some h
    → BeginsWith (Move.end_with Cancelled h ∷ []) (cancelled_end d ++ more)
begins_with_end d more h is = (more, ap (λ x. cancelled_end x ++ more) is)

rest_walks : (cancels : Holder → Bool) (moves : List Move) (k : Holder) (d s : Option Holder) → next_displaced moves ≡ d
    → Walk (Lawful cancels) (moves ++ Move.arrive k ∷ []) (cancelled_end d ++ map (λ s. Move.stop s) (option_to_list s))
rest_walks cancels moves k None None next = tt
rest_walks cancels moves k None (Some r) next = (tt, tt)
rest_walks cancels moves k (Some p) None next = (λ _ _. (refl, (moves, k, refl, next)), tt)
rest_walks cancels moves k (Some p) (Some r) next = (λ _ _. (refl, (moves, k, refl, next)), (tt, tt))

walks_by : (cancels : Holder → Bool) (moves : List Move) (k : Holder) (d s : Option Holder) → next_displaced moves ≡ d
    → ((h : Holder) → cancels k ≡ true → is_in_progress h moves ≡ true → was_stopped h moves ≡ false → s ≡ Some h)
    → Walk (Lawful cancels) moves (arrival_moves k d s)
walks_by cancels moves k d s next stops =
    let stop_list : Option Holder → List Move = λ o. map (λ s. Move.stop s) (option_to_list o) in (
      (
        λ h is. begins_with_end d (stop_list s) h (sym next ∙ is),
        λ h requests runs unstopped. (
          [],
          ap₂ (λ x y. cancelled_end x ++ stop_list y) (sym next) (stops h requests runs unstopped)
              ∙ sym (append-nil (cancelled_end (next_displaced moves) ++ Move.stop h ∷ [])),
        ),
      ),
      rest_walks cancels moves k d s next,
    )

pub arrival_walks : (cancels : Holder → Bool) (g : GroupState) (moves : List Move) (k : Holder) → Matches g moves
    → Walk (Lawful cancels) moves (moves_of cancels g (Change.arrival k))
arrival_walks cancels g moves k is =
    walks_by cancels moves k g.pending (stopped_at_arrival (cancels k) g) (next_is_pending g moves is)
    (λ h requests runs unstopped.
    let in_progress : g.in_progress ≡ Some h = the_one g.in_progress h (sym (is.in_progress h) ∙ runs) in
    let unrequested : g.stopping ≡ false = sym (is.stopping h in_progress) ∙ unstopped in
    ap₂ (λ c b. cond (c && not b) g.in_progress None) requests unrequested ∙ in_progress)

-- ---- a newcomer

any_weaker : {X : Type 0} (p q : X → Bool) → ((x : X) → p x ≡ true → q x ≡ true) → (xs : List X) → list_any q xs ≡ false
    → list_any p xs ≡ false
any_weaker p q so [] none = refl
any_weaker p q so (x ∷ xs) none =
    let parts = or_parts (q x) (list_any q xs) none in
    ap₂ (λ a b. a || b) (false_from_ne_true (p x) (λ is. not_both (q x) (so x is) parts.0)) (any_weaker p q so xs parts.1)

-- if something is false for the newcomer, it is false for each holder that equals the newcomer
apart_by : (f : Holder → Bool) (h k : Holder) (b : Bool) → same_holder h k ≡ b → f k ≡ false → (b && f h) ≡ false
apart_by f h k true same isnt = subst (λ x. f x ≡ false) (sym (holder_tested h k same)) isnt
apart_by f h k false same isnt = refl

record NothingOf (k : Holder) (moves : List Move) : Type 0 where
  arrived : has_arrived k moves ≡ false
  started : has_started k moves ≡ false
  stopped : was_stopped k moves ≡ false
  ended : has_ended k moves ≡ false

nothing_of : (k : Holder) (moves : List Move) → is_new k moves ≡ true → NothingOf k moves
nothing_of k moves new =
    let none = not-true (list_any (λ m. same_holder k (holder_of m)) moves) new in
    record {
      arrived = any_weaker (λ m. is_the (arrival_of m) k) (λ m. same_holder k (holder_of m)) (arrival_is_own k) moves none;
      started = any_weaker (λ m. is_the (start_of m) k) (λ m. same_holder k (holder_of m)) (start_is_own k) moves none;
      stopped = any_weaker (λ m. is_the (stop_of m) k) (λ m. same_holder k (holder_of m)) (stop_is_own k) moves none;
      ended = any_weaker (λ m. is_the (end_of m) k) (λ m. same_holder k (holder_of m)) (end_is_own k) moves none;
    }

-- ---- the state

flag_by : (c b : Bool) (o : Option Holder) (h : Holder) → o ≡ Some h → (b || is_the (cond (c && not b) o None) h) ≡ (b || c)
flag_by true true o h is = refl
flag_by false true o h is = refl
flag_by true false o h is = the_same o h is
flag_by false false o h is = refl

not_the_one : (b : Bool) (o : Option Holder) (k : Holder) → is_the o k ≡ false → is_the (cond b o None) k ≡ false
not_the_one true o k isnt = isnt
not_the_one false o k isnt = refl

pub arrival_matches : (cancels : Holder → Bool) (g : GroupState) (moves : List Move) (k : Holder) → is_new k moves ≡ true
    → Matches g moves → Matches (changed cancels g (Change.arrival k)) (moves ++ moves_of cancels g (Change.arrival k))
arrival_matches cancels g moves k new is =
    let s : Option Holder = stopped_at_arrival (cancels k) g in
    let more : List Move = arrival_moves k g.pending s in
    let none = nothing_of k moves new in
    let stays : is_the g.in_progress k ≡ false = sym (is.in_progress k) ∙ ap (λ b. b && not (has_ended k moves)) none.started in
    let unrequested : was_stopped k (moves ++ more) ≡ false =
    stopped_on k moves more
    ∙ ap₂ (λ a b. a || b) none.stopped
    (stopped_here k k g.pending s ∙ not_the_one (cancels k && not g.stopping) g.in_progress k stays) in
    record {
      in_progress = λ h.
          in_progress_on h moves more false (is_the g.pending h) (started_here h k g.pending s) (ended_here h k g.pending s)
          ∙ ap (λ q. (has_started h moves || false) && not (has_ended h moves || q)) (sym (is.pending h))
          ∙ in_progress_after_arrival (has_arrived h moves) (has_started h moves) (has_ended h moves)
          ∙ is.in_progress h;
      stopping = λ h runs.
          stopped_on h moves more
          ∙ ap₂ (λ a b. a || b) (is.stopping h runs) (stopped_here h k g.pending s)
          ∙ flag_by (cancels k) g.stopping g.in_progress h runs;
      pending = λ h.
          pending_on h moves more (same_holder h k) false (is_the g.pending h) (arrived_here h k g.pending s)
          (started_here h k g.pending s) (ended_here h k g.pending s)
          ∙ ap (λ q. (has_arrived h moves || same_holder h k) && (not (has_started h moves || false) && not (has_ended h moves || q)))
          (sym (is.pending h))
          ∙ pending_after_arrival (has_arrived h moves) (has_started h moves) (has_ended h moves) (same_holder h k)
          (apart_by (λ x. has_arrived x moves) h k (same_holder h k) refl none.arrived)
          (apart_by (λ x. has_started x moves) h k (same_holder h k) refl none.started)
          (apart_by (λ x. has_ended x moves) h k (same_holder h k) refl none.ended);
      latest = λ h same.
          latest_on moves more ∙ ap (λ hs. last_or (latest moves) hs) (latest_here k g.pending s) ∙ same;
      unstopped = λ h same.
          subst (λ x. was_stopped x (moves ++ more) ≡ false) (same_Some k h same) unrequested;
    }
