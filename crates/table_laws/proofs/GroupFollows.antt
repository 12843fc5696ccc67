-- What follows from the law of a group, at any point of a list of moves that satisfies it.
use Rattle.std.specs.List.{last_or}
use Rattle.std.specs.Prelude.{filter_map, option_and_then, cond, ◌⊎◌}
use Rattle.std.proofs.Common.{◌≡◌, List, [], ◌∷◌, ◌++◌, Bool, true, false, ◌&&◌, ◌||◌, not, Option, Some, None}
use Rattle.std.proofs.Common.{refl, ap, ap₂, sym, subst, ◌∙◌, append_assoc, inl, inr}
use Rattle.std.proofs.lemmas.Bool.{and_parts, false_from_ne_true, false≢true, not-true, or_parts, or_right}
use Rattle.std.proofs.lemmas.Option.{none-some, same_Some}
use Rattle.wf_value.specs.declared.outcome.Outcome.{Outcome}
use Rattle.wf_value.specs.declared.outcome.Outcome.TheVariants.{Cancelled}
use Rattle.table_model.specs.GroupLaw.{arrival_of, end_of, has_arrived, has_ended, has_started, was_stopped, Move, BeginsWith, KeepsLaw}
use Rattle.table_model.specs.GroupLaw.{is_pending, is_in_progress, is_the, latest, next_displaced, same_holder}
use Rattle.settling_laws.proofs.ArrivalKeeps.{holder_tested, itself}
use Rattle.table_laws.proofs.GroupSaid.{arrived_on, ended_on, latest_on, started_on, runs_started, waits_unstarted}
use Rattle.table_laws.proofs.GroupTruths.{not_both, or_second}
use Rattle.table_model.specs.declared.holder.Holder.{Holder}

-- ---- the position of a move

suffix : (m : Move) (moves : List Move) (found : Move) → ((a : List Move) × (b : List Move) × (moves ≡ a ++ found ∷ b))
    → (a : List Move) × (b : List Move) × (m ∷ moves ≡ a ++ found ∷ b)
suffix m moves found spot = (m ∷ spot.0, spot.1, ap (λ ms. m ∷ ms) spot.2)

start_by : (h k : Holder) (moves : List Move) (b : Bool) → same_holder h k ≡ b → (b || has_started h moves) ≡ true
    → (has_started h moves ≡ true → (x : List Move) × (y : List Move) × (moves ≡ x ++ Move.start h ∷ y))
    → (x : List Move) × (y : List Move) × (Move.start k ∷ moves ≡ x ++ Move.start h ∷ y)
start_by h k moves true same is next = ([], moves, ap (λ x. Move.start x ∷ moves) (sym (holder_tested h k same)))
start_by h k moves false same is next = suffix (Move.start k) moves (Move.start h) (next is)

pub start_found : (h : Holder) (moves : List Move) → has_started h moves ≡ true
    → (x : List Move) × (y : List Move) × (moves ≡ x ++ Move.start h ∷ y)
start_found h [] is = absurd (cc)
start_found h (Move.arrive k ∷ moves) is = suffix (Move.arrive k) moves (Move.start h) (start_found h moves is)
start_found h (Move.start k ∷ moves) is = start_by h k moves (same_holder h k) refl is (start_found h moves)
start_found h (Move.stop k ∷ moves) is = suffix (Move.stop k) moves (Move.start h) (start_found h moves is)
start_found h (Move.end_with r k ∷ moves) is = suffix (Move.end_with r k) moves (Move.start h) (start_found h moves is)

arrival_by : (h k : Holder) (moves : List Move) (b : Bool) → same_holder h k ≡ b → (b || has_arrived h moves) ≡ true
    → (has_arrived h moves ≡ true → (x : List Move) × (y : List Move) × (moves ≡ x ++ Move.arrive h ∷ y))
    → (x : List Move) × (y : List Move) × (Move.arrive k ∷ moves ≡ x ++ Move.arrive h ∷ y)
arrival_by h k moves true same is next = ([], moves, ap (λ x. Move.arrive x ∷ moves) (sym (holder_tested h k same)))
arrival_by h k moves false same is next = suffix (Move.arrive k) moves (Move.arrive h) (next is)

arrival_found : (h : Holder) (moves : List Move) → has_arrived h moves ≡ true
    → (x : List Move) × (y : List Move) × (moves ≡ x ++ Move.arrive h ∷ y)
arrival_found h [] is = absurd (cc)
arrival_found h (Move.arrive k ∷ moves) is = arrival_by h k moves (same_holder h k) refl is (arrival_found h moves)
arrival_found h (Move.start k ∷ moves) is = suffix (Move.start k) moves (Move.arrive h) (arrival_found h moves is)
arrival_found h (Move.stop k ∷ moves) is = suffix (Move.stop k) moves (Move.arrive h) (arrival_found h moves is)
arrival_found h (Move.end_with r k ∷ moves) is = suffix (Move.end_with r k) moves (Move.arrive h) (arrival_found h moves is)

-- no arrival, or the first one
data FirstArrival (moves : List Move) : Type 0 where
  nobody : filter_map arrival_of moves ≡ [] → FirstArrival moves
  first : (x y : List Move) (k : Holder) → moves ≡ x ++ Move.arrive k ∷ y → filter_map arrival_of x ≡ [] → FirstArrival moves

pass : (m : Move) (moves : List Move) → arrival_of m ≡ None → FirstArrival moves → FirstArrival (m ∷ moves)
pass (Move.arrive h) moves isnt next = absurd (cc)
pass (Move.start h) moves isnt (nobody e) = nobody e
pass (Move.start h) moves isnt (first x y k e none) = first (Move.start h ∷ x) y k (ap (λ ms. Move.start h ∷ ms) e) none
pass (Move.stop h) moves isnt (nobody e) = nobody e
pass (Move.stop h) moves isnt (first x y k e none) = first (Move.stop h ∷ x) y k (ap (λ ms. Move.stop h ∷ ms) e) none
pass (Move.end_with r h) moves isnt (nobody e) = nobody e
pass (Move.end_with r h) moves isnt (first x y k e none) = first (Move.end_with r h ∷ x) y k (ap (λ ms. Move.end_with r h ∷ ms) e) none

first_arrival : (moves : List Move) → FirstArrival moves
first_arrival [] = nobody refl
first_arrival (Move.arrive h ∷ moves) = first [] moves h refl refl
first_arrival (Move.start h ∷ moves) = pass (Move.start h) moves refl (first_arrival moves)
first_arrival (Move.stop h ∷ moves) = pass (Move.stop h) moves refl (first_arrival moves)
first_arrival (Move.end_with r h ∷ moves) = pass (Move.end_with r h) moves refl (first_arrival moves)

-- ---- starts

and_second : (a b : Bool) → a ≡ true → (a && not b) ≡ false → b ≡ true
and_second true true holds isnt = refl
and_second true false holds isnt = absurd (cc)
and_second false b holds isnt = absurd (cc)

-- between two starts the first holder has ended
pub first_has_ended : (cancels : Holder → Bool) (moves before between after : List Move) (h k : Holder) → KeepsLaw cancels moves
    → moves ≡ before ++ Move.start h ∷ (between ++ Move.start k ∷ after) → has_ended h between ≡ true
first_has_ended cancels moves before between after h k law e =
    let own = law.starts_in_order before (between ++ Move.start k ∷ after) h e in
    let later = law.starts_in_order (before ++ Move.start h ∷ between) after k
    (e ∙ sym (append_assoc before (Move.start h ∷ between) (Move.start k ∷ after))) in
    let started : has_started h (before ++ Move.start h ∷ between) ≡ true =
    started_on h before (Move.start h ∷ between)
    ∙ ap (λ b. has_started h before || (b || has_started h between)) (itself h)
    ∙ or_right (has_started h before) true refl in
    let ended = and_second (has_started h (before ++ Move.start h ∷ between)) (has_ended h (before ++ Move.start h ∷ between)) started
    (later.0 h) in
    or_second (has_ended h before) (has_ended h between) own.2 (sym (ended_on h before (Move.start h ∷ between)) ∙ ended)

-- a holder that has ended does not start again
pub ended_is_over : (cancels : Holder → Bool) (moves before after : List Move) (h : Holder) → KeepsLaw cancels moves
    → moves ≡ before ++ after → has_ended h before ≡ true → has_started h after ≡ true → ⊥
ended_is_over cancels moves before after h law e ended starts =
    let spot = start_found h after starts in
    let own = law.starts_in_order (before ++ spot.0) spot.1 h
    (e ∙ ap (λ ms. before ++ ms) spot.2 ∙ sym (append_assoc before spot.0 (Move.start h ∷ spot.1))) in
    not_both (has_ended h (before ++ spot.0)) (ended_on h before spot.0 ∙ ap (λ b. b || has_ended h spot.0) ended) own.2

runs_unended : (h : Holder) (moves : List Move) → is_in_progress h moves ≡ true → has_ended h moves ≡ false
runs_unended h moves is = not-true (has_ended h moves) (and_parts (has_started h moves) (not (has_ended h moves)) is).1

-- if two holders have started in this order, the first has ended
in_order : (cancels : Holder → Bool) (moves before after x y : List Move) (h k : Holder) → KeepsLaw cancels moves
    → moves ≡ before ++ after
    → before ≡ x ++ Move.start h ∷ y → has_started k y ≡ true → has_ended h before ≡ true
in_order cancels moves before after x y h k law e is starts =
    let spot = start_found k y starts in
    let whole : moves ≡ x ++ Move.start h ∷ (spot.0 ++ Move.start k ∷ (spot.1 ++ after)) =
    e ∙ ap (λ ms. ms ++ after) is
    ∙ append_assoc x (Move.start h ∷ y) after
    ∙ ap (λ ms. x ++ Move.start h ∷ (ms ++ after)) spot.2
    ∙ ap (λ ms. x ++ Move.start h ∷ ms) (append_assoc spot.0 (Move.start k ∷ spot.1) after) in
    let ended = first_has_ended cancels moves x spot.0 (spot.1 ++ after) h k law whole in
    let ended_then : has_ended h y ≡ true =
    ap (λ ms. has_ended h ms) spot.2 ∙ ended_on h spot.0 (Move.start k ∷ spot.1) ∙ ap (λ b. b || has_ended h spot.1) ended in
    ap (λ ms. has_ended h ms) is
    ∙ ended_on h x (Move.start h ∷ y)
    ∙ ap (λ b. has_ended h x || b) ended_then
    ∙ or_right (has_ended h x) true refl

one_by : (cancels : Holder → Bool) (moves before after x y : List Move) (h k : Holder) → KeepsLaw cancels moves → moves ≡ before ++ after
    → before ≡ x ++ Move.start h ∷ y → is_in_progress h before ≡ true → is_in_progress k before ≡ true → (a b c : Bool) → has_started k x ≡ a
    → same_holder k h ≡ b → has_started k y ≡ c → (a || (b || c)) ≡ true → h ≡ k
one_by cancels moves before after x y h k law e is one other a true c in_x same in_y found = sym (holder_tested k h same)
one_by cancels moves before after x y h k law e is one other a false true in_x same in_y found =
    absurd (not_both (has_ended h before) (in_order cancels moves before after x y h k law e is in_y) (runs_unended h before one))
one_by cancels moves before after x y h k law e is one other true false false in_x same in_y found =
    let spot = start_found k x in_x in
    let parts : before ≡ spot.0 ++ Move.start k ∷ (spot.1 ++ Move.start h ∷ y) =
    is ∙ ap (λ ms. ms ++ Move.start h ∷ y) spot.2 ∙ append_assoc spot.0 (Move.start k ∷ spot.1) (Move.start h ∷ y) in
    let later : has_started h (spot.1 ++ Move.start h ∷ y) ≡ true =
    started_on h spot.1 (Move.start h ∷ y)
    ∙ ap (λ b. has_started h spot.1 || (b || has_started h y)) (itself h)
    ∙ or_right (has_started h spot.1) true refl in
    absurd (not_both (has_ended k before)
    (in_order cancels moves before after spot.0 (spot.1 ++ Move.start h ∷ y) k h law e parts later) (runs_unended k before other))
one_by cancels moves before after x y h k law e is one other false false false in_x same in_y found = absurd (false≢true found)

-- at no moment do two holders run
pub one_runs : (cancels : Holder → Bool) (moves before after : List Move) (h k : Holder) → KeepsLaw cancels moves
    → moves ≡ before ++ after
    → is_in_progress h before ≡ true → is_in_progress k before ≡ true → h ≡ k
one_runs cancels moves before after h k law e one other =
    let spot = start_found h before (runs_started h before one) in
    one_by cancels moves before after spot.0 spot.1 h k law e spot.2 one other (has_started k spot.0) (same_holder k h) (has_started k
    spot.1) refl
    refl refl (sym (started_on k spot.0 (Move.start h ∷ spot.1)) ∙ ap (λ ms. has_started k ms) (sym spot.2) ∙ runs_started k before other)

-- ---- pending holders

pub next_shown : (moves : List Move) (h : Holder) → latest moves ≡ Some h → is_pending h moves ≡ true → next_displaced moves ≡ Some h
next_shown moves h late is =
    ap (λ l. option_and_then (λ x. cond (is_pending x moves) (Some x) None) l) late ∙ ap (λ b. cond b (Some h) None) is

next_kept : (moves : List Move) (h x : Holder) (b : Bool) → is_pending x moves ≡ b → cond b (Some x) None ≡ Some h
    → is_pending h moves ≡ true
next_kept moves h x true pending is = subst (λ y. is_pending y moves ≡ true) (same_Some x h is) pending
next_kept moves h x false pending is = absurd (none-some h is)

next_by : (moves : List Move) (h : Holder) (last : Option Holder)
    → option_and_then (λ x. cond (is_pending x moves) (Some x) None) last ≡ Some h → is_pending h moves ≡ true
next_by moves h None is = absurd (none-some h is)
next_by moves h (Some x) is = next_kept moves h x (is_pending x moves) refl is

pub displaced_waits : (moves : List Move) (h : Holder) → next_displaced moves ≡ Some h → is_pending h moves ≡ true
displaced_waits moves h is = next_by moves h (latest moves) is

-- what a part of the moves says about a holder that is pending after all of them
waits_before : (h : Holder) (x y : List Move) → has_arrived h x ≡ true → is_pending h (x ++ y) ≡ true → is_pending h x ≡ true
waits_before h x y arrived is =
    let parts = waits_unstarted h (x ++ y) is in
    let started = or_parts (has_started h x) (has_started h y)
    (sym (started_on h x y) ∙ not-true (has_started h (x ++ y)) parts.0) in
    let ended = or_parts (has_ended h x) (has_ended h y) (sym (ended_on h x y) ∙ not-true (has_ended h (x ++ y)) parts.1) in
    ap₂ (λ a b. a && b) arrived (ap₂ (λ a b. not a && not b) started.0 ended.0)

latest_then : (h : Holder) (x y : List Move) → filter_map arrival_of y ≡ [] → latest (x ++ Move.arrive h ∷ y) ≡ Some h
latest_then h x y none = latest_on x (Move.arrive h ∷ y) ∙ ap (λ hs. last_or (Some h) hs) none

arrived_then : (h : Holder) (x y : List Move) → has_arrived h (x ++ Move.arrive h ∷ y) ≡ true
arrived_then h x y =
    arrived_on h x (Move.arrive h ∷ y) ∙ ap (λ b. has_arrived h x || (b || has_arrived h y)) (itself h)
    ∙ or_right (has_arrived h x) true refl

same_head : (m n : Move) (xs ys : List Move) → m ∷ xs ≡ n ∷ ys → m ≡ n
same_head m n xs ys e = cc

-- the end is among the moves so far, or it is the next move
end_is_next : (before x y after : List Move) (h : Holder) → before ≡ x ++ y → has_ended h before ≡ false
    → BeginsWith (Move.end_with Cancelled h ∷ []) (y ++ after) → BeginsWith (Move.end_with Cancelled h ∷ []) after
end_is_next before x [] after h is unended begins = begins
end_is_next before x (m ∷ y) after h is unended begins =
    let same : m ≡ Move.end_with Cancelled h = same_head m (Move.end_with Cancelled h) (y ++ after) begins.0 begins.1 in
    let ended : has_ended h (m ∷ y) ≡ true =
    ap (λ z. is_the (end_of z) h || has_ended h y) same ∙ ap (λ b. b || has_ended h y) (itself h) in
    absurd (not_both (has_ended h before)
    (ap (λ ms. has_ended h ms) is ∙ ended_on h x (m ∷ y) ∙ ap (λ b. has_ended h x || b) ended ∙ or_right (has_ended h x) true refl) unended)

latest_by : (cancels : Holder → Bool) (moves before after x y : List Move) (h : Holder) → KeepsLaw cancels moves → moves ≡ before ++ after
    → before ≡ x ++ Move.arrive h ∷ y → is_pending h before ≡ true → FirstArrival y
    → (latest before ≡ Some h) ⊎ BeginsWith (Move.end_with Cancelled h ∷ []) after
latest_by cancels moves before after x y h law e is waits (nobody none) =
    inl (ap (λ ms. latest ms) is ∙ latest_then h x y none)
latest_by cancels moves before after x y h law e is waits (first p q k spot none) =
    let earlier : List Move = x ++ Move.arrive h ∷ p in
    let parts : before ≡ earlier ++ Move.arrive k ∷ q =
    is ∙ ap (λ ms. x ++ Move.arrive h ∷ ms) spot ∙ sym (append_assoc x (Move.arrive h ∷ p) (Move.arrive k ∷ q)) in
    let waited = waits_before h earlier (Move.arrive k ∷ q) (arrived_then h x p) (ap (λ ms. is_pending h ms) (sym parts) ∙ waits) in
    let whole : moves ≡ earlier ++ Move.arrive k ∷ (q ++ after) =
    e ∙ ap (λ ms. ms ++ after) parts ∙ append_assoc earlier (Move.arrive k ∷ q) after in
    let begins = law.displaced_are_cancelled earlier (q ++ after) k h whole (next_shown earlier h (latest_then h x p none) waited) in
    inr (end_is_next before (earlier ++ Move.arrive k ∷ []) q after h (parts ∙ sym (append_assoc earlier (Move.arrive k ∷ []) q))
    (not-true (has_ended h before) (waits_unstarted h before waits).1) begins)

-- a pending holder is the latest arrival, or the next move displaces it
pub waits_as_latest : (cancels : Holder → Bool) (moves before after : List Move) (h : Holder) → KeepsLaw cancels moves
    → moves ≡ before ++ after → is_pending h before ≡ true
    → (latest before ≡ Some h) ⊎ BeginsWith (Move.end_with Cancelled h ∷ []) after
waits_as_latest cancels moves before after h law e waits =
    let arrived = (and_parts (has_arrived h before) (not (has_started h before) && not (has_ended h before)) waits).0 in
    let spot = arrival_found h before arrived in
    latest_by cancels moves before after spot.0 spot.1 h law e spot.2 waits (first_arrival spot.1)

one_waits_by : (before after : List Move) (h k : Holder) → ((x : Holder) → BeginsWith (Move.end_with Cancelled x ∷ []) after → ⊥)
    → (latest before ≡ Some h) ⊎ BeginsWith (Move.end_with Cancelled h ∷ []) after
    → (latest before ≡ Some k) ⊎ BeginsWith (Move.end_with Cancelled k ∷ []) after → h ≡ k
one_waits_by before after h k none (inl one) (inl other) = same_Some h k (sym one ∙ other)
one_waits_by before after h k none (inl one) (inr other) = absurd (none k other)
one_waits_by before after h k none (inr one) other = absurd (none h one)

-- two holders are pending only if the next move is the end of a displaced one
pub one_waits : (cancels : Holder → Bool) (moves before after : List Move) (h k : Holder) → KeepsLaw cancels moves
    → moves ≡ before ++ after
    → is_pending h before ≡ true → is_pending k before ≡ true
    → ((x : Holder) → BeginsWith (Move.end_with Cancelled x ∷ []) after → ⊥) → h ≡ k
one_waits cancels moves before after h k law e one other none =
    one_waits_by before after h k none (waits_as_latest cancels moves before after h law e one)
    (waits_as_latest cancels moves before after k law e other)

-- a displaced holder never starts
pub displaced_never_starts : (cancels : Holder → Bool) (moves before after : List Move) (newcomer h : Holder) → KeepsLaw cancels moves
    → moves ≡ before ++ Move.arrive newcomer ∷ after → next_displaced before ≡ Some h → has_started h moves ≡ false
displaced_never_starts cancels moves before after newcomer h law e is =
    let begins = law.displaced_are_cancelled before after newcomer h e is in
    let rest : List Move = begins.0 in
    let pair : List Move = Move.arrive newcomer ∷ Move.end_with Cancelled h ∷ [] in
    let whole : moves ≡ (before ++ pair) ++ rest =
    e ∙ ap (λ ms. before ++ Move.arrive newcomer ∷ ms) begins.1 ∙ sym (append_assoc before pair rest) in
    let ended : has_ended h (before ++ pair) ≡ true =
    ended_on h before pair ∙ ap (λ b. has_ended h before || (b || false)) (itself h) ∙ or_right (has_ended h before) true refl in
    let unstarted : has_started h before ≡ false =
    not-true (has_started h before) (waits_unstarted h before (displaced_waits before h is)).0 in
    let started : has_started h moves ≡ has_started h rest =
    ap (λ ms. has_started h ms) whole
    ∙ started_on h (before ++ pair) rest
    ∙ ap (λ b. b || has_started h rest) (started_on h before pair ∙ ap (λ b. b || false) unstarted) in
    started ∙ false_from_ne_true (has_started h rest) (ended_is_over cancels moves (before ++ pair) rest h law whole ended)

-- a holder that ends without a start and without a stop is displaced by one that arrived later
pub displaced_by_a_later_one : (cancels : Holder → Bool) (moves before after : List Move) (r : Outcome) (h : Holder)
    → KeepsLaw cancels moves → moves ≡ before ++ Move.end_with r h ∷ after → has_started h before ≡ false → was_stopped h before ≡ false
    → (earlier : List Move) × (newcomer : Holder) × (before ≡ earlier ++ Move.arrive newcomer ∷ []) × (has_arrived h earlier ≡ true)
displaced_by_a_later_one cancels moves before after r h law e unstarted unstopped =
    let just = (law.ends_have_causes before after r h e unstarted unstopped).1 in
    let waits = displaced_waits just.0 h just.3 in
    (just.0, just.1, just.2, (and_parts (has_arrived h just.0) (not (has_started h just.0) && not (has_ended h just.0)) waits).0)
