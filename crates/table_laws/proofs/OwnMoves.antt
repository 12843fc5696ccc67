-- The moves of one holder, and those of the holders of one group.
use Rattle.std.specs.Prelude.{◌≡◌, List, [], ◌++◌, ◌&&◌, filter, not, Bool, true, false}
use Rattle.std.proofs.Common.{ap, ap₂, sym, ◌∙◌}
use Rattle.std.proofs.lemmas.List.Elements.{filter-append}
use Rattle.table_model.specs.GroupLaw.{arrival_of, end_of, start_of, stop_of, has_arrived, has_ended, has_started, was_stopped, Move}
use Rattle.table_model.specs.GroupLaw.{holder_of, is_pending, is_in_progress, is_the, same_holder}
use Rattle.settling_laws.proofs.ArrivalKeeps.{holder_tested}
use Rattle.table_laws.proofs.PlacedOne.{any_filtered, filter_apart, filter_twice}
use Rattle.table_model.specs.declared.holder.Holder.{Holder}

-- the moves of the holder
abbrev pub own : Holder → List Move → List Move
own h moves = filter (λ m. same_holder h (holder_of m)) moves

-- the moves of the holders that pass
abbrev pub of_group : (Holder → Bool) → List Move → List Move
of_group in_group moves = filter (λ m. in_group (holder_of m)) moves

pub own_on : (h : Holder) (moves more : List Move) → own h (moves ++ more) ≡ own h moves ++ own h more
own_on h moves more = filter-append (λ m. same_holder h (holder_of m)) moves more

pub of_group_on : (in_group : Holder → Bool) (moves more : List Move)
    → of_group in_group (moves ++ more) ≡ of_group in_group moves ++ of_group in_group more
of_group_on in_group moves more = filter-append (λ m. in_group (holder_of m)) moves more

-- the moves of the group include all moves of a holder in it
pub own_of_group : (in_group : Holder → Bool) (h : Holder) (moves : List Move) → in_group h ≡ true
    → own h (of_group in_group moves) ≡ own h moves
own_of_group in_group h moves is =
    filter_twice (λ m. same_holder h (holder_of m)) (λ m. in_group (holder_of m)) moves
    (λ m same. ap in_group (sym (holder_tested h (holder_of m) same)) ∙ is)

-- and no moves of other holders
pub own_of_another : (in_group : Holder → Bool) (h : Holder) (moves : List Move) → in_group h ≡ false
    → own h (of_group in_group moves) ≡ []
own_of_another in_group h moves isnt =
    filter_apart (λ m. same_holder h (holder_of m)) (λ m. in_group (holder_of m)) moves
    (λ m same. ap in_group (sym (holder_tested h (holder_of m) same)) ∙ isnt)

-- ---- what is said about a holder depends only on its own moves

pub arrival_is_own : (h : Holder) (m : Move) → is_the (arrival_of m) h ≡ true → same_holder h (holder_of m) ≡ true
arrival_is_own h (Move.arrive k) is = is
arrival_is_own h (Move.start k) is = cc
arrival_is_own h (Move.stop k) is = cc
arrival_is_own h (Move.end_with r k) is = cc

pub start_is_own : (h : Holder) (m : Move) → is_the (start_of m) h ≡ true → same_holder h (holder_of m) ≡ true
start_is_own h (Move.arrive k) is = cc
start_is_own h (Move.start k) is = is
start_is_own h (Move.stop k) is = cc
start_is_own h (Move.end_with r k) is = cc

pub stop_is_own : (h : Holder) (m : Move) → is_the (stop_of m) h ≡ true → same_holder h (holder_of m) ≡ true
stop_is_own h (Move.arrive k) is = cc
stop_is_own h (Move.start k) is = cc
stop_is_own h (Move.stop k) is = is
stop_is_own h (Move.end_with r k) is = cc

pub end_is_own : (h : Holder) (m : Move) → is_the (end_of m) h ≡ true → same_holder h (holder_of m) ≡ true
end_is_own h (Move.arrive k) is = cc
end_is_own h (Move.start k) is = cc
end_is_own h (Move.stop k) is = cc
end_is_own h (Move.end_with r k) is = is

pub arrived_by_own : (h : Holder) (moves : List Move) → has_arrived h (own h moves) ≡ has_arrived h moves
arrived_by_own h moves = any_filtered (λ m. is_the (arrival_of m) h) (λ m. same_holder h (holder_of m)) moves (arrival_is_own h)

pub started_by_own : (h : Holder) (moves : List Move) → has_started h (own h moves) ≡ has_started h moves
started_by_own h moves = any_filtered (λ m. is_the (start_of m) h) (λ m. same_holder h (holder_of m)) moves (start_is_own h)

pub stopped_by_own : (h : Holder) (moves : List Move) → was_stopped h (own h moves) ≡ was_stopped h moves
stopped_by_own h moves = any_filtered (λ m. is_the (stop_of m) h) (λ m. same_holder h (holder_of m)) moves (stop_is_own h)

pub ended_by_own : (h : Holder) (moves : List Move) → has_ended h (own h moves) ≡ has_ended h moves
ended_by_own h moves = any_filtered (λ m. is_the (end_of m) h) (λ m. same_holder h (holder_of m)) moves (end_is_own h)

pub runs_by_own : (h : Holder) (moves : List Move) → is_in_progress h (own h moves) ≡ is_in_progress h moves
runs_by_own h moves = ap₂ (λ s e. s && not e) (started_by_own h moves) (ended_by_own h moves)

pub waits_by_own : (h : Holder) (moves : List Move) → is_pending h (own h moves) ≡ is_pending h moves
waits_by_own h moves =
    ap₂ (λ a b. a && b) (arrived_by_own h moves) (ap₂ (λ s e. not s && not e) (started_by_own h moves) (ended_by_own h moves))
