-- The law of a group as an executable test, simple and slow, move by move.
use Rattle.std.specs.Prelude.{List, [], ◌∷◌, ◌++◌, map, Bool, true, false, ◌&&◌, ◌||◌, not, is_some, Option, Some, None}
use Rattle.std.specs.List.{list_all}
use Rattle.wf_value.specs.declared.outcome.Outcome.{Outcome}
use Rattle.wf_value.specs.declared.outcome.Outcome.TheVariants.{Success, Failure, Cancelled}
use Rattle.table_model.specs.GroupLaw.{arrival_of, has_ended, has_started, holder_of, is_in_progress, is_the, latest, next_displaced, Move}
use Rattle.table_model.specs.GroupLaw.{same_holder, was_stopped}
use Rattle.table_model.specs.declared.holder.Holder.{Holder}

abbrev pub is_cancelled : Outcome → Bool
is_cancelled Success = false
is_cancelled Failure = false
is_cancelled Cancelled = true

-- the first of the moves is the end of the holder as cancelled
abbrev pub begins_with_end : Holder → List Move → Bool
begins_with_end h [] = false
begins_with_end h (Move.arrive k ∷ moves) = false
begins_with_end h (Move.start k ∷ moves) = false
begins_with_end h (Move.stop k ∷ moves) = false
begins_with_end h (Move.end_with r k ∷ moves) = is_cancelled r && same_holder h k

abbrev pub begins_with_stop : Holder → List Move → Bool
begins_with_stop h [] = false
begins_with_stop h (Move.arrive k ∷ moves) = false
begins_with_stop h (Move.start k ∷ moves) = false
begins_with_stop h (Move.stop k ∷ moves) = same_holder h k
begins_with_stop h (Move.end_with r k ∷ moves) = false

-- after an arrival: the end of the displaced holder, if any, and then the stop of the holder
abbrev pub ends_displaced : Option Holder → List Move → Bool
ends_displaced None after = true
ends_displaced (Some h) after = begins_with_end h after

abbrev pub stops_after : Option Holder → Holder → List Move → Bool
stops_after None h after = begins_with_stop h after
stops_after (Some p) h [] = false
stops_after (Some p) h (m ∷ after) = begins_with_end p (m ∷ []) && begins_with_stop h after

-- the last of the moves is an arrival that displaced the holder
abbrev pub displaced_last : Holder → List Move → List Move → Bool
displaced_last h before [] = false
displaced_last h before (m ∷ []) = is_some (arrival_of m) && is_the (next_displaced before) h
displaced_last h before (m ∷ n ∷ moves) = displaced_last h (before ++ m ∷ []) (n ∷ moves)

abbrev pub allows : (Holder → Bool) → List Move → Move → List Move → Bool
allows cancels before (Move.arrive newcomer) after =
    ends_displaced (next_displaced before) after
    && (not (cancels newcomer)
    || list_all (λ h. not (is_in_progress h before) || (was_stopped h before || stops_after (next_displaced before) h after))
    (map holder_of before))
allows cancels before (Move.start h) after =
    list_all (λ other. not (is_in_progress other before)) (map holder_of before) && (is_the (latest before) h && not (has_ended h before))
allows cancels before (Move.stop h) after = true
allows cancels before (Move.end_with r h) after =
    has_started h before || (was_stopped h before || (is_cancelled r && displaced_last h [] before))

abbrev pub allows_all : (Holder → Bool) → List Move → List Move → Bool
allows_all cancels before [] = true
allows_all cancels before (m ∷ after) = allows cancels before m after && allows_all cancels (before ++ m ∷ []) after

abbrev pub keeps_law : (Holder → Bool) → List Move → Bool
keeps_law cancels moves = allows_all cancels [] moves
