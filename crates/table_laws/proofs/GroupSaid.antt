-- What a list of moves says about a holder when more moves follow.
use Rattle.std.specs.List.{last_or}
use Rattle.std.specs.Prelude.{filter_map}
use Rattle.std.proofs.Common.{◌≡◌, List, [], ◌∷◌, ◌++◌, Bool, true, ◌&&◌, ◌||◌, not, Option, Some, None}
use Rattle.std.proofs.Common.{refl, ap, ap₂, sym, ◌∙◌}
use Rattle.std.proofs.lemmas.Bool.{and_parts}
use Rattle.std.proofs.lemmas.List.Elements.{filter_map-append}
use Rattle.std.proofs.lemmas.List.Folds.{list_any-append}
use Rattle.table_model.specs.GroupLaw.{arrival_of, end_of, start_of, stop_of, has_arrived, has_ended, has_started, was_stopped, Move}
use Rattle.table_model.specs.GroupLaw.{is_pending, is_in_progress, is_the, latest}
use Rattle.settling_laws.proofs.ArrivalKeeps.{holder_tested, itself}
use Rattle.table_model.specs.declared.holder.Holder.{Holder}

-- ---- equality of holders

pub the_one : (o : Option Holder) (h : Holder) → is_the o h ≡ true → o ≡ Some h
the_one None h is = absurd (cc)
the_one (Some k) h is = ap (λ x. Some x) (sym (holder_tested h k is))

pub the_same : (o : Option Holder) (h : Holder) → o ≡ Some h → is_the o h ≡ true
the_same o h is = ap (λ x. is_the x h) is ∙ itself h

-- ---- both lists together

pub arrived_on : (h : Holder) (moves more : List Move) → has_arrived h (moves ++ more) ≡ (has_arrived h moves || has_arrived h more)
arrived_on h moves more = list_any-append (λ m. is_the (arrival_of m) h) moves more

pub started_on : (h : Holder) (moves more : List Move) → has_started h (moves ++ more) ≡ (has_started h moves || has_started h more)
started_on h moves more = list_any-append (λ m. is_the (start_of m) h) moves more

pub stopped_on : (h : Holder) (moves more : List Move) → was_stopped h (moves ++ more) ≡ (was_stopped h moves || was_stopped h more)
stopped_on h moves more = list_any-append (λ m. is_the (stop_of m) h) moves more

pub ended_on : (h : Holder) (moves more : List Move) → has_ended h (moves ++ more) ≡ (has_ended h moves || has_ended h more)
ended_on h moves more = list_any-append (λ m. is_the (end_of m) h) moves more

-- if it is known what the further moves say
pub in_progress_on : (h : Holder) (moves more : List Move) (s e : Bool) → has_started h more ≡ s → has_ended h more ≡ e
    → is_in_progress h (moves ++ more) ≡ ((has_started h moves || s) && not (has_ended h moves || e))
in_progress_on h moves more s e starts ends =
    ap₂ (λ x y. x && not y) (started_on h moves more ∙ ap (λ b. has_started h moves || b) starts)
    (ended_on h moves more ∙ ap (λ b. has_ended h moves || b) ends)

pub pending_on : (h : Holder) (moves more : List Move) (a s e : Bool) → has_arrived h more ≡ a → has_started h more ≡ s
    → has_ended h more ≡ e
    → is_pending h (moves ++ more) ≡ ((has_arrived h moves || a) && (not (has_started h moves || s) && not (has_ended h moves || e)))
pending_on h moves more a s e arrives starts ends =
    ap₂ (λ x y. x && y) (arrived_on h moves more ∙ ap (λ b. has_arrived h moves || b) arrives)
    (ap₂ (λ x y. not x && not y) (started_on h moves more ∙ ap (λ b. has_started h moves || b) starts)
    (ended_on h moves more ∙ ap (λ b. has_ended h moves || b) ends))

last_on : {X : Type 0} (o : Option X) (xs ys : List X) → last_or o (xs ++ ys) ≡ last_or (last_or o xs) ys
last_on o [] ys = refl
last_on o (x ∷ xs) ys = last_on (Some x) xs ys

pub latest_on : (moves more : List Move) → latest (moves ++ more) ≡ last_or (latest moves) (filter_map arrival_of more)
latest_on moves more =
    ap (λ hs. last_or None hs) (filter_map-append arrival_of moves more)
    ∙ last_on None (filter_map arrival_of moves) (filter_map arrival_of more)

-- ---- a holder in progress is not pending

pub runs_started : (h : Holder) (moves : List Move) → is_in_progress h moves ≡ true → has_started h moves ≡ true
runs_started h moves is = (and_parts (has_started h moves) (not (has_ended h moves)) is).0

pub waits_unstarted : (h : Holder) (moves : List Move) → is_pending h moves ≡ true
    → (not (has_started h moves) ≡ true) × (not (has_ended h moves) ≡ true)
waits_unstarted h moves is =
    and_parts (not (has_started h moves)) (not (has_ended h moves))
    (and_parts (has_arrived h moves) (not (has_started h moves) && not (has_ended h moves)) is).1
