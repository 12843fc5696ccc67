-- Which holders an arrival displaces and stops: at most one each. These are all the moves that it makes besides its own.
use Rattle.std.specs.Prelude.{◌≡◌, List, [], ◌∷◌, ◌&&◌, filter_map, not, Bool, true, false, Option, Some, None}
use Rattle.std.specs.Prelude.{option_to_list, if◌then◌else◌, refl}
use Rattle.std.proofs.Common.{ap, sym, ◌∙◌, subst}
use Rattle.std.proofs.lemmas.Bool.{and_parts, not-true}
use Rattle.std.proofs.lemmas.Option.{same_Some}
use Rattle.wf_value.specs.declared.outcome.Outcome.TheVariants.{Cancelled}
use Rattle.group_name.specs.Group.{Group}
use Rattle.table_model.specs.Settling.{displaced, others_pending, stopped_where_requested}
use Rattle.table_model.specs.GroupLaw.{arrival_of, same_holder, Move, at_each, BeginsWith, cancelled_end}
use Rattle.table_model.specs.Groups.{HasOneBeside, is_in, is_pending_in, in_progress_in, waits}
use Rattle.table_model.specs.Runs.{RunState}
use Rattle.table_model.specs.Stops.{displace, stop_holder}
use Rattle.settling_laws.proofs.ArrivalKeeps.{itself}
use Rattle.settling_laws.proofs.HoldersFade.{each_fades, holder_stop_fades}
use Rattle.settling_laws.proofs.OneEach.{Fades, one_that_waits}
use Rattle.table_laws.proofs.ArrivalTold.{displace_tells, each_tells, tells_nothing, tells_then}
use Rattle.table_laws.proofs.ChangesTold.{stop_tells}
use Rattle.table_laws.proofs.GroupTruths.{not_both}
use Rattle.table_laws.proofs.HolderStatus.{Status}
use Rattle.table_laws.proofs.HolderStatus.{status}
use Rattle.table_laws.proofs.HoldersOnce.{first_kept, one_holder_kept}
use Rattle.table_laws.proofs.OnlyStops.{OnlyStops, holder_stops, no_stops, stops_on}
use Rattle.table_laws.proofs.OwnMoves.{of_group}
use Rattle.table_laws.proofs.StopsTold.{Tells}
use Rattle.table_laws.proofs.Unbegun.{AllStill, each_all_still, stop_all_still}
use Rattle.table_model.specs.declared.holder.Holder.{Holder}

-- ---- the stopped holder

stops_of_each : (hs : List Holder) (runs : List RunState) → OnlyStops (at_each stop_holder hs runs).moves
stops_of_each [] runs = no_stops
stops_of_each (h ∷ hs) runs =
    stops_on (stop_holder h runs).moves (at_each stop_holder hs (stop_holder h runs).runs).moves (holder_stops h runs)
    (stops_of_each hs (stop_holder h runs).runs)

pub requested_stops : (c : Bool) (g : Group) (runs : List RunState) → OnlyStops (stopped_where_requested c g runs).moves
requested_stops true g runs = stops_of_each (in_progress_in runs g) runs
requested_stops false g runs = no_stops

pub requested_tells : (c : Bool) (g : Group) (runs : List RunState) → Tells runs (stopped_where_requested c g runs)
requested_tells true g runs = each_tells stop_holder stop_tells (in_progress_in runs g) runs
requested_tells false g runs = tells_nothing runs

pub requested_all_still : (c : Bool) (g : Group) (runs : List RunState) → AllStill runs (stopped_where_requested c g runs).runs
requested_all_still true g runs = each_all_still stop_holder stop_all_still (in_progress_in runs g) runs
requested_all_still false g runs = λ h un. un

pub displaced_all_still : (g : Group) (n : Holder) (runs : List RunState) → AllStill runs (displaced g n runs).runs
displaced_all_still g n runs = each_all_still displace (λ h rs. stop_all_still h rs) (others_pending g n runs) runs

-- ---- the displaced holder: at most one

-- a holder that waits in the group, other than the newcomer
pub record Beside (runs : List RunState) (g : Group) (n d : Holder) : Type 0 where
  pub pends : is_pending_in runs g d ≡ true
  pub other : d ≡ n → ⊥

pub record Displaces (runs : List RunState) (g : Group) (n : Holder) (o : Option Holder) : Type 0 where
  pub are : others_pending g n runs ≡ option_to_list o
  pub each : (d : Holder) → o ≡ Some d → Beside runs g n d

beside_by : (runs : List RunState) (g : Group) (n d : Holder) → (is_pending_in runs g d && not (same_holder d n)) ≡ true → Beside runs g n d
beside_by runs g n d e =
    let parts = and_parts (is_pending_in runs g d) (not (same_holder d n)) e in
    record {
      pends = parts.0;
      other = (λ same. not_both (same_holder d n) (ap (λ h. same_holder h n) same ∙ itself n) (not-true (same_holder d n) parts.1));
    }

pub who_is_displaced : (runs : List RunState) (g : Group) (n : Holder) → HasOneBeside runs n → (o : Option Holder) × Displaces runs g n o
who_is_displaced runs g n besides =
    let test : Holder → Bool = λ h. is_pending_in runs g h && not (same_holder h n) in
    elim (others_pending g n runs) as (λ hs. others_pending g n runs ≡ hs → (o : Option Holder) × Displaces runs g n o) [
      | [] ↦ λ is. (None, record { are = is; each = (λ d e. cc) })
      | d ∷ rest ↦ λ is.
          let first = beside_by runs g n d (first_kept runs test d rest is) in
          let there = one_that_waits runs d (and_parts (is_in runs g d) (waits runs d) first.pends).1 in
          let alone = one_holder_kept runs test d there (first_kept runs test d rest is)
          (λ k passes. let next = beside_by runs g n k passes in besides.pending g k d next.other first.other next.pends first.pends) in (
            Some d,
            record {
              are = alone;
              each = (λ k e. subst (λ (h : Holder). Beside runs g n h) (same_Some d k e) first);
            },
          )
    ] refl

-- its end is the only move of the displacement
pub displaced_so : (runs : List RunState) (hs : List Holder) (o : Option Holder) → hs ≡ option_to_list o
    → ((d : Holder) → o ≡ Some d → status runs d ≡ Status.waiting)
    → Tells runs (at_each displace hs runs) × ((at_each displace hs runs).moves ≡ cancelled_end o)
displaced_so runs hs None is waiting =
    subst (λ (ds : List Holder). Tells runs (at_each displace ds runs) × ((at_each displace ds runs).moves ≡ [])) (sym is)
    (tells_nothing runs, refl)
displaced_so runs hs (Some d) is waiting =
    subst (λ (ds : List Holder). Tells runs (at_each displace ds runs) × ((at_each displace ds runs).moves
    ≡ Move.end_with Cancelled d ∷ []))
    (sym is) (
      tells_then runs (displace d runs) (at_each displace []) (displace_tells d runs (waiting d refl)) (tells_nothing
          (displace d runs).runs),
      refl,
    )

pub displaced_fades : (g : Group) (n : Holder) (runs : List RunState) → Fades runs (displaced g n runs).runs
displaced_fades g n runs = each_fades displace (λ h rs. holder_stop_fades h rs) (others_pending g n runs) runs

-- ---- facts about lists

pub end_is_silent : (o : Option Holder) → filter_map arrival_of (cancelled_end o) ≡ []
end_is_silent None = refl
end_is_silent (Some d) = refl

pub end_of_group : (in_group : Holder → Bool) (o : Option Holder) → ((d : Holder) → o ≡ Some d → in_group d ≡ true)
    → of_group in_group (cancelled_end o) ≡ cancelled_end o
end_of_group in_group None is = refl
end_of_group in_group (Some d) is = ap (λ b. if b then Move.end_with Cancelled d ∷ [] else []) (is d refl)

pub end_of_another : (in_group : Holder → Bool) (o : Option Holder) → ((d : Holder) → o ≡ Some d → in_group d ≡ false)
    → of_group in_group (cancelled_end o) ≡ []
end_of_another in_group None is = refl
end_of_another in_group (Some d) is = ap (λ b. if b then Move.end_with Cancelled d ∷ [] else []) (is d refl)

pub begins_in_group : (in_group : Holder → Bool) (h : Holder) (moves : List Move) → in_group h ≡ true → BeginsWith (Move.stop h ∷ []) moves
    → BeginsWith (Move.stop h ∷ []) (of_group in_group moves)
begins_in_group in_group h moves is begins = (
  of_group in_group begins.0,
  ap (of_group in_group) begins.1
      ∙ ap (λ b. if b then Move.stop h ∷ of_group in_group begins.0 else of_group in_group begins.0) is,
)
