-- What an arrival has done once the newcomer is entered in the book.
use Rattle.std.specs.Prelude.{◌≡◌, ◌<◌, List, Bool, true, false, Option, None, Some, if◌then◌else◌, is_some, not, option_and_then, refl}
use Rattle.std.specs.Option.{option_map_or}
use Rattle.std.proofs.Common.{arith, ap, sym, ◌∙◌}
use Rattle.std.proofs.lemmas.Bool.{and_parts}
use Rattle.group_book.specs.Books.{BookState, slot_in}
use Rattle.group_book.proofs.Exact.{it_is_in}
use Rattle.group_name.specs.Group.{Group}
use Rattle.table_model.specs.Settling.{arrived, room_made}
use Rattle.table_model.specs.Groups.{cancels_in_progress, group_at, waits}
use Rattle.table_model.specs.GroupLaw.{same_holder, without_moves}
use Rattle.table_model.specs.inner.Holders.{first_conflicting}
use Rattle.table_model.specs.Runs.{RunState}
use Rattle.table_model.specs.Sound.{RunsAreSound}
use Rattle.table_model.specs.declared.holder.Holder.{Holder}
use Rattle.table_model.specs.declared.holder.HolderFilter.TheVariants.{InProgress, OthersPending}
use Rattle.table_bindings.specs.GroupKeys.{key_in, ticket_in}
use Rattle.table_bindings.specs.declared.bindings.RunBindings.{RunBindings}
use Rattle.table_bindings.specs.declared.group_keys.HolderKey.{HolderKey}
use Rattle.table_bindings.specs.declared.group_keys.HolderKey.TheVariants.{Known, Later, NoGroup}
use Rattle.table_bindings.specs.declared.group_keys.KnownGroup.{KnownGroup}
use Rattle.table_runs.proofs.SpentKeys.{one_each}
use Rattle.settling_laws.proofs.Arrives.{arrived_by_stops}
use Rattle.table_runs.specs.inner.Arriving.{KeptBeside, stopped_if, waits_beside, with_first_stopped}
use Rattle.table_runs.specs.inner.GroupsKept.{Knows}
use Rattle.table_runs.specs.inner.RowsKept.{holder_key_at}
use Rattle.table_runs.proofs.Arriving.{has_one_beside, nobody_conflicts}
use Rattle.table_runs.proofs.SpentThere.{one_arrival_fewer}

-- ---- a holder with a group has a key that is known, with its flag

known_key : (o : Option HolderKey) (g : Group) → option_and_then key_in o ≡ Some g → (known : KnownGroup) × (o ≡ Some (Known known))
known_key None g e = cc
known_key (Some (Later room ticket)) g e = cc
known_key (Some NoGroup) g e = cc
known_key (Some (Known known)) g e = (known, refl)

pub its_flag : (runs : List RunState) (bindings : List RunBindings) (one : Holder) (g : Group) (cancels : Bool) → Knows runs bindings one
    → group_at runs one ≡ Some g → ((known : KnownGroup) → holder_key_at bindings one ≡ Some (Known known) → cancels ≡ known.cancels)
    → cancels ≡ cancels_in_progress runs one
its_flag runs bindings one g cancels knew its says =
    let known = known_key (holder_key_at bindings one) g (knew.group ∙ its) in says known.0 known.1 ∙ knew.cancels known.0 known.1

-- ---- memory for the arrival

pub may_arrive : (runs : List RunState) (bindings : List RunBindings) (book : BookState Holder) (one : Holder) (g : Group)
    → KeptBeside one runs bindings book → group_at runs one ≡ Some g → 0 < book.expected
may_arrive runs bindings book one g kept its =
    let ticket : one_each (option_and_then ticket_in (holder_key_at bindings one)) ≡ 1 = ap one_each (kept.ticket ∙ its) in
    omega (arith, one_arrival_fewer one bindings, ticket, kept.expected)

-- ---- the holder that is displaced waits

pub displaced_waits : (runs : List RunState) (bindings : List RunBindings) (book : BookState Holder) (one : Holder) (g : Group) (h : Holder)
    → KeptBeside one runs bindings book → (slot_in book.entries g).pending ≡ Some h → waits runs h ≡ true
displaced_waits runs bindings book one g h kept at =
    (and_parts (waits runs h) (not (same_holder h one)) (it_is_in (group_at runs) (waits_beside one runs) g h ((kept.exact.pending g h).0 at))).0

-- ---- the whole arrival

pub by_first_conflicts : (runs last : List RunState) (bindings : List RunBindings) (book : BookState Holder) (one : Holder) (g : Group)
    (to_stop : Option Holder) → RunsAreSound runs → waits runs one ≡ true → KeptBeside one runs bindings book → group_at runs one ≡ Some g
    → to_stop ≡ (if cancels_in_progress runs one then first_conflicting (with_first_stopped runs one OthersPending) one InProgress else None)
    → last ≡ stopped_if to_stop (with_first_stopped runs one OthersPending)
    → last ≡ (arrived one runs).runs
by_first_conflicts runs last bindings book one g to_stop sound waiting kept its found is =
    let mid = with_first_stopped runs one OthersPending in
    arrived_by_stops runs mid last one (cancels_in_progress runs one) (ap (λ (o : Option Group). is_some o) its) waiting sound
    (has_one_beside runs book.entries one kept.exact) refl refl
    (is ∙ by (cancels_in_progress runs one) to_stop found)
  where
    by : (b : Bool) (o : Option Holder) → o ≡ (if b then first_conflicting (with_first_stopped runs one OthersPending) one InProgress else None)
        → stopped_if o (with_first_stopped runs one OthersPending)
        ≡ (if b then with_first_stopped (with_first_stopped runs one OthersPending) one InProgress else with_first_stopped runs one OthersPending)
    by true o e = ap (λ u. stopped_if u (with_first_stopped runs one OthersPending)) e
    by false o e = ap (λ u. stopped_if u (with_first_stopped runs one OthersPending)) e

-- without a group nobody else changes
nobody_stopped : (runs : List RunState) (one : Holder) → group_at runs one ≡ None → with_first_stopped runs one OthersPending ≡ runs
nobody_stopped runs one none = ap (λ o. stopped_if o runs) (nobody_conflicts runs one none)

pub arrives_alone : (runs last : List RunState) (one : Holder) → group_at runs one ≡ None
    → last ≡ with_first_stopped runs one OthersPending → last ≡ (arrived one runs).runs
arrives_alone runs last one none is =
    is ∙ nobody_stopped runs one none
    ∙ sym (ap (λ o. (option_map_or (room_made (cancels_in_progress runs one) one runs) o (without_moves runs)).runs) none)
