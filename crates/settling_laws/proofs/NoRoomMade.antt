-- A newcomer that affects no other holder of its group leaves all others as they are.
use Rattle.std.specs.Prelude.{◌≡◌, List, [], ◌∷◌, ◌&&◌, Bool, true, false, filter, is_some, not, Option, Some, None, if◌then◌else◌, refl}
use Rattle.std.specs.Option.{option_map_or}
use Rattle.std.proofs.Common.{ap, sym, ◌∙◌}
use Rattle.std.proofs.lemmas.Bool.{and_from, and_parts, or_parts, true≢false}
use Rattle.group_name.specs.Group.{Group}
use Rattle.table_model.specs.Settling.{displaced, room_made, room_made_for, stopped_where_requested}
use Rattle.table_model.specs.Groups.{cancels_in_progress, group_at, all_holders, holds, is_in, is_pending_in, is_in_progress_in, waits}
use Rattle.table_model.specs.GroupLaw.{same_holder, at_each, without_moves}
use Rattle.table_model.specs.inner.Holders.{first_conflicting, is_conflicting}
use Rattle.table_model.specs.inner.Resuming.{finds_others, makes_room}
use Rattle.table_model.specs.Runs.{RunState}
use Rattle.table_model.specs.Stops.{displace, stop_holder}
use Rattle.table_model.specs.declared.holder.HolderFilter.{HolderFilter}
use Rattle.table_model.specs.declared.holder.HolderFilter.TheVariants.{OthersPending, InProgress}
use Rattle.table_model.proofs.Found.{none_found}
use Rattle.settling_laws.proofs.Arrives.{no_other}
use Rattle.settling_laws.proofs.Meant.{nothing_yet}
use Rattle.settling_laws.proofs.OneEach.{Comes, GroupsStay, IsOneOf, each_holder, one_that_holds, one_that_waits, ran_too, was_another}
use Rattle.table_model.specs.declared.holder.Holder.{Holder}

filtered_none : {X : Type 0} (test : X → Bool) (xs : List X) → ((x : X) → test x ≡ false) → filter test xs ≡ []
filtered_none test [] none = refl
filtered_none test (x ∷ xs) none =
    ap (λ b. if b then x ∷ filter test xs else filter test xs) (none x) ∙ filtered_none test xs none

-- ---- in its group, if it has one

module _ (runs next : List RunState) (newcomer : Holder) (stays : GroupsStay runs next) (comes : Comes runs next newcomer) (g : Group)
    (its : group_at runs newcomer ≡ Some g) where
  -- if none is found, no holder conflicts
  nobody_meant : (holder_filter : HolderFilter) → is_some (first_conflicting runs newcomer holder_filter) ≡ false → (h : Holder) → IsOneOf runs h
      → is_conflicting runs newcomer holder_filter h ≡ false
  nobody_meant holder_filter none h there =
      each_holder (λ k. is_conflicting runs newcomer holder_filter k ≡ false) runs h
      (none_found (is_conflicting runs newcomer holder_filter) (all_holders runs) (nothing_yet (first_conflicting runs newcomer holder_filter) none)) there

  no_other_pends : is_some (first_conflicting runs newcomer OthersPending) ≡ false → (h : Holder)
      → (is_pending_in next g h && not (same_holder h newcomer)) ≡ false
  no_other_pends none h =
      elim (is_pending_in next g h && not (same_holder h newcomer)) as
      (λ b. (is_pending_in next g h && not (same_holder h newcomer)) ≡ b → b ≡ false) [
        | true ↦ λ is.
            let parts = and_parts (is_pending_in next g h) (not (same_holder h newcomer)) is in
            let was = was_another runs next newcomer stays comes g h (no_other h newcomer parts.1) parts.0 in
            let there = one_that_waits runs h (and_parts (is_in runs g h) (waits runs h) was).1 in
            let meant : is_conflicting runs newcomer OthersPending h ≡ true =
            ap (λ o. option_map_or (λ v. is_pending_in runs v h && not (same_holder h newcomer)) o false) its
            ∙ and_from (is_pending_in runs g h) (not (same_holder h newcomer)) was parts.1 in
            absurd (true≢false (sym meant ∙ nobody_meant OthersPending none h there))
        | false ↦ λ is. refl
      ] refl

  none_in_progress : is_some (first_conflicting runs newcomer InProgress) ≡ false → (h : Holder) → is_in_progress_in next g h ≡ false
  none_in_progress none h =
      elim (is_in_progress_in next g h) as (λ b. is_in_progress_in next g h ≡ b → b ≡ false) [
        | true ↦ λ is.
            let was = ran_too runs next newcomer stays comes g h is in
            let there = one_that_holds runs h (and_parts (is_in runs g h) (holds runs h) was).1 in
            let meant : is_conflicting runs newcomer InProgress h ≡ true =
            ap (λ o. option_map_or (λ v. is_in_progress_in runs v h) o false) its ∙ was in
            absurd (true≢false (sym meant ∙ nobody_meant InProgress none h there))
        | false ↦ λ is. refl
      ] refl

  nobody_displaced : is_some (first_conflicting runs newcomer OthersPending) ≡ false → (displaced g newcomer next).runs ≡ next
  nobody_displaced none =
      ap (λ hs. (at_each displace hs next).runs)
      (filtered_none (λ h. is_pending_in next g h && not (same_holder h newcomer)) (all_holders next) (no_other_pends none))

  nobody_stopped : (cancels : Bool) → (cancels && is_some (first_conflicting runs newcomer InProgress)) ≡ false
      → (stopped_where_requested cancels g next).runs ≡ next
  nobody_stopped true none =
      ap (λ hs. (at_each stop_holder hs next).runs) (filtered_none (is_in_progress_in next g) (all_holders next) (none_in_progress none))
  nobody_stopped false none = refl

  no_room_in : finds_others runs newcomer ≡ false → (room_made (cancels_in_progress runs newcomer) newcomer next g).runs ≡ next
  no_room_in none =
      let cancels = cancels_in_progress runs newcomer in
      let parts = or_parts (is_some (first_conflicting runs newcomer OthersPending))
      (cancels && is_some (first_conflicting runs newcomer InProgress)) none in
      ap (λ rs. (stopped_where_requested cancels g rs).runs) (nobody_displaced parts.0) ∙ nobody_stopped cancels parts.1

-- ---- with or without a group

pub no_room_made : (runs next : List RunState) (newcomer : Holder) → GroupsStay runs next → Comes runs next newcomer
    → group_at next newcomer ≡ group_at runs newcomer → cancels_in_progress next newcomer ≡ cancels_in_progress runs newcomer
    → makes_room runs newcomer ≡ false → (room_made_for newcomer next).runs ≡ next
no_room_made runs next newcomer stays comes group cancels none =
    ap (λ o. (option_map_or (room_made (cancels_in_progress next newcomer) newcomer next) o (without_moves next)).runs) group
    ∙ ap (λ b. (option_map_or (room_made b newcomer next) (group_at runs newcomer) (without_moves next)).runs) cancels
    ∙ by (group_at runs newcomer) refl none
  where
    by : (o : Option Group) → group_at runs newcomer ≡ o → (is_some o && finds_others runs newcomer) ≡ false
        → (option_map_or (room_made (cancels_in_progress runs newcomer) newcomer next) o (without_moves next)).runs ≡ next
    by None its none = refl
    by (Some g) its none = no_room_in runs next newcomer stays comes g its none
