-- The first holder of a kind in a group is the one in the group's slot, since there is at most one.
use Rattle.std.specs.Prelude.{◌≡◌, ◌↔◌, ◌<◌, ◌≤◌, ◌&&◌, ◌||◌, List, [], ◌∷◌, length, find, not, Bool, true, false, Option, None, Some, IfSome, is_some, if◌then◌else◌, refl}
use Rattle.std.specs.List.{AllByRecursion, list_any}
use Rattle.std.specs.Option.{option_map_or}
use Rattle.std.proofs.Common.{arith, ap, ap₂, sym, ◌∙◌}
use Rattle.std.proofs.lemmas.Bool.{true≢false}
use Rattle.definitions.specs.Limits.{max_runs}
use Rattle.group_book.specs.Books.{slot_in}
use Rattle.group_book.proofs.Exact.{it_is_in}
use Rattle.group_name.specs.Group.{Group}
use Rattle.table_model.specs.Groups.{cancels_in_progress, group_at}
use Rattle.table_model.specs.GroupLaw.{same_holder}
use Rattle.table_model.specs.Groups.{all_holders, holds, is_in_progress_in, is_pending_in, is_taken, may_start, waits}
use Rattle.table_model.specs.inner.Holders.{first_conflicting, is_conflicting}
use Rattle.table_model.specs.Holders.{run_of}
use Rattle.table_model.specs.inner.Resuming.{finds_others, makes_room}
use Rattle.table_model.specs.Runs.{RunState}
use Rattle.table_model.specs.declared.holder.Holder.{Holder}
use Rattle.table_model.specs.declared.holder.HolderFilter.TheVariants.{InProgress, OthersPending}
use Rattle.settling_laws.proofs.ArrivalKeeps.{holder_tested}
use Rattle.settling_laws.proofs.OneEach.{each_holder}
use Rattle.table_runs.specs.inner.GroupsKept.{AreExact, is_there}
use Rattle.table_runs.proofs.GroupsHeld.{Entries, taken_by_slot}
use Rattle.table_runs.proofs.HoldersThere.{one_of, there_if_holds, there_if_waits, within_there}

-- ---- a test that at most one holder passes

none_pass : {X : Type 0} (test : X → Bool) (xs : List X) → list_any test xs ≡ false → AllByRecursion (λ x. test x ≡ false) xs
none_pass test [] e = tt
none_pass test (x ∷ xs) e =
    elim (test x) as (λ b. test x ≡ b → (b || list_any test xs) ≡ false → AllByRecursion (λ y. test y ≡ false) (x ∷ xs)) [
      | true ↦ λ is none. absurd (true≢false none)
      | false ↦ λ is none. (is, none_pass test xs none)
    ] refl e

no_such : {X : Type 0} (x : X) → None ≡ Some x → ⊥
no_such x e = cc

same_one : {X : Type 0} (x y : X) → Some x ≡ Some y → x ≡ y
same_one x y e = cc

module _ (runs : List RunState) (test : Holder → Bool) (there : (h : Holder) → test h ≡ true → is_there runs h ≡ true) where
  passes_somewhere : (h : Holder) → test h ≡ true → (b : Bool) → list_any test (all_holders runs) ≡ b → b ≡ true
  passes_somewhere h is true any = refl
  passes_somewhere h is false none =
      absurd (true≢false
      (sym is
      ∙ each_holder (λ k. test k ≡ false) runs h (none_pass test (all_holders runs) none) (one_of runs h (there h is))))

  found_one : (h : Holder) → ((k : Holder) → test k ≡ true → k ≡ h) → (hs : List Holder) → list_any test hs ≡ true → find test hs ≡ Some h
  found_one h only [] any = cc
  found_one h only (k ∷ hs) any =
      elim (test k) as (λ b. test k ≡ b → (b || list_any test hs) ≡ true → (if b then Some k else find test hs) ≡ Some h) [
        | true ↦ λ is it. ap Some (only k is)
        | false ↦ λ is it. found_one h only hs it
      ] refl any

  found_none : ((k : Holder) → test k ≡ true → ⊥) → (hs : List Holder) → find test hs ≡ None
  found_none nobody [] = refl
  found_none nobody (k ∷ hs) =
      elim (test k) as (λ b. test k ≡ b → (if b then Some k else find test hs) ≡ None) [
        | true ↦ λ is. absurd (nobody k is)
        | false ↦ λ is. found_none nobody hs
      ] refl

  pub found_by : (place : Option Holder) → ((h : Holder) → (place ≡ Some h) ↔ (test h ≡ true)) → place ≡ find test (all_holders runs)
  found_by None exact = sym (found_none (λ k is. no_such k ((exact k).1 is)) (all_holders runs))
  found_by (Some h) exact =
      sym (found_one h (λ k is. sym (same_one h k ((exact k).1 is))) (all_holders runs)
      (passes_somewhere h ((exact h).0 refl) (list_any test (all_holders runs)) refl))

-- ---- the slot of a group

module _ (runs : List RunState) (entries : Entries) (exact : AreExact runs entries) (g : Group) where
  pub in_progress_found : (slot_in entries g).in_progress ≡ find (is_in_progress_in runs g) (all_holders runs)
  in_progress_found =
      found_by runs (is_in_progress_in runs g) (λ h e. there_if_holds runs h (it_is_in (group_at runs) (holds runs) g h e))
      (slot_in entries g).in_progress (exact.in_progress g)

  pub pending_found : (slot_in entries g).pending ≡ find (is_pending_in runs g) (all_holders runs)
  pending_found =
      found_by runs (is_pending_in runs g) (λ h e. there_if_waits runs h (it_is_in (group_at runs) (waits runs) g h e))
      (slot_in entries g).pending (exact.pending g)

  pub in_progress_within : (o : Option Holder) → o ≡ (slot_in entries g).in_progress → IfSome o (λ h. run_of h < length runs)
  in_progress_within None is = tt
  in_progress_within (Some h) is =
      within_there runs h (there_if_holds runs h (it_is_in (group_at runs) (holds runs) g h ((exact.in_progress g h).0 (sym is))))

  pub pending_within : (o : Option Holder) → o ≡ (slot_in entries g).pending → IfSome o (λ h. run_of h < length runs)
  pending_within None is = tt
  pending_within (Some h) is =
      within_there runs h (there_if_waits runs h (it_is_in (group_at runs) (waits runs) g h ((exact.pending g h).0 (sym is))))

  -- a newcomer that does not wait is no pending holder
  others_are_all : (newcomer : Holder) → waits runs newcomer ≡ false → (h : Holder)
      → (is_pending_in runs g h && not (same_holder h newcomer)) ≡ is_pending_in runs g h
  others_are_all newcomer not_yet h = by (is_pending_in runs g h) (same_holder h newcomer) refl refl
    where
      by : (b c : Bool) → is_pending_in runs g h ≡ b → same_holder h newcomer ≡ c → (b && not c) ≡ b
      by false c pending same = refl
      by true false pending same = refl
      by true true pending same =
          absurd (true≢false
          (sym (it_is_in (group_at runs) (waits runs) g h pending) ∙ ap (waits runs) (holder_tested h newcomer same) ∙ not_yet))

pub most_within : (runs : List RunState) (o : Option Holder) → length runs ≤ max_runs → IfSome o (λ h. run_of h < length runs)
    → IfSome o (λ h. run_of h < max_runs)
most_within runs None most within = tt
most_within runs (Some h) most within = omega (arith, most, within)

-- ---- whether a holder may start, by its key

pub may_start_by : (runs : List RunState) (entries : Entries) → AreExact runs entries → (h : Holder) (key : Option Group)
    → key ≡ group_at runs h
    → may_start runs h ≡ option_map_or (λ g. not (is_some (slot_in entries g).in_progress)) key true
may_start_by runs entries exact h None is = ap (λ o. option_map_or (λ g. not (is_taken runs g)) o true) (sym is)
may_start_by runs entries exact h (Some g) is =
    ap (λ o. option_map_or (λ k. not (is_taken runs k)) o true) (sym is) ∙ ap not (taken_by_slot runs entries exact g)

-- ---- whether a newcomer affects others, by its key

pub find_same : {X : Type 0} (p q : X → Bool) → ((x : X) → p x ≡ q x) → (xs : List X) → find p xs ≡ find q xs
find_same p q same [] = refl
find_same {X} p q same (x ∷ xs) =
    ap₂ (λ b (o : Option X). if b then Some x else o) (same x) (find_same p q same xs)

abbrev pub affects_by : Entries → Bool → Option Group → Bool
affects_by entries cancels key =
    option_map_or (λ g. is_some (slot_in entries g).pending || (cancels && is_some (slot_in entries g).in_progress)) key false

pub makes_room_by : (runs : List RunState) (entries : Entries) → AreExact runs entries → (h : Holder) (key : Option Group)
    → key ≡ group_at runs h → waits runs h ≡ false → makes_room runs h ≡ affects_by entries (cancels_in_progress runs h) key
makes_room_by runs entries exact h None is not_yet = ap (λ o. is_some o && finds_others runs h) (sym is)
makes_room_by runs entries exact h (Some g) is not_yet =
    let its : group_at runs h ≡ Some g = sym is in
    let pending : first_conflicting runs h OthersPending ≡ (slot_in entries g).pending =
    find_same (is_conflicting runs h OthersPending) (is_pending_in runs g)
    (λ k. ap (λ o. option_map_or (λ v. is_pending_in runs v k && not (same_holder k h)) o false) its
    ∙ others_are_all runs entries exact g h not_yet k) (all_holders runs)
    ∙ sym (pending_found runs entries exact g) in
    let in_progress : first_conflicting runs h InProgress ≡ (slot_in entries g).in_progress =
    find_same (is_conflicting runs h InProgress) (is_in_progress_in runs g)
    (λ k. ap (λ o. option_map_or (λ v. is_in_progress_in runs v k) o false) its) (all_holders runs)
    ∙ sym (in_progress_found runs entries exact g) in
    ap (λ o. is_some o && finds_others runs h) its
    ∙ ap₂ (λ a b. is_some a || (cancels_in_progress runs h && is_some b)) pending in_progress
