-- The book of a table's groups stays exact where nobody changes, where a holder that waits begins, and where a holder ends.
use Rattle.std.specs.Prelude.{◌≡◌, ◌≤◌, ◌||◌, List, [], ◌∷◌, Bool, true, false, not, Option, None, Some, if◌then◌else◌, is_some, refl}
use Rattle.std.specs.List.{list_any}
use Rattle.std.specs.Option.{option_map_or}
use Rattle.std.proofs.Common.{ap, subst, sym, ◌∙◌}
use Rattle.std.proofs.lemmas.Bool.{not-true}
use Rattle.group_book.specs.Books.{BookState, Puts, slot_in}
use Rattle.group_book.specs.Slots.{HasLost, begun}
use Rattle.group_book.specs.declared.slot.Slot.{Slot}
use Rattle.group_book.proofs.Exact.{exact_beside, exact_come, exact_left, exact_within, in_no_place, not_of_kind, put_here}
use Rattle.group_name.specs.Group.{Group, same_group}
use Rattle.group_name.proofs.SameGroups.{own_group}
use Rattle.table_model.specs.Groups.{group_at, all_holders, holds, is_in_progress_in, is_taken, may_start, waits}
use Rattle.table_model.specs.Runs.{RunState}
use Rattle.table_model.specs.declared.holder.Holder.{Holder}
use Rattle.table_model.specs.declared.holder.Holder.TheVariants.{Leg}
use Rattle.table_bindings.specs.declared.bindings.RunBindings.{RunBindings}
use Rattle.settling_laws.proofs.OneEach.{not_taken}
use Rattle.table_runs.specs.inner.BookSteps.{Begins, HasLeftGroup, Leaves}
use Rattle.table_runs.specs.inner.GroupsKept.{AreExact, AreTold, GroupsAreKept, arrivals_to_come}
use Rattle.table_runs.specs.inner.HolderChanges.{ChangesNobody, EndsOnly, SameHolders, StartsOnly}
use Rattle.table_runs.proofs.HoldersThere.{holds_not, tells, there_if_holds, there_if_new, there_if_waits}

abbrev pub Entries : Type 0
Entries = List (Group × Slot Holder)

-- ---- what runs and legs know

pub told_within : (old new : List RunState) (bindings : List RunBindings) → SameHolders old new → AreTold old bindings → AreTold new bindings
told_within old new bindings same told = record {
  groups = (λ h there.
      let was = same.there h there in
      let knew = told.groups h was in
      record {
        group = knew.group ∙ sym (same.group h was);
        cancels = λ known is. knew.cancels known is ∙ sym (same.cancels h was);
      });
  tickets = (λ p is_new.
      let was = same.new_legs p is_new in told.tickets p was ∙ sym (same.group (Leg p) (there_if_new old p was)));
  room = (λ r j kept legs blocked at here. told.room r j kept legs (same.blocked r j blocked) at here);
  shaped = told.shaped;
}

-- ---- nobody changes

module _ (old new : List RunState) (entries : Entries) (changes : ChangesNobody old new) (exact : AreExact old entries) where
  pub exact_where_nobody : AreExact new entries
  exact_where_nobody = record {
    pending = exact_within tells (group_at old) (group_at new) (waits old) (waits new) (λ g. (slot_in entries g).pending)
        (λ h. ((changes.stay h).waits, λ is. changes.same.group h (there_if_waits old h is))) exact.pending;
    in_progress = exact_within tells (group_at old) (group_at new) (holds old) (holds new) (λ g. (slot_in entries g).in_progress)
        (λ h. ((changes.stay h).holds, λ is. changes.same.group h (there_if_holds old h is))) exact.in_progress;
  }

pub kept_where_nobody : (old new : List RunState) (bindings : List RunBindings) (book : BookState Holder) → ChangesNobody old new
    → GroupsAreKept old bindings book → GroupsAreKept new bindings book
kept_where_nobody old new bindings book changes kept = record {
  exact = exact_where_nobody old new book.entries changes kept.exact;
  told = told_within old new bindings changes.same kept.told;
  expected = kept.expected;
}

-- ---- the slot of a holder

module _ (runs : List RunState) (entries : Entries) (exact : AreExact runs entries) where
  pub pending_slot : (g : Group) (h : Holder) → group_at runs h ≡ Some g → waits runs h ≡ true → (slot_in entries g).pending ≡ Some h
  pending_slot g h group is = (exact.pending g h).1 (put_here (group_at runs) (waits runs) g h group is)

  pub in_progress_slot : (g : Group) (h : Holder) → group_at runs h ≡ Some g → holds runs h ≡ true
      → (slot_in entries g).in_progress ≡ Some h
  in_progress_slot g h group is = (exact.in_progress g h).1 (put_here (group_at runs) (holds runs) g h group is)

  free_in : (g : Group) (o : Option Holder) → (slot_in entries g).in_progress ≡ o → is_taken runs g ≡ false → o ≡ None
  free_in g None at free = refl
  free_in g (Some h) at free = absurd (not_taken runs g h free ((exact.in_progress g h).0 at))

  -- nobody is in progress in the group of a holder that may start
  pub free_slot : (g : Group) (h : Holder) → group_at runs h ≡ Some g → may_start runs h ≡ true → (slot_in entries g).in_progress ≡ None
  free_slot g h group may =
      let free = not-true (is_taken runs g) (sym (ap (λ o. option_map_or (λ k. not (is_taken runs k)) o true) group) ∙ may) in
      free_in g (slot_in entries g).in_progress refl free

-- ---- a holder begins

begun_lost : (one : Holder) (place : Option Holder) → place ≡ Some one → HasLost one place None
begun_lost one place was k = ((λ e. absurd (none_is e)), (λ both. absurd (both.1 (it (sym was ∙ both.0)))))
  where
    none_is : None ≡ Some k → ⊥
    none_is e = cc

    it : Some one ≡ Some k → k ≡ one
    it e = cc

module _ (old new : List RunState) (before after : Entries) (one : Holder) (starts : StartsOnly one old new) (exact : AreExact old before) where
  begun_others : (h : Holder) → (h ≡ one → ⊥) → (waits new h ≡ waits old h) × (waits old h ≡ true → group_at new h ≡ group_at old h)
  begun_others h other = ((starts.others h other).waits, λ is. starts.same.group h (there_if_waits old h is))

  begun_others_held : (h : Holder) → (h ≡ one → ⊥) → (holds new h ≡ holds old h) × (holds old h ≡ true → group_at new h ≡ group_at old h)
  begun_others_held h other = ((starts.others h other).holds, λ is. starts.same.group h (there_if_holds old h is))

  same_group_of_one : group_at new one ≡ group_at old one
  same_group_of_one = starts.same.group one (there_if_waits old one starts.waited)

  begun_alone : group_at old one ≡ None → after ≡ before → AreExact new after
  begun_alone none same = record {
    pending = exact_beside tells (group_at old) (group_at new) (waits old) (waits new) (λ g. (slot_in before g).pending)
        (λ g. (slot_in after g).pending) one exact.pending begun_others (in_no_place (group_at old) (waits old) one none)
        (in_no_place (group_at new) (waits new) one (same_group_of_one ∙ none))
        (λ g. ap (λ (es : Entries). (slot_in es g).pending) same);
    in_progress = exact_beside tells (group_at old) (group_at new) (holds old) (holds new) (λ g. (slot_in before g).in_progress)
        (λ g. (slot_in after g).in_progress) one exact.in_progress begun_others_held (in_no_place (group_at old) (holds old) one none)
        (in_no_place (group_at new) (holds new) one (same_group_of_one ∙ none))
        (λ g. ap (λ (es : Entries). (slot_in es g).in_progress) same);
  }

  module _ (group : Group) (its : group_at old one ≡ Some group) (puts : Puts group (begun (slot_in before group)) before after) where
    begun_here : slot_in after group ≡ begun (slot_in before group)
    begun_here = puts group ∙ ap (λ b. if b then begun (slot_in before group) else slot_in before group) (own_group group)

    begun_elsewhere : (k : Group) → same_group group k ≡ false → slot_in after k ≡ slot_in before k
    begun_elsewhere k apart = puts k ∙ ap (λ b. if b then begun (slot_in before group) else slot_in before k) apart

    was_pending : (slot_in before group).pending ≡ Some one
    was_pending = pending_slot old before exact group one its starts.waited

    begun_in_group : AreExact new after
    begun_in_group = record {
      pending = exact_left tells (group_at old) (group_at new) (waits old) (waits new) (λ g. (slot_in before g).pending)
          (λ g. (slot_in after g).pending) one exact.pending begun_others group
          (λ k apart. ap (λ (s : Slot Holder). s.pending) (begun_elsewhere k apart)) starts.waits_not its
          (subst (HasLost one (slot_in before group).pending) (sym (ap (λ (s : Slot Holder). s.pending) begun_here))
          (begun_lost one (slot_in before group).pending was_pending));
      in_progress = exact_come tells (group_at old) (group_at new) (holds old) (holds new) (λ g. (slot_in before g).in_progress)
          (λ g. (slot_in after g).in_progress) one exact.in_progress begun_others_held group
          (λ k apart. ap (λ (s : Slot Holder). s.in_progress) (begun_elsewhere k apart)) starts.holds_now (same_group_of_one ∙ its)
          (holds_not old one starts.waited) (free_slot old before exact group one its starts.may)
          (ap (λ (s : Slot Holder). s.in_progress) begun_here ∙ was_pending);
    }

  pub exact_started : (key : Option Group) → key ≡ group_at old one → Begins key before after → AreExact new after
  exact_started None is same = begun_alone (sym is) same
  exact_started (Some g) is puts = begun_in_group g (sym is) puts

pub kept_started : (old new : List RunState) (bindings : List RunBindings) (before after : BookState Holder) (one : Holder) (key : Option Group)
    → StartsOnly one old new → key ≡ group_at old one → Begins key before.entries after.entries → after.expected ≡ before.expected
    → GroupsAreKept old bindings before → GroupsAreKept new bindings after
kept_started old new bindings before after one key starts is begins expected kept = record {
  exact = exact_started old new before.entries after.entries one starts kept.exact key is begins;
  told = told_within old new bindings starts.same kept.told;
  expected = subst (λ n. arrivals_to_come bindings ≤ n) (sym expected) kept.expected;
}

-- ---- a holder ends

module _ (old new : List RunState) (before after : Entries) (one : Holder) (ends : EndsOnly one old new) (exact : AreExact old before) where
  ended_others : (h : Holder) → (h ≡ one → ⊥) → (waits new h ≡ waits old h) × (waits old h ≡ true → group_at new h ≡ group_at old h)
  ended_others h other = ((ends.others h other).waits, λ is. ends.same.group h (there_if_waits old h is))

  ended_others_held : (h : Holder) → (h ≡ one → ⊥) → (holds new h ≡ holds old h) × (holds old h ≡ true → group_at new h ≡ group_at old h)
  ended_others_held h other = ((ends.others h other).holds, λ is. ends.same.group h (there_if_holds old h is))

  ended_alone : group_at old one ≡ None → after ≡ before → AreExact new after
  ended_alone none same = record {
    pending = exact_beside tells (group_at old) (group_at new) (waits old) (waits new) (λ g. (slot_in before g).pending)
        (λ g. (slot_in after g).pending) one exact.pending ended_others (in_no_place (group_at old) (waits old) one none)
        (not_of_kind (group_at new) (waits new) one ends.waits_not) (λ g. ap (λ (es : Entries). (slot_in es g).pending) same);
    in_progress = exact_beside tells (group_at old) (group_at new) (holds old) (holds new) (λ g. (slot_in before g).in_progress)
        (λ g. (slot_in after g).in_progress) one exact.in_progress ended_others_held (in_no_place (group_at old) (holds old) one none)
        (not_of_kind (group_at new) (holds new) one ends.holds_not) (λ g. ap (λ (es : Entries). (slot_in es g).in_progress) same);
  }

  ended_in_group : (group : Group) (next : Option Holder) → group_at old one ≡ Some group → HasLeftGroup group one before after next
      → AreExact new after
  ended_in_group group next its leaves = record {
    pending = exact_left tells (group_at old) (group_at new) (waits old) (waits new) (λ g. (slot_in before g).pending)
        (λ g. (slot_in after g).pending) one exact.pending ended_others group
        (λ k apart. ap (λ (s : Slot Holder). s.pending) (leaves.others k apart)) ends.waits_not its leaves.left.pending;
    in_progress = exact_left tells (group_at old) (group_at new) (holds old) (holds new) (λ g. (slot_in before g).in_progress)
        (λ g. (slot_in after g).in_progress) one exact.in_progress ended_others_held group
        (λ k apart. ap (λ (s : Slot Holder). s.in_progress) (leaves.others k apart)) ends.holds_not its leaves.left.in_progress;
  }

  pub exact_ended : (key : Option Group) (next : Option Holder) → key ≡ group_at old one → Leaves key one before after next → AreExact new after
  exact_ended None next is leaves = ended_alone (sym is) leaves.0
  exact_ended (Some g) next is leaves = ended_in_group g next (sym is) leaves

pub kept_ended : (old new : List RunState) (bindings : List RunBindings) (before after : BookState Holder) (one : Holder) (key : Option Group)
    (next : Option Holder) → EndsOnly one old new → key ≡ group_at old one → Leaves key one before.entries after.entries next
    → after.expected ≡ before.expected → GroupsAreKept old bindings before → GroupsAreKept new bindings after
kept_ended old new bindings before after one key next ends is leaves expected kept = record {
  exact = exact_ended old new before.entries after.entries one ends kept.exact key next is leaves;
  told = told_within old new bindings ends.same kept.told;
  expected = subst (λ n. arrivals_to_come bindings ≤ n) (sym expected) kept.expected;
}

-- ---- whether a group is taken, by its slot

some_any : {X : Type 0} (test : X → Bool) (xs : List X) → (list_any test xs ≡ false → ⊥) → list_any test xs ≡ true
some_any test xs not_none = by (list_any test xs) refl
  where
    by : (b : Bool) → list_any test xs ≡ b → b ≡ true
    by true is = refl
    by false is = absurd (not_none is)

pub any_one : {X : Type 0} (test : X → Bool) (xs : List X) → list_any test xs ≡ true → (x : X) × (test x ≡ true)
any_one test [] e = cc
any_one {X} test (x ∷ xs) e =
    elim (test x) as (λ b. test x ≡ b → (b || list_any test xs) ≡ true → (y : X) × (test y ≡ true)) [
      | true ↦ λ is it. (x, is)
      | false ↦ λ is it. any_one test xs it
    ] refl e

empty_place : {X : Type 0} (x : X) → None ≡ Some x → ⊥
empty_place x e = cc

module _ (runs : List RunState) (entries : Entries) (exact : AreExact runs entries) (g : Group) where
  nobody_there : (slot_in entries g).in_progress ≡ None → (b : Bool) → is_taken runs g ≡ b → b ≡ false
  nobody_there free false is = refl
  nobody_there free true is =
      let one = any_one (is_in_progress_in runs g) (all_holders runs) is in
      absurd (empty_place one.0 (sym free ∙ (exact.in_progress g one.0).1 one.1))

  taken_by : (o : Option Holder) → (slot_in entries g).in_progress ≡ o → is_taken runs g ≡ is_some o
  taken_by (Some h) at = some_any (is_in_progress_in runs g) (all_holders runs) (λ free. not_taken runs g h free ((exact.in_progress g h).0 at))
  taken_by None at = nobody_there at (is_taken runs g) refl

  pub taken_by_slot : is_taken runs g ≡ is_some (slot_in entries g).in_progress
  taken_by_slot = taken_by (slot_in entries g).in_progress refl
