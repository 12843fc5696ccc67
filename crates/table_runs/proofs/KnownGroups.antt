-- What a run or a leg finds in its group, by the key that is kept for it.
use Rattle.std.specs.Prelude.{◌≡◌, ◌&&◌, ◌||◌, List, not, Bool, true, false, Option, None, Some, is_some, refl}
use Rattle.std.proofs.Common.{ap, sym, ◌∙◌}
use Rattle.group_book.specs.Books.{BookState, slot_in}
use Rattle.group_name.specs.Group.{Group}
use Rattle.table_model.specs.Groups.{cancels_in_progress, group_at, may_start, waits}
use Rattle.table_model.specs.inner.Resuming.{makes_room}
use Rattle.table_model.specs.Runs.{RunState}
use Rattle.table_model.specs.declared.holder.Holder.{Holder}
use Rattle.table_bindings.specs.declared.bindings.RunBindings.{RunBindings}
use Rattle.table_bindings.specs.declared.group_keys.HolderKey.TheVariants.{Known}
use Rattle.table_bindings.specs.declared.group_keys.KnownGroup.{KnownGroup}
use Rattle.table_runs.specs.inner.GroupsKept.{GroupsAreKept, is_there}
use Rattle.table_runs.specs.inner.RowsKept.{holder_key_at, key_at}
use Rattle.table_runs.proofs.ArrivalEnds.{its_flag}
use Rattle.table_runs.proofs.FoundBySlot.{makes_room_by, may_start_by}

pub the_other : (a b : Bool) → a ≡ not b → b ≡ not a
the_other true true e = e
the_other true false e = refl
the_other false true e = refl
the_other false false e = e

module _ (runs : List RunState) (bindings : List RunBindings) (book : BookState Holder) (kept : GroupsAreKept runs bindings book) (h : Holder)
    (there : is_there runs h ≡ true) where
  pub known_group : (o : Option Group) → o ≡ key_at bindings h → o ≡ group_at runs h
  known_group o is = is ∙ (kept.told.groups h there).group

  pub may_start_in : (g : Group) → Some g ≡ key_at bindings h → not (is_some (slot_in book.entries g).in_progress) ≡ may_start runs h
  may_start_in g is = sym (may_start_by runs book.entries kept.exact h (Some g) (known_group (Some g) is))

  module _ (not_yet : waits runs h ≡ false) where
    pub room_alone : None ≡ key_at bindings h → false ≡ makes_room runs h
    room_alone is = sym (makes_room_by runs book.entries kept.exact h None (known_group None is) not_yet)

    module _ (g : Group) (is : Some g ≡ key_at bindings h) where
      by_slot : makes_room runs h ≡ (is_some (slot_in book.entries g).pending || (cancels_in_progress runs h && is_some (slot_in book.entries g).in_progress))
      by_slot = makes_room_by runs book.entries kept.exact h (Some g) (known_group (Some g) is) not_yet

      -- somebody is pending there
      pub room_by_pending : is_some (slot_in book.entries g).pending ≡ true → true ≡ makes_room runs h
      room_by_pending pending =
          sym (by_slot ∙ ap (λ b. b || (cancels_in_progress runs h && is_some (slot_in book.entries g).in_progress)) pending)

      -- nobody is
      pub room_by_flag : (cancels : Bool) → is_some (slot_in book.entries g).pending ≡ false
          → ((known : KnownGroup) → holder_key_at bindings h ≡ Some (Known known) → cancels ≡ known.cancels)
          → (cancels && is_some (slot_in book.entries g).in_progress) ≡ makes_room runs h
      room_by_flag cancels nobody says =
          ap (λ b. b && is_some (slot_in book.entries g).in_progress)
          (its_flag runs bindings h g cancels (kept.told.groups h there) (sym (known_group (Some g) is)) says)
          ∙ sym (by_slot ∙ ap (λ b. b || (cancels_in_progress runs h && is_some (slot_in book.entries g).in_progress)) nobody)
