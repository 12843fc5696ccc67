-- The runs of a table that was stored: those in progress take their places, then those that are pending, and the book has exactly the
-- holders of the table.
use Rattle.std.specs.Prelude.{◌≡◌, ◌<◌, ◌&&◌, ℕ, List, [], length, Bool, true, false, None, Some, option_and_then, refl}
use Rattle.std.proofs.Common.{ap, subst, sym, ◌∙◌}
use Rattle.std.proofs.lemmas.Bool.{and_parts, true≢false}
use Rattle.std.proofs.lemmas.Option.{slice_get_within}
use Rattle.group_book.specs.Books.{BookState, slot_in}
use Rattle.group_name.specs.Group.{Group}
use Rattle.run_marks.specs.Marked.{Covers, is_marked}
use Rattle.table_model.specs.Groups.{HasOneEach, holds, is_in, waits}
use Rattle.table_model.specs.Runs.{RunState}
use Rattle.table_model.specs.declared.holder.Holder.{Holder}
use Rattle.table_bindings.specs.GroupKeys.{ticket_in}
use Rattle.table_bindings.specs.declared.bindings.RunBindings.{RunBindings}
use Rattle.table_runs.specs.inner.GroupsKept.{AreExact, GroupsAreKept}
use Rattle.table_runs.specs.inner.MarkedRuns.{AreMarked, is_due}
use Rattle.table_runs.specs.inner.RowsKept.{RowState}
use Rattle.table_runs.specs.inner.Seating.{AreApart, AreSeated, AreStored, HasSeats, HaveKeys, OneIsTaken, TakeSeats, in_slot, is_of}
use Rattle.table_runs.specs.declared.runs.of.GroupSlot.{GroupSlot}
use Rattle.table_runs.specs.declared.runs.of.GroupSlot.TheVariants.{InProgress, Pending}
use Rattle.table_runs.proofs.GroupsHeld.{Entries}
use Rattle.table_runs.proofs.HoldersThere.{holds_not, there_if_holds, there_if_waits}
use Rattle.table_runs.proofs.Seating.{all_seated}

abbrev nobody : Holder → Bool
nobody h = false

abbrev everybody : Holder → Bool
everybody h = true

no_such : (h : Holder) → None ≡ Some h → ⊥
no_such h e = cc

and_no : (a b : Bool) → (a && (b && false)) ≡ true → ⊥
and_no true true e = true≢false (sym e)
and_no true false e = true≢false (sym e)
and_no false b e = true≢false (sym e)

-- a place that nobody has
none_seated : (slot : GroupSlot) (runs : List RunState) (entries : Entries) → ((g : Group) → in_slot slot (slot_in entries g) ≡ None)
    → AreSeated slot nobody runs entries
none_seated slot runs entries free g h = (
  λ at. absurd (no_such h (sym (free g) ∙ at)),
  λ is. absurd (and_no (is_in runs g h) (is_of slot runs h) is),
)

nobody_apart : (slot : GroupSlot) (runs : List RunState) (among : Holder → Bool) → AreApart slot runs nobody among
nobody_apart slot runs among h e = refl

empty_book : (entries : Entries) (g : Group) → entries ≡ [] → ((slot_in entries g).in_progress ≡ None) × ((slot_in entries g).pending ≡ None)
empty_book entries g empty =
    (ap (λ (es : Entries). (slot_in es g).in_progress) empty, ap (λ (es : Entries). (slot_in es g).pending) empty)

module _ (rows : RowState) (book : BookState Holder) (stored : AreStored rows book) (empty : book.entries ≡ []) where
  pub start_seats : HasSeats InProgress rows.runs rows.bindings book
  start_seats = record { beside = λ g. (empty_book book.entries g empty).1; told = stored.told; expected = stored.expected }

  pub start_keys : HaveKeys InProgress everybody rows.runs rows.bindings
  start_keys h e = stored.keys h (there_if_holds rows.runs h (and_parts (holds rows.runs h) true e).0)

  free_at_first : AreSeated InProgress nobody rows.runs book.entries
  free_at_first = none_seated InProgress rows.runs book.entries (λ g. (empty_book book.entries g empty).0)

  -- two are in progress in a group
  pub two_in_progress : OneIsTaken InProgress everybody rows.runs book.entries → HasOneEach rows.runs → ⊥
  two_in_progress taken one =
      taken nobody (nobody_apart InProgress rows.runs everybody) free_at_first one

  module _ (first : List RunBindings) (mid : BookState Holder) (seats : TakeSeats InProgress everybody rows.runs rows.bindings first book.entries mid.entries)
      (kept : HasSeats InProgress rows.runs first mid) where
    pub seats_then : HasSeats Pending rows.runs first mid
    seats_then = record { beside = tt; told = kept.told; expected = kept.expected }

    pub keys_then : HaveKeys Pending everybody rows.runs first
    keys_then h e =
        let waiting = (and_parts (waits rows.runs h) true e).0 in
        ap (option_and_then ticket_in) (seats.keys h (ap (λ b. b && true) (holds_not rows.runs h waiting)))
        ∙ stored.keys h (there_if_waits rows.runs h waiting)

    free_then : AreSeated Pending nobody rows.runs mid.entries
    free_then = none_seated Pending rows.runs mid.entries kept.beside

    pub two_pending : OneIsTaken Pending everybody rows.runs mid.entries → HasOneEach rows.runs → ⊥
    two_pending taken one =
        taken nobody (nobody_apart Pending rows.runs everybody) free_then one

    module _ (now : List RunBindings) (new : BookState Holder) (later : TakeSeats Pending everybody rows.runs first now mid.entries new.entries)
        (still : HasSeats Pending rows.runs now new) where
      in_progress_seated : AreSeated InProgress everybody rows.runs new.entries
      in_progress_seated g h =
          let at_mid = seats.seated nobody (nobody_apart InProgress rows.runs everybody) free_at_first g h in
          ((λ at. at_mid.0 (sym (later.places g) ∙ at)), (λ is. later.places g ∙ at_mid.1 is))

      pending_seated : AreSeated Pending everybody rows.runs new.entries
      pending_seated = later.seated nobody (nobody_apart Pending rows.runs everybody) free_then

      pub all_exact : AreExact rows.runs new.entries
      all_exact =
          all_seated rows.runs new.entries everybody everybody (λ h is. refl) (λ h is. refl) in_progress_seated pending_seated

      pub all_kept : GroupsAreKept rows.runs now new
      all_kept = record { exact = all_exact; told = still.told; expected = still.expected }

-- all runs are marked
pub all_are_due : (runs : List RunState) (count : ℕ) (marks : List ℕ) → count ≡ length runs → Covers marks count
    → ((i : ℕ) → i < count → is_marked marks i ≡ true) → AreMarked (is_due runs) runs marks
all_are_due runs count marks many covers marked = record {
  covers = subst (Covers marks) many covers;
  marked = λ r x at is. marked r (subst (λ n. r < n) (sym many) (slice_get_within runs r x at));
}
