-- The holders of a table take their places in the book of groups, one after the other.
use Rattle.std.specs.Prelude.{◌≡◌, ◌<◌, ◌+◌, ◌&&◌, ◌||◌, List, Bool, true, false, Option, None, Some, option_and_then, if◌then◌else◌, refl}
use Rattle.std.proofs.Common.{arith, ap, ap₂, subst, sym, ◌∙◌}
use Rattle.std.proofs.lemmas.Bool.{and_from, and_parts, true≢false}
use Rattle.group_book.specs.Books.{BookState, Puts, slot_in}
use Rattle.group_book.specs.Slots.{begun, with_newcomer}
use Rattle.group_book.specs.declared.slot.Slot.{Slot}
use Rattle.group_book.proofs.Exact.{exact_beside, exact_come, in_no_place, put_here}
use Rattle.group_name.specs.Group.{Group, same_group}
use Rattle.group_name.proofs.SameGroups.{own_group, same_is_one}
use Rattle.table_model.specs.Groups.{group_at, HasOneEach, holds, is_in, waits}
use Rattle.table_model.specs.GroupLaw.{same_holder}
use Rattle.table_model.specs.Runs.{RunState}
use Rattle.table_model.specs.declared.holder.Holder.{Holder}
use Rattle.table_bindings.specs.GroupKeys.{ticket_in}
use Rattle.table_bindings.specs.declared.bindings.RunBindings.{RunBindings}
use Rattle.table_runs.proofs.SpentKeys.{one_each}
use Rattle.settling_laws.proofs.ArrivalKeeps.{itself}
use Rattle.table_runs.specs.inner.GroupsKept.{AreExact, AreTold, is_there}
use Rattle.table_runs.specs.inner.BookSteps.{Begins}
use Rattle.table_runs.specs.inner.RowsKept.{holder_key_at, key_at, keys_spent}
use Rattle.table_runs.specs.inner.Seating.{AreApart, AreSeated, AreSeatedOrTaken, BeginsIf, HasSeats, NobodyIsBeside, OneIsTaken, SitsDown, TakeSeats, beside_slot, in_slot, is_of}
use Rattle.table_runs.specs.declared.runs.of.GroupSlot.{GroupSlot}
use Rattle.table_runs.specs.declared.runs.of.GroupSlot.TheVariants.{InProgress, Pending}
use Rattle.table_runs.proofs.Arriving.{another}
use Rattle.table_runs.proofs.GroupsHeld.{Entries}
use Rattle.table_runs.proofs.HoldersThere.{tells, there_if_holds, there_if_waits}
use Rattle.table_runs.proofs.SpentThere.{one_arrival_fewer, told_spent, told_spent_by_one_that_holds}

-- ---- tests

abbrev Test : Type 0
Test = Holder → Bool

abbrev either : Test → Test → Test
either a b h = a h || b h

or_parts_false : (a b : Bool) → (a || b) ≡ false → (a ≡ false) × (b ≡ false)
or_parts_false true b e = absurd (true≢false e)
or_parts_false false b e = (refl, e)

and_either_false : (is a b : Bool) → (is && (a || b)) ≡ false → ((is && a) ≡ false) × ((is && b) ≡ false)
and_either_false true a b e = or_parts_false a b e
and_either_false false a b e = (refl, refl)

and_left : (is a b : Bool) → (is && a) ≡ true → (is && (a || b)) ≡ true
and_left true true b e = refl
and_left true false b e = absurd (true≢false (sym e))
and_left false a b e = e

and_right : (is a b : Bool) → (is && b) ≡ true → (is && (a || b)) ≡ true
and_right true true b e = refl
and_right true false b e = e
and_right false a b e = e

or_false : (a : Bool) → (a || false) ≡ a
or_false true = refl
or_false false = refl

or_assoc : (a b c : Bool) → ((a || b) || c) ≡ (a || (b || c))
or_assoc true b c = refl
or_assoc false b c = refl

-- ---- two tests that agree about those that have the place

module _ (slot : GroupSlot) (runs : List RunState) where
  abbrev Agree : Test → Test → Type 0
  Agree a b = (h : Holder) → is_of slot runs h ≡ true → a h ≡ b h

  same_test : (a b : Test) → Agree a b → (h : Holder) → (is_of slot runs h && a h) ≡ (is_of slot runs h && b h)
  same_test a b agree h = by (is_of slot runs h) refl
    where
      by : (is : Bool) → is_of slot runs h ≡ is → (is && a h) ≡ (is && b h)
      by true has = agree h has
      by false has_not = refl

  pub seated_alike : (a b : Test) (entries : Entries) → Agree a b → AreSeated slot a runs entries → AreSeated slot b runs entries
  seated_alike a b entries agree seated g h =
      let same = ap (λ c. is_in runs g h && c) (same_test a b agree h) in
      ((λ at. sym same ∙ (seated g h).0 at), (λ is. (seated g h).1 (same ∙ is)))

  -- ---- nobody takes a place

  pub nobody_seated : (bindings : List RunBindings) (entries : Entries) → TakeSeats slot (λ h. false) runs bindings bindings entries entries
  nobody_seated bindings entries = record {
    keys = (λ h not_it. refl);
    places = (λ g. refl);
    seated = (λ who apart seated. seated_alike who (either who (λ h. false)) entries (λ h has. sym (or_false (who h))) seated);
  }

  -- ---- some, and then others

  module _ (a b : Test) (was half now : List RunBindings) (old mid new : Entries) (first : TakeSeats slot a runs was half old mid)
      (disjoint : (h : Holder) → (is_of slot runs h && b h) ≡ true → a h ≡ false) where
    apart_first : (who : Test) → AreApart slot runs who (either a b) → AreApart slot runs who a
    apart_first who apart h e = apart h (and_left (is_of slot runs h) (a h) (b h) e)

    apart_then : (who : Test) → AreApart slot runs who (either a b) → AreApart slot runs (either who a) b
    apart_then who apart h e =
        ap₂ (λ p q. p || q) (apart h (and_right (is_of slot runs h) (a h) (b h) e)) (disjoint h e)

    pub seated_then : TakeSeats slot b runs half now mid new → TakeSeats slot (either a b) runs was now old new
    seated_then later = record {
      keys = (λ h not_it.
          let parts = and_either_false (is_of slot runs h) (a h) (b h) not_it in later.keys h parts.1 ∙ first.keys h parts.0);
      places = (λ g. later.places g ∙ first.places g);
      seated = (λ who apart seated.
          seated_alike (either (either who a) b) (either who (either a b)) new (λ h has. or_assoc (who h) (a h) (b h))
          (later.seated (either who a) (apart_then who apart) (first.seated who (apart_first who apart) seated)));
    }

    pub taken_then : OneIsTaken slot b runs mid → OneIsTaken slot (either a b) runs old
    taken_then taken who apart seated =
        taken (either who a) (apart_then who apart) (first.seated who (apart_first who apart) seated)

    pub then_or_taken : (result : Bool) → AreSeatedOrTaken result slot b runs half now mid new
        → AreSeatedOrTaken result slot (either a b) runs was now old new
    then_or_taken true later = seated_then later
    then_or_taken false taken = taken_then taken

  -- the same, said by another test
  pub alike : (a b : Test) (result : Bool) (was now : List RunBindings) (old new : Entries) → Agree a b
      → AreSeatedOrTaken result slot a runs was now old new → AreSeatedOrTaken result slot b runs was now old new
  alike a b true was now old new agree seats = record {
    keys = (λ h not_it. seats.keys h (same_test a b agree h ∙ not_it));
    places = seats.places;
    seated = (λ who apart seated.
        seated_alike (either who a) (either who b) new (λ h has. ap (λ c. who h || c) (agree h has))
        (seats.seated who (λ h e. apart h (sym (same_test a b agree h) ∙ e)) seated));
  }
  alike a b false was now old new agree taken =
      λ who apart seated. taken who (λ h e. apart h (sym (same_test a b agree h) ∙ e)) seated

-- ---- what a function says of its answer

pub are_seated : (slot : GroupSlot) (among : Test) (runs : List RunState) (was now : List RunBindings) (old new : Entries) (b : Bool) → b ≡ true
    → AreSeatedOrTaken b slot among runs was now old new → TakeSeats slot among runs was now old new
are_seated slot among runs was now old new true e seats = seats
are_seated slot among runs was now old new false e taken = absurd (true≢false (sym e))

pub one_is_taken : (slot : GroupSlot) (among : Test) (runs : List RunState) (was now : List RunBindings) (old new : Entries) (b : Bool) → b ≡ false
    → AreSeatedOrTaken b slot among runs was now old new → OneIsTaken slot among runs old
one_is_taken slot among runs was now old new true e seats = absurd (true≢false e)
one_is_taken slot among runs was now old new false e taken = taken

pub said_of : (slot : GroupSlot) (among these : Test) (runs now_runs : List RunState) (was now : List RunBindings) (old new : Entries) (b : Bool)
    → among ≡ these → now_runs ≡ runs → AreSeatedOrTaken b slot among now_runs was now old new → AreSeatedOrTaken b slot these runs was now old new
said_of slot among these runs now_runs was now old new b same same_runs said =
    subst (λ (rs : List RunState). AreSeatedOrTaken b slot these rs was now old new) same_runs
    (subst (λ (t : Test). AreSeatedOrTaken b slot t now_runs was now old new) same said)

-- ---- one holder

abbrev only : Holder → Test
only one h = same_holder h one

-- it does not have the place
pub no_seat_for : (slot : GroupSlot) (runs : List RunState) (bindings : List RunBindings) (entries : Entries) (one : Holder)
    → is_of slot runs one ≡ false → TakeSeats slot (only one) runs bindings bindings entries entries
no_seat_for slot runs bindings entries one has_not =
    alike slot runs (λ h. false) (only one) true bindings bindings entries entries
    (λ h has. sym (another one h (λ is. true≢false (sym has ∙ ap (is_of slot runs) is ∙ has_not))))
    (nobody_seated slot runs bindings entries)

pub in_no_group : (slot : GroupSlot) (runs : List RunState) (bindings : List RunBindings) (entries : Entries) (one : Holder)
    → group_at runs one ≡ None → TakeSeats slot (only one) runs bindings bindings entries entries
in_no_group slot runs bindings entries one none = record {
  keys = (λ h not_it. refl);
  places = (λ g. refl);
  seated = (λ who apart seated.
      exact_beside tells (group_at runs) (group_at runs) (λ h. is_of slot runs h && who h)
      (λ h. is_of slot runs h && either who (only one) h) (λ g. in_slot slot (slot_in entries g)) (λ g. in_slot slot (slot_in entries g)) one
      seated
      (λ h other. (ap (λ c. is_of slot runs h && (who h || c)) (another one h other) ∙ ap (λ c. is_of slot runs h && c) (or_false (who h)), λ is. refl))
      (in_no_place (group_at runs) (λ h. is_of slot runs h && who h) one none)
      (in_no_place (group_at runs) (λ h. is_of slot runs h && either who (only one) h) one none) (λ g. refl));
}

-- ---- its place is taken

one_of_place : (slot : GroupSlot) (runs : List RunState) → HasOneEach runs → (g : Group) (h k : Holder)
    → (is_in runs g h && is_of slot runs h) ≡ true → (is_in runs g k && is_of slot runs k) ≡ true → h ≡ k
one_of_place InProgress runs one g h k = one.in_progress g h k
one_of_place Pending runs one g h k = one.pending g h k

pub its_place_is_taken : (slot : GroupSlot) (runs : List RunState) (entries : Entries) (one k : Holder) (g : Group) → is_of slot runs one ≡ true
    → group_at runs one ≡ Some g → in_slot slot (slot_in entries g) ≡ Some k → OneIsTaken slot (only one) runs entries
its_place_is_taken slot runs entries one k g has its taken who apart seated each =
    let here = (seated g k).0 taken in
    let parts = and_parts (is_in runs g k) (is_of slot runs k && who k) here in
    let kinds = and_parts (is_of slot runs k) (who k) parts.1 in
    let same : k ≡ one =
    one_of_place slot runs each g k one (and_from (is_in runs g k) (is_of slot runs k) parts.0 kinds.0)
    (put_here (group_at runs) (is_of slot runs) g one its has) in
    let not_one : who one ≡ false = apart one (and_from (is_of slot runs one) (only one one) has (itself one)) in
    true≢false (sym kinds.1 ∙ ap who same ∙ not_one)

-- ---- it takes its place

slot_put : (g : Group) (slot : Slot Holder) (old new : Entries) → Puts g slot old new → slot_in new g ≡ slot
slot_put g slot old new puts = puts g ∙ ap (λ b. if b then slot else slot_in old g) (own_group g)

slot_kept : (g : Group) (slot : Slot Holder) (old new : Entries) → Puts g slot old new → (k : Group) → same_group g k ≡ false
    → slot_in new k ≡ slot_in old k
slot_kept g slot old new puts k apart = puts k ∙ ap (λ b. if b then slot else slot_in old k) apart

pub sits_pending : (one : Holder) (g : Group) (old new : Entries) → Puts g (with_newcomer one (slot_in old g)) old new
    → SitsDown Pending one g old new
sits_pending one g old new puts = record {
  taken = ap (λ (s : Slot Holder). s.pending) (slot_put g (with_newcomer one (slot_in old g)) old new puts);
  beside = (λ k. by k (same_group g k) refl);
  elsewhere = slot_kept g (with_newcomer one (slot_in old g)) old new puts;
}
  where
    by : (k : Group) (b : Bool) → same_group g k ≡ b → (slot_in new k).in_progress ≡ (slot_in old k).in_progress
    by k true same =
        subst (λ o. (slot_in new o).in_progress ≡ (slot_in old o).in_progress) (same_is_one g k same)
        (ap (λ (s : Slot Holder). s.in_progress) (slot_put g (with_newcomer one (slot_in old g)) old new puts))
    by k false apart =
        ap (λ (s : Slot Holder). s.in_progress) (slot_kept g (with_newcomer one (slot_in old g)) old new puts k apart)

-- it arrives and begins at once
pub sits_in_progress : (one : Holder) (g : Group) (old mid new : Entries) → ((k : Group) → (slot_in old k).pending ≡ None)
    → Puts g (with_newcomer one (slot_in old g)) old mid → Puts g (begun (slot_in mid g)) mid new → SitsDown InProgress one g old new
sits_in_progress one g old mid new nobody arrives begins = record {
  taken = ap (λ (s : Slot Holder). s.in_progress) begun_now ∙ ap (λ (s : Slot Holder). s.pending) arrived_now;
  beside = (λ k. by k (same_group g k) refl);
  elsewhere = kept;
}
  where
    arrived_now : slot_in mid g ≡ with_newcomer one (slot_in old g)
    arrived_now = slot_put g (with_newcomer one (slot_in old g)) old mid arrives

    begun_now : slot_in new g ≡ begun (slot_in mid g)
    begun_now = slot_put g (begun (slot_in mid g)) mid new begins

    kept : (k : Group) → same_group g k ≡ false → slot_in new k ≡ slot_in old k
    kept k apart =
        slot_kept g (begun (slot_in mid g)) mid new begins k apart
        ∙ slot_kept g (with_newcomer one (slot_in old g)) old mid arrives k apart

    by : (k : Group) (b : Bool) → same_group g k ≡ b → (slot_in new k).pending ≡ (slot_in old k).pending
    by k true same =
        subst (λ o. (slot_in new o).pending ≡ (slot_in old o).pending) (same_is_one g k same)
        (ap (λ (s : Slot Holder). s.pending) begun_now ∙ sym (nobody g))
    by k false apart = ap (λ (s : Slot Holder). s.pending) (kept k apart)

pub one_seated : (slot : GroupSlot) (runs : List RunState) (was now : List RunBindings) (old new : Entries) (one : Holder) (g : Group)
    → is_of slot runs one ≡ true → group_at runs one ≡ Some g → in_slot slot (slot_in old g) ≡ None
    → ((h : Holder) → (h ≡ one → ⊥) → holder_key_at now h ≡ holder_key_at was h) → SitsDown slot one g old new
    → TakeSeats slot (only one) runs was now old new
one_seated slot runs was now old new one g has its free others sits = record {
  keys = (λ h not_it.
      others h
      (λ is. true≢false (sym (and_from (is_of slot runs one) (only one one) has (itself one)) ∙ ap (λ k. is_of slot runs k && only one k) (sym is) ∙ not_it)));
  places = sits.beside;
  seated = (λ who apart seated.
      let not_one : who one ≡ false = apart one (and_from (is_of slot runs one) (only one one) has (itself one)) in
      exact_come tells (group_at runs) (group_at runs) (λ h. is_of slot runs h && who h)
      (λ h. is_of slot runs h && either who (only one) h) (λ k. in_slot slot (slot_in old k)) (λ k. in_slot slot (slot_in new k)) one seated
      (λ h other. (ap (λ c. is_of slot runs h && (who h || c)) (another one h other) ∙ ap (λ c. is_of slot runs h && c) (or_false (who h)), λ is. refl))
      g (λ k apart_from. ap (in_slot slot) (sits.elsewhere k apart_from))
      (and_from (is_of slot runs one) (either who (only one) one) has (ap (λ c. who one || c) (itself one) ∙ ap (λ c. c || true) not_one)) its
      (ap (λ c. is_of slot runs one && c) not_one ∙ and_false (is_of slot runs one)) free sits.taken);
}
  where
    and_false : (b : Bool) → (b && false) ≡ false
    and_false true = refl
    and_false false = refl

-- ---- what is kept on the way

told_by_place : (slot : GroupSlot) (runs : List RunState) (bindings : List RunBindings) (one : Holder) → is_of slot runs one ≡ true
    → AreTold runs bindings → AreTold runs (keys_spent one bindings)
told_by_place InProgress runs bindings one has told = told_spent_by_one_that_holds runs bindings one has told
told_by_place Pending runs bindings one has told = told_spent runs bindings one has told

nobody_beside : (slot : GroupSlot) (old new : Entries) → ((g : Group) → beside_slot slot (slot_in new g) ≡ beside_slot slot (slot_in old g))
    → NobodyIsBeside slot old → NobodyIsBeside slot new
nobody_beside InProgress old new same nobody = λ g. same g ∙ nobody g
nobody_beside Pending old new same nobody = nobody

pub seats_still : (slot : GroupSlot) (runs : List RunState) (bindings : List RunBindings) (old new : BookState Holder) (one : Holder) (g : Group)
    → is_of slot runs one ≡ true → group_at runs one ≡ Some g → option_and_then ticket_in (holder_key_at bindings one) ≡ group_at runs one
    → SitsDown slot one g old.entries new.entries → new.expected + 1 ≡ old.expected → HasSeats slot runs bindings old
    → HasSeats slot runs (keys_spent one bindings) new
seats_still slot runs bindings old new one g has its ticket sits fewer kept = record {
  beside = nobody_beside slot old.entries new.entries sits.beside kept.beside;
  told = told_by_place slot runs bindings one has kept.told;
  expected =
      let one_more : one_each (option_and_then ticket_in (holder_key_at bindings one)) ≡ 1 = ap one_each (ticket ∙ its) in
      omega (arith, one_arrival_fewer one bindings, one_more, fewer, kept.expected);
}

-- it has no group, so that it brings no key
pub seats_without : (slot : GroupSlot) (runs : List RunState) (bindings : List RunBindings) (book : BookState Holder) (one : Holder)
    → is_of slot runs one ≡ true → HasSeats slot runs bindings book → HasSeats slot runs (keys_spent one bindings) book
seats_without slot runs bindings book one has kept = record {
  beside = kept.beside;
  told = told_by_place slot runs bindings one has kept.told;
  expected = omega (arith, one_arrival_fewer one bindings, kept.expected);
}

there_if_of : (slot : GroupSlot) (runs : List RunState) (one : Holder) → is_of slot runs one ≡ true → is_there runs one ≡ true
there_if_of InProgress runs one has = there_if_holds runs one has
there_if_of Pending runs one has = there_if_waits runs one has

-- it knows its group
pub group_by_key : (slot : GroupSlot) (runs : List RunState) (bindings : List RunBindings) (book : BookState Holder) (one : Holder)
    → is_of slot runs one ≡ true → HasSeats slot runs bindings book → key_at bindings one ≡ group_at runs one
group_by_key slot runs bindings book one has kept = (kept.told.groups one (there_if_of slot runs one has)).group

-- and still does, once it has brought its key
pub key_after : (slot : GroupSlot) (runs : List RunState) (bindings : List RunBindings) (book : BookState Holder) (one : Holder)
    → is_of slot runs one ≡ true → HasSeats slot runs bindings book → key_at (keys_spent one bindings) one ≡ group_at runs one
key_after slot runs bindings book one has kept =
    group_by_key slot runs (keys_spent one bindings) book one has (seats_without slot runs bindings book one has kept)

-- it arrives, and begins at once if it is in progress
pub sits_down : (slot : GroupSlot) (one : Holder) (g : Group) (key : Option Group) (old mid new : Entries) → NobodyIsBeside slot old → key ≡ Some g
    → Puts g (with_newcomer one (slot_in old g)) old mid → BeginsIf slot key mid new → SitsDown slot one g old new
sits_down InProgress one g key old mid new nobody is arrives begins =
    sits_in_progress one g old mid new nobody arrives (subst (λ (o : Option Group). Begins o mid new) is begins)
sits_down Pending one g key old mid new nobody is arrives begins =
    sits_pending one g old new (subst (Puts g (with_newcomer one (slot_in old g)) old) (sym begins) arrives)

-- nobody is in progress in its group when it begins
pub free_still : (slot : GroupSlot) (one : Holder) (g k : Group) (old mid : Entries) → slot ≡ InProgress → g ≡ k
    → in_slot slot (slot_in old g) ≡ None → Puts g (with_newcomer one (slot_in old g)) old mid → (slot_in mid k).in_progress ≡ None
free_still slot one g k old mid is same free arrives =
    ap (λ (o : Group). (slot_in mid o).in_progress) (sym same)
    ∙ ap (λ (s : Slot Holder). s.in_progress) (slot_put g (with_newcomer one (slot_in old g)) old mid arrives)
    ∙ subst (λ (p : GroupSlot). in_slot p (slot_in old g) ≡ None) is free

-- memory is taken for its arrival
pub room_for_it : (slot : GroupSlot) (runs : List RunState) (bindings : List RunBindings) (old : BookState Holder) (one : Holder) (g : Group)
    → group_at runs one ≡ Some g → option_and_then ticket_in (holder_key_at bindings one) ≡ group_at runs one
    → HasSeats slot runs bindings old → 0 < old.expected
room_for_it slot runs bindings old one g its ticket kept =
    let one_more : one_each (option_and_then ticket_in (holder_key_at bindings one)) ≡ 1 = ap one_each (ticket ∙ its) in
    omega (arith, one_arrival_fewer one bindings, one_more, kept.expected)

-- ---- all have their places

pub all_seated : (runs : List RunState) (entries : Entries) (first second : Test) → ((h : Holder) → holds runs h ≡ true → first h ≡ true)
    → ((h : Holder) → waits runs h ≡ true → second h ≡ true) → AreSeated InProgress first runs entries → AreSeated Pending second runs entries
    → AreExact runs entries
all_seated runs entries first second all_first all_second in_progress pending = record {
  pending = (λ g h.
      let same = ap (λ c. is_in runs g h && c) (all (waits runs h) (second h) (all_second h)) in
      ((λ at. sym same ∙ (pending g h).0 at), (λ is. (pending g h).1 (same ∙ is))));
  in_progress = (λ g h.
      let same = ap (λ c. is_in runs g h && c) (all (holds runs h) (first h) (all_first h)) in
      ((λ at. sym same ∙ (in_progress g h).0 at), (λ is. (in_progress g h).1 (same ∙ is))));
}
  where
    all : (is among : Bool) → (is ≡ true → among ≡ true) → (is && among) ≡ is
    all true among says = says refl
    all false among says = refl

-- nobody else has it, if all have their places
pub one_each_seated : (runs : List RunState) (entries : Entries) → AreExact runs entries → HasOneEach runs
one_each_seated runs entries exact = record {
  pending = (λ g h k e f. one h k (slot_in entries g).pending ((exact.pending g h).1 e) ((exact.pending g k).1 f));
  in_progress = (λ g h k e f. one h k (slot_in entries g).in_progress ((exact.in_progress g h).1 e) ((exact.in_progress g k).1 f));
}
  where
    one : (h k : Holder) (o : Option Holder) → o ≡ Some h → o ≡ Some k → h ≡ k
    one h k o a b = let two : Some h ≡ Some k = sym a ∙ b in cc
