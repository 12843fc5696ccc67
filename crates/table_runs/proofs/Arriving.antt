-- An arrival in the book of groups: the newcomer takes the place of the holder that was pending in its group, which ends.
use Rattle.std.specs.Prelude.{◌≡◌, ◌≤◌, ◌+◌, ◌&&◌, List, [], ◌∷◌, find, not, Bool, true, false, Option, None, Some, if◌then◌else◌, option_and_then, refl}
use Rattle.std.specs.Option.{option_map_or}
use Rattle.std.proofs.Common.{arith, ap, subst, sym, ◌∙◌}
use Rattle.std.proofs.lemmas.Bool.{and_parts, true≢false}
use Rattle.group_book.specs.Books.{BookState, Puts, slot_in}
use Rattle.group_book.specs.Slots.{with_newcomer}
use Rattle.group_book.specs.declared.slot.Slot.{Slot}
use Rattle.group_book.proofs.Exact.{exact_beside, exact_come, exact_replaced, exact_within, in_no_place, it_is_in, pick}
use Rattle.group_name.specs.Group.{Group, same_group}
use Rattle.group_name.proofs.SameGroups.{own_group, same_is_one}
use Rattle.table_model.specs.Groups.{group_at, HasOneBeside, all_holders, holds, is_in, is_in_progress_in, is_pending_in, waits}
use Rattle.table_model.specs.GroupLaw.{same_holder}
use Rattle.table_model.specs.inner.Holders.{first_conflicting, is_conflicting}
use Rattle.table_model.specs.Runs.{RunState}
use Rattle.table_model.specs.Sound.{RunsAreSound}
use Rattle.table_model.specs.Stops.{stop_holder}
use Rattle.table_model.specs.declared.holder.Holder.{Holder}
use Rattle.table_model.specs.declared.holder.Holder.TheVariants.{Run, Leg}
use Rattle.table_model.specs.declared.holder.HolderFilter.TheVariants.{InProgress, OthersPending}
use Rattle.table_bindings.specs.GroupKeys.{ticket_in}
use Rattle.table_bindings.specs.declared.bindings.RunBindings.{RunBindings}
use Rattle.table_runs.proofs.SpentKeys.{one_each}
use Rattle.settling_laws.proofs.ArrivalKeeps.{holder_tested, itself}
use Rattle.settling_laws.proofs.HoldersKeep.{holder_stop_settles}
use Rattle.settling_laws.proofs.SoundRuns.{runs_that_fit, sound_runs}
use Rattle.table_runs.specs.inner.Arriving.{ExactBeside, KeptBeside, stopped_if, waits_beside}
use Rattle.table_runs.specs.inner.GroupsKept.{AreExact, GroupsAreKept, arrivals_to_come}
use Rattle.table_runs.specs.inner.HolderChanges.{EndsOnly}
use Rattle.table_runs.specs.inner.RowsKept.{holder_key_at, keys_spent}
use Rattle.table_runs.proofs.FoundBySlot.{find_same, found_by, in_progress_found}
use Rattle.table_runs.proofs.GroupsHeld.{Entries, told_within}
use Rattle.table_runs.proofs.HoldersThere.{holds_not, tells, there_if_holds, there_if_waits}
use Rattle.table_runs.proofs.OneHolder.{leg_is_stopped, leg_that_waits, run_is_cancelled, run_that_waits, stop_cancels}
use Rattle.table_runs.proofs.SpentThere.{one_arrival_fewer, told_spent}
use Rattle.table_runs.proofs.Stopping.{holds_no_more, waits_no_more}
use Rattle.table_model.specs.Fitting.{is_at_work}

-- ---- the stop of a holder that waits ends it, and changes nobody else

pub stop_ends : (runs : List RunState) (h : Holder) → RunsAreSound runs → waits runs h ≡ true → EndsOnly h runs (stop_holder h runs).runs
stop_ends runs (Run r) sound waiting =
    let x = run_that_waits runs r waiting in
    subst (EndsOnly (Run r) runs) (sym (stop_cancels runs r x.state x.there x.is)) (run_is_cancelled runs r sound waiting)
stop_ends runs (Leg p) sound waiting =
    let z = leg_that_waits runs p waiting in
    leg_is_stopped runs p z.state sound z.there (waits_no_more z.state.phase) (holds_no_more z.state.phase (ap is_at_work z.is))

-- ---- another holder

pub another : (one h : Holder) → (h ≡ one → ⊥) → same_holder h one ≡ false
another one h other = by (same_holder h one) refl
  where
    by : (b : Bool) → same_holder h one ≡ b → b ≡ false
    by true same = absurd (other (holder_tested h one same))
    by false not_same = refl

pub others_as_before : (one : Holder) (runs : List RunState) (h : Holder) → (h ≡ one → ⊥) → waits_beside one runs h ≡ waits runs h
others_as_before one runs h other = ap (λ b. waits runs h && not b) (another one h other) ∙ true_right (waits runs h)
  where
    true_right : (b : Bool) → (b && true) ≡ b
    true_right true = refl
    true_right false = refl

pub itself_beside : (one : Holder) (runs : List RunState) → waits_beside one runs one ≡ false
itself_beside one runs = ap (λ b. waits runs one && not b) (itself one) ∙ false_right (waits runs one)
  where
    false_right : (b : Bool) → (b && false) ≡ false
    false_right true = refl
    false_right false = refl

beside_waits : (one : Holder) (runs : List RunState) (h : Holder) → waits_beside one runs h ≡ true → (waits runs h ≡ true) × (h ≡ one → ⊥)
beside_waits one runs h e = (
  (and_parts (waits runs h) (not (same_holder h one)) e).0,
  λ is. true≢false (sym e ∙ ap (waits_beside one runs) is ∙ itself_beside one runs),
)

-- ---- a newcomer without a group

module _ (runs : List RunState) (entries : Entries) (one : Holder) (exact : ExactBeside one runs entries) where
  pub exact_alone : group_at runs one ≡ None → AreExact runs entries
  exact_alone none = record {
    pending = exact_beside tells (group_at runs) (group_at runs) (waits_beside one runs) (waits runs) (λ g. (slot_in entries g).pending)
        (λ g. (slot_in entries g).pending) one exact.pending (λ h other. (sym (others_as_before one runs h other), λ is. refl))
        (in_no_place (group_at runs) (waits_beside one runs) one none) (in_no_place (group_at runs) (waits runs) one none) (λ g. refl);
    in_progress = exact.in_progress;
  }

  -- at most one other holder of each group is pending, and at most one is in progress
  beside_pending : (g : Group) (h : Holder) → (h ≡ one → ⊥) → is_pending_in runs g h ≡ true → (slot_in entries g).pending ≡ Some h
  beside_pending g h other e =
      (exact.pending g h).1
      (ap (λ b. is_in runs g h && b) (others_as_before one runs h other) ∙ e)

  same_one : (h k : Holder) (o : Option Holder) → o ≡ Some h → o ≡ Some k → h ≡ k
  same_one h k o a b = let two : Some h ≡ Some k = sym a ∙ b in cc

  pub has_one_beside : HasOneBeside runs one
  has_one_beside = record {
    pending = (λ g h k not_h not_k e f. same_one h k (slot_in entries g).pending (beside_pending g h not_h e) (beside_pending g k not_k f));
    in_progress = (λ g h k e f. same_one h k (slot_in entries g).in_progress ((exact.in_progress g h).1 e) ((exact.in_progress g k).1 f));
  }

  -- ---- who conflicts with the newcomer

  assoc : (a b c : Bool) → ((a && b) && c) ≡ (a && (b && c))
  assoc true b c = refl
  assoc false b c = refl

  pub pending_conflicts : (g : Group) → group_at runs one ≡ Some g → first_conflicting runs one OthersPending ≡ (slot_in entries g).pending
  pending_conflicts g its =
      find_same (is_conflicting runs one OthersPending) (λ h. is_in runs g h && waits_beside one runs h)
      (λ h. ap (λ o. option_map_or (λ v. is_pending_in runs v h && not (same_holder h one)) o false) its
      ∙ assoc (is_in runs g h) (waits runs h) (not (same_holder h one))) (all_holders runs)
      ∙ sym (found_by runs (λ h. is_in runs g h && waits_beside one runs h)
      (λ h e. there_if_waits runs h (beside_waits one runs h (and_parts (is_in runs g h) (waits_beside one runs h) e).1).0)
      (slot_in entries g).pending (exact.pending g))

found_nothing : (hs : List Holder) → find (λ (h : Holder). false) hs ≡ None
found_nothing [] = refl
found_nothing (h ∷ hs) = found_nothing hs

pub nobody_conflicts : (runs : List RunState) (one : Holder) → group_at runs one ≡ None → first_conflicting runs one OthersPending ≡ None
nobody_conflicts runs one none =
    find_same (is_conflicting runs one OthersPending) (λ h. false)
    (λ h. ap (λ o. option_map_or (λ v. is_pending_in runs v h && not (same_holder h one)) o false) none) (all_holders runs)
    ∙ found_nothing (all_holders runs)

-- ---- a newcomer in a group

module _ (runs : List RunState) (before after : Entries) (one : Holder) (g : Group) (sound : RunsAreSound runs) (waiting : waits runs one ≡ true)
    (its : group_at runs one ≡ Some g) (exact : ExactBeside one runs before)
    (puts : Puts g (with_newcomer one (slot_in before g)) before after) where
  slot_now : slot_in after g ≡ with_newcomer one (slot_in before g)
  slot_now = puts g ∙ ap (λ b. if b then with_newcomer one (slot_in before g) else slot_in before g) (own_group g)

  slot_elsewhere : (k : Group) → same_group g k ≡ false → slot_in after k ≡ slot_in before k
  slot_elsewhere k apart = puts k ∙ ap (λ b. if b then with_newcomer one (slot_in before g) else slot_in before k) apart

  -- who is in progress stays
  pub in_progress_same : (k : Group) → (slot_in after k).in_progress ≡ (slot_in before k).in_progress
  in_progress_same k = by (same_group g k) refl
    where
      by : (b : Bool) → same_group g k ≡ b → (slot_in after k).in_progress ≡ (slot_in before k).in_progress
      by true same =
          ap (λ (s : Slot Holder). s.in_progress)
          (puts k ∙ ap (λ b. if b then with_newcomer one (slot_in before g) else slot_in before k) same)
          ∙ ap (λ o. (slot_in before o).in_progress) (same_is_one g k same)
      by false apart = ap (λ (s : Slot Holder). s.in_progress) (slot_elsewhere k apart)

  -- nobody was pending
  exact_newcomer : (slot_in before g).pending ≡ None → AreExact runs after
  exact_newcomer free = record {
    pending = exact_come tells (group_at runs) (group_at runs) (waits_beside one runs) (waits runs) (λ k. (slot_in before k).pending)
        (λ k. (slot_in after k).pending) one exact.pending (λ h other. (sym (others_as_before one runs h other), λ is. refl)) g
        (λ k apart. ap (λ (s : Slot Holder). s.pending) (slot_elsewhere k apart)) waiting its (itself_beside one runs) free
        (ap (λ (s : Slot Holder). s.pending) slot_now);
    in_progress = (λ k h. (
      (λ at. (exact.in_progress k h).0 (sym (in_progress_same k) ∙ at)),
      (λ is. in_progress_same k ∙ (exact.in_progress k h).1 is),
    ));
  }

  -- the one that was pending ends
  module _ (d : Holder) (had : (slot_in before g).pending ≡ Some d) where
    d_waited : (waits runs d ≡ true) × (d ≡ one → ⊥)
    d_waited = beside_waits one runs d (it_is_in (group_at runs) (waits_beside one runs) g d ((exact.pending g d).0 had))

    abbrev next : List RunState
    next = (stop_holder d runs).runs

    pub ended : EndsOnly d runs next
    ended = stop_ends runs d sound d_waited.0

    one_waits_now : waits next one ≡ true
    one_waits_now = (ended.others one (λ e. d_waited.1 (sym e))).waits ∙ waiting

    pub its_now : group_at next one ≡ Some g
    its_now = ended.same.group one (there_if_waits runs one waiting) ∙ its

    all_hold : (h : Holder) → holds next h ≡ holds runs h
    all_hold h =
        pick tells h d (holds next h ≡ holds runs h)
        (λ is. ap (holds next) is ∙ ended.holds_not ∙ sym (ap (holds runs) is ∙ holds_not runs d d_waited.0))
        (λ other. (ended.others h other).holds)

    exact_in_their_place : AreExact next after
    exact_in_their_place = record {
      pending = exact_replaced tells (group_at runs) (group_at next) (waits_beside one runs) (waits next) (λ k. (slot_in before k).pending)
          (λ k. (slot_in after k).pending) one d exact.pending
          (λ h not_one not_d. (
            (ended.others h not_d).waits ∙ sym (others_as_before one runs h not_one),
            λ is. ended.same.group h (there_if_waits runs h (beside_waits one runs h is).0),
          )) g (itself_beside one runs) one_waits_now its_now ended.waits_not had (ap (λ (s : Slot Holder). s.pending) slot_now)
          (λ k apart. ap (λ (s : Slot Holder). s.pending) (slot_elsewhere k apart));
      in_progress = exact_within tells (group_at runs) (group_at next) (holds runs) (holds next) (λ k. (slot_in after k).in_progress)
          (λ h. (all_hold h, λ is. ended.same.group h (there_if_holds runs h is)))
          (λ k h. (
            (λ at. (exact.in_progress k h).0 (sym (in_progress_same k) ∙ at)),
            (λ is. in_progress_same k ∙ (exact.in_progress k h).1 is),
          ));
    }

-- ---- what is kept after the arrival

pub kept_arrived : (runs : List RunState) (bindings : List RunBindings) (before after : BookState Holder) (one : Holder) (g : Group)
    → RunsAreSound runs → waits runs one ≡ true → group_at runs one ≡ Some g → KeptBeside one runs bindings before
    → Puts g (with_newcomer one (slot_in before.entries g)) before.entries after.entries → after.expected + 1 ≡ before.expected
    → (displaced : Option Holder) → displaced ≡ (slot_in before.entries g).pending
    → GroupsAreKept (stopped_if displaced runs) (keys_spent one bindings) after
kept_arrived runs bindings before after one g sound waiting its kept puts fewer displaced is = by displaced is
  where
    expected : arrivals_to_come (keys_spent one bindings) ≤ after.expected
    expected =
        let ticket : one_each (option_and_then ticket_in (holder_key_at bindings one)) ≡ 1 = ap one_each (kept.ticket ∙ its) in
        omega (arith, one_arrival_fewer one bindings, ticket, fewer, kept.expected)

    by : (o : Option Holder) → o ≡ (slot_in before.entries g).pending → GroupsAreKept (stopped_if o runs) (keys_spent one bindings) after
    by None free = record {
      exact = exact_newcomer runs before.entries after.entries one g sound waiting its kept.exact puts (sym free);
      told = told_spent runs bindings one waiting kept.told;
      expected = expected;
    }
    by (Some d) had = record {
      exact = exact_in_their_place runs before.entries after.entries one g sound waiting its kept.exact puts d (sym had);
      told = told_within runs (stop_holder d runs).runs (keys_spent one bindings)
          (ended runs before.entries after.entries one g sound waiting its kept.exact puts d (sym had)).same
          (told_spent runs bindings one waiting kept.told);
      expected = expected;
    }

pub kept_alone : (runs : List RunState) (bindings : List RunBindings) (book : BookState Holder) (one : Holder) → RunsAreSound runs
    → waits runs one ≡ true → group_at runs one ≡ None → KeptBeside one runs bindings book
    → GroupsAreKept runs (keys_spent one bindings) book
kept_alone runs bindings book one sound waiting none kept = record {
  exact = exact_alone runs book.entries one kept.exact none;
  told = told_spent runs bindings one waiting kept.told;
  expected = omega (arith, one_arrival_fewer one bindings, kept.expected);
}

-- ---- soundness, and who is to be stopped

pub stopped_sound : (runs : List RunState) (displaced : Option Holder) → RunsAreSound runs → RunsAreSound (stopped_if displaced runs)
stopped_sound runs None sound = sound
stopped_sound runs (Some d) sound = sound_runs (stop_holder d runs).runs (holder_stop_settles d runs (runs_that_fit runs sound)).stay.fit

pub to_stop_found : (next : List RunState) (after : Entries) (one : Holder) (g : Group) (in_progress : Option Holder) → AreExact next after
    → group_at next one ≡ Some g → in_progress ≡ (slot_in after g).in_progress → in_progress ≡ first_conflicting next one InProgress
to_stop_found next after one g in_progress exact its is =
    is ∙ in_progress_found next after exact g
    ∙ find_same (is_in_progress_in next g) (is_conflicting next one InProgress)
    (λ h. sym (ap (λ o. option_map_or (λ v. is_in_progress_in next v h) o false) its)) (all_holders next)
