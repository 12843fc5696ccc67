-- A run or a leg brings its key to its group: what all others know stays, and one arrival fewer is to come.
use Rattle.std.specs.Prelude.{◌≡◌, ℕ, ◌+◌, List, length, nat_eq, true, false, Option, None, Some, option_and_then, option_map, slice_get, refl}
use Rattle.std.specs.Option.{option_map_or}
use Rattle.std.proofs.Common.{arith, ap, inl, inr, subst, sym, ◌∙◌}
use Rattle.std.proofs.lemmas.Bool.{and_parts, cases_eq, eqb-true, true≢false}
use Rattle.std.proofs.lemmas.Option.{same_Some, slice_get_within}
use Rattle.group_book.proofs.Exact.{pick}
use Rattle.table_model.specs.Runs.{changed_at, job_at, leg_at, JobState, LegState, RunState, is_blocked, is_new}
use Rattle.table_model.specs.Groups.{holds, leg_holds, leg_waits, waits}
use Rattle.table_model.specs.Holders.{run_of}
use Rattle.table_model.specs.inner.Resuming.{is_new_at}
use Rattle.table_model.specs.declared.holder.Holder.{Holder}
use Rattle.table_model.specs.declared.holder.Holder.TheVariants.{Run, Leg}
use Rattle.table_model.specs.declared.phases.LegPhase.{LegPhase}
use Rattle.table_model.specs.declared.phases.LegPhase.TheVariants as leg
use Rattle.table_model.specs.declared.sites.LegSite.{LegSite}
use Rattle.table_model.proofs.Changed.{at_another, at_changed}
use Rattle.table_model.proofs.JobKeeps.{leg_in}
use Rattle.table_model.proofs.Optional.{some_of}
use Rattle.table_bindings.specs.GroupKeys.{AreLater, arrivals_of, holder_key, key_in, requests_of, spent, ticket_in, with_spent}
use Rattle.table_bindings.specs.declared.bindings.RunBindings.{RunBindings}
use Rattle.table_bindings.specs.declared.group_keys.HolderKey.{HolderKey}
use Rattle.table_bindings.specs.declared.group_keys.HolderKey.TheVariants.{Known}
use Rattle.table_bindings.specs.declared.group_keys.KnownGroup.{KnownGroup}
use Rattle.table_runs.proofs.SpentKeys.{arrivals_spent, key_spent, known_spent, one_each, spent_elsewhere, spent_here, sum_lowered}
use Rattle.table_runs.specs.inner.GroupsKept.{AreTold, Knows, arrivals_to_come, is_blocked_at, is_there, is_unopened}
use Rattle.table_runs.specs.inner.RowsKept.{holder_key_at, keys_spent}
use Rattle.table_runs.proofs.Shaped.{shaped_spent}
use Rattle.table_runs.proofs.HoldersThere.{tells, there_if_holds, there_if_waits}

abbrev spends : Holder → RunBindings → RunBindings
spends h kept = record kept { keys = with_spent h kept.keys }

-- ---- the keys of a table

pub its_key : (h : Holder) (bindings : List RunBindings) → holder_key_at (keys_spent h bindings) h ≡ option_map spent (holder_key_at bindings h)
its_key h bindings =
    ap (option_and_then (λ (kept : RunBindings). holder_key kept.keys h)) (at_changed (run_of h) (spends h) bindings)
    ∙ by (slice_get bindings (run_of h))
  where
    by : (o : Option RunBindings)
        → option_and_then (λ (kept : RunBindings). holder_key kept.keys h) (option_map (spends h) o)
        ≡ option_map spent (option_and_then (λ (kept : RunBindings). holder_key kept.keys h) o)
    by None = refl
    by (Some kept) = spent_here h kept.keys

pub another_key : (h k : Holder) (bindings : List RunBindings) → (k ≡ h → ⊥) → holder_key_at (keys_spent h bindings) k ≡ holder_key_at bindings k
another_key h k bindings other =
    let read : Option RunBindings → Option HolderKey = option_and_then (λ (kept : RunBindings). holder_key kept.keys k) in
    elim (cases_eq (run_of k) (run_of h)) [
      | inr apart ↦ ap read (at_another (run_of h) (spends h) bindings (run_of k) apart)
      | inl same ↦
          let kept : (o : Option RunBindings) → read (option_map (spends h) o) ≡ read o =
          λ o. elim o as (λ o. read (option_map (spends h) o) ≡ read o) [
            | None ↦ refl
            | Some b ↦ spent_elsewhere h k b.keys (sym same) other
          ] in
          ap (λ r. read (slice_get (keys_spent h bindings) r)) same
          ∙ ap read (at_changed (run_of h) (spends h) bindings) ∙ kept (slice_get bindings (run_of h))
          ∙ ap (λ r. read (slice_get bindings r)) (sym same)
    ]

-- ---- what they say

keys_of_spent : (o : Option HolderKey) → option_and_then key_in (option_map spent o) ≡ option_and_then key_in o
keys_of_spent None = refl
keys_of_spent (Some k) = key_spent k

known_of_spent : (o : Option HolderKey) (known : KnownGroup) → option_map spent o ≡ Some (Known known)
    → (was : KnownGroup) × (o ≡ Some (Known was)) × (was.cancels ≡ known.cancels)
known_of_spent None known e = cc
known_of_spent (Some k) known e =
    let was = known_spent k known (same_Some (spent k) (Known known) e) in (was.0, ap Some was.1, was.2)

knows_still : (runs : List RunState) (bindings : List RunBindings) (one h : Holder) → Knows runs bindings h → Knows runs (keys_spent one bindings) h
knows_still runs bindings one h knew =
    pick tells h one (Knows runs (keys_spent one bindings) h)
    (λ is.
    let key : holder_key_at (keys_spent one bindings) h ≡ option_map spent (holder_key_at bindings h) =
    subst (λ k. holder_key_at (keys_spent k bindings) h ≡ option_map spent (holder_key_at bindings h)) is (its_key h bindings) in
    record {
      group = ap (option_and_then key_in) key ∙ keys_of_spent (holder_key_at bindings h) ∙ knew.group;
      cancels = λ known e.
          let was = known_of_spent (holder_key_at bindings h) known (sym key ∙ e) in sym was.2 ∙ knew.cancels was.0 was.1;
    })
    (λ other.
    let key = another_key one h bindings other in
    record {
      group = ap (option_and_then key_in) key ∙ knew.group;
      cancels = λ known e. knew.cancels known (sym key ∙ e);
    })

-- ---- a leg that is there is of a job that is not blocked

blocked_job : (o : Option JobState) → option_map_or is_unopened o false ≡ true → (y : JobState) × (o ≡ Some y) × (is_unopened y ≡ true)
blocked_job None e = cc
blocked_job (Some y) e = (y, refl, e)

pub not_blocked : (runs : List RunState) (p : LegSite) (z : LegState) → leg_at runs p ≡ Some z → is_blocked_at runs p.run p.job ≡ true → ⊥
not_blocked runs p z at blocked =
    let here = leg_in runs p z at in
    let y = blocked_job (job_at runs p.run p.job) blocked in
    let job : job_at runs p.run p.job ≡ Some here.job =
    ap (option_and_then (λ (x : RunState). slice_get x.jobs p.job)) here.place.run_is ∙ here.place.job_is in
    let same : y.0 ≡ here.job = same_Some y.0 here.job (sym y.1 ∙ job) in
    let none : length here.job.legs ≡ 0 =
    ap (λ (w : JobState). length w.legs) (sym same)
    ∙ eqb-true (length y.0.legs) 0 (and_parts (is_blocked y.0.phase) (nat_eq (length y.0.legs) 0) y.2).1 in
    let within = slice_get_within here.job.legs p.leg z here.leg_is in
    absurd (omega (arith, none, within))

-- ---- memory for the legs of blocked jobs stays

room_still : (one : Holder) (j : ℕ) (kept : RunBindings) (legs : List HolderKey)
    → ((p : LegSite) → one ≡ Leg p → p.job ≡ j → ⊥) → slice_get (spends one kept).keys.jobs j ≡ Some legs → slice_get kept.keys.jobs j ≡ Some legs
room_still (Run r) j kept legs apart at = at
room_still (Leg p) j kept legs apart at =
    sym (at_another p.job (λ (ls : List HolderKey). changed_at p.leg spent ls) kept.keys.jobs j (λ e. apart p refl (sym e))) ∙ at

-- ---- a new leg does not wait

new_not_waiting : (phase : LegPhase) → is_new phase ≡ true → leg_waits phase ≡ true → ⊥
new_not_waiting leg.New is waiting = true≢false (sym waiting)
new_not_waiting leg.Waiting is waiting = true≢false (sym is)
new_not_waiting leg.Ready is waiting = true≢false (sym is)
new_not_waiting leg.Running is waiting = true≢false (sym is)
new_not_waiting leg.Stopping is waiting = true≢false (sym is)
new_not_waiting (leg.Ended o) is waiting = true≢false (sym is)

new_leg_waits_not : (o : Option LegState) → option_map_or (λ (z : LegState). is_new z.phase) o false ≡ true
    → option_map_or (λ (z : LegState). leg_waits z.phase) o false ≡ true → ⊥
new_leg_waits_not None is waiting = true≢false (sym is)
new_leg_waits_not (Some z) is waiting = new_not_waiting z.phase is waiting

-- and it does not hold

new_not_holding : (phase : LegPhase) → is_new phase ≡ true → leg_holds phase ≡ true → ⊥
new_not_holding leg.New is holding = true≢false (sym holding)
new_not_holding leg.Waiting is holding = true≢false (sym is)
new_not_holding leg.Ready is holding = true≢false (sym is)
new_not_holding leg.Running is holding = true≢false (sym is)
new_not_holding leg.Stopping is holding = true≢false (sym is)
new_not_holding (leg.Ended o) is holding = true≢false (sym is)

new_leg_holds_not : (o : Option LegState) → option_map_or (λ (z : LegState). is_new z.phase) o false ≡ true
    → option_map_or (λ (z : LegState). leg_holds z.phase) o false ≡ true → ⊥
new_leg_holds_not None is holding = true≢false (sym is)
new_leg_holds_not (Some z) is holding = new_not_holding z.phase is holding

-- ---- a holder that is there and is no new leg brings its key

module _ (runs : List RunState) (bindings : List RunBindings) (one : Holder) (there : is_there runs one ≡ true)
    (not_new : (p : LegSite) → is_new_at runs p ≡ true → Leg p ≡ one → ⊥) (told : AreTold runs bindings) where
  not_its_job : (r j : ℕ) → is_blocked_at runs r j ≡ true → r ≡ run_of one → (p : LegSite) → one ≡ Leg p → p.job ≡ j → ⊥
  not_its_job r j blocked of_run p is job =
      let z = some_of (leg_at runs p) (sym (ap (is_there runs) is) ∙ there) in
      not_blocked runs p z.0 z.1
      (subst (λ n. is_blocked_at runs n p.job ≡ true) (of_run ∙ ap run_of is)
      (subst (λ n. is_blocked_at runs r n ≡ true) (sym job) blocked))

  its_row : (r : ℕ) → r ≡ run_of one → slice_get (keys_spent one bindings) r ≡ option_map (spends one) (slice_get bindings r)
  its_row r same =
      ap (slice_get (keys_spent one bindings)) same ∙ at_changed (run_of one) (spends one) bindings
      ∙ ap (λ n. option_map (spends one) (slice_get bindings n)) (sym same)

  in_its_row : (r j : ℕ) (kept : RunBindings) (legs : List HolderKey) → is_blocked_at runs r j ≡ true → r ≡ run_of one
      → (o : Option RunBindings) → slice_get bindings r ≡ o → option_map (spends one) o ≡ Some kept
      → slice_get kept.keys.jobs j ≡ Some legs → AreLater (requests_of kept.jobs j) legs
  in_its_row r j kept legs blocked same None was e here = cc
  in_its_row r j kept legs blocked same (Some b) was e here =
      let is : spends one b ≡ kept = same_Some (spends one b) kept e in
      let before = room_still one j b legs (not_its_job r j blocked same) (ap (λ (k : RunBindings). slice_get k.keys.jobs j) is ∙ here) in
      subst (λ (k : RunBindings). AreLater (requests_of k.jobs j) legs) is (told.room r j b legs blocked was before)

  room_kept : (r j : ℕ) (kept : RunBindings) (legs : List HolderKey) → is_blocked_at runs r j ≡ true
      → slice_get (keys_spent one bindings) r ≡ Some kept → slice_get kept.keys.jobs j ≡ Some legs → AreLater (requests_of kept.jobs j) legs
  room_kept r j kept legs blocked at here =
      elim (cases_eq r (run_of one)) [
        | inr apart ↦ told.room r j kept legs blocked (sym (at_another (run_of one) (spends one) bindings r apart) ∙ at) here
        | inl same ↦ in_its_row r j kept legs blocked same (slice_get bindings r) refl (sym (its_row r same) ∙ at) here
      ]

  pub told_beside : AreTold runs (keys_spent one bindings)
  told_beside = record {
    groups = (λ h is_there_too. knows_still runs bindings one h (told.groups h is_there_too));
    tickets = (λ p is_new. ap (option_and_then ticket_in) (another_key one (Leg p) bindings (not_new p is_new)) ∙ told.tickets p is_new);
    room = room_kept;
    shaped = shaped_spent one bindings told.shaped;
  }

-- one that waits, and one that holds
pub told_spent : (runs : List RunState) (bindings : List RunBindings) (one : Holder) → waits runs one ≡ true → AreTold runs bindings
    → AreTold runs (keys_spent one bindings)
told_spent runs bindings one waiting told =
    told_beside runs bindings one (there_if_waits runs one waiting)
    (λ p is_new e. new_leg_waits_not (leg_at runs p) is_new (ap (waits runs) e ∙ waiting)) told

pub told_spent_by_one_that_holds : (runs : List RunState) (bindings : List RunBindings) (one : Holder) → holds runs one ≡ true
    → AreTold runs bindings → AreTold runs (keys_spent one bindings)
told_spent_by_one_that_holds runs bindings one holding told =
    told_beside runs bindings one (there_if_holds runs one holding)
    (λ p is_new e. new_leg_holds_not (leg_at runs p) is_new (ap (holds runs) e ∙ holding)) told

-- ---- one arrival fewer is to come

pub one_arrival_fewer : (h : Holder) (bindings : List RunBindings)
    → arrivals_to_come (keys_spent h bindings) + one_each (option_and_then ticket_in (holder_key_at bindings h)) ≡ arrivals_to_come bindings
one_arrival_fewer h bindings =
    let read : Option RunBindings → Option HolderKey = option_and_then (λ (kept : RunBindings). holder_key kept.keys h) in
    sum_lowered (λ (kept : RunBindings). arrivals_of kept.keys) (spends h) bindings (run_of h)
    (one_each (option_and_then ticket_in (read (slice_get bindings (run_of h)))))
    (λ kept at.
    ap (λ o. arrivals_of (with_spent h kept.keys) + one_each (option_and_then ticket_in (read o))) at ∙ arrivals_spent h kept.keys)
    (λ none. ap (λ o. one_each (option_and_then ticket_in (read o))) none)
