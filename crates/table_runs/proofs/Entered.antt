-- A newcomer is entered in the book of groups: all that `enter` promises, for one without a group and for one in a group.
use Rattle.std.specs.Prelude.{◌≡◌, ◌+◌, ◌∷◌, ℕ, is_some, List, [], find, length, Bool, true, false, Option, None, Some, if◌then◌else◌, refl}
use Rattle.std.specs.Option.{option_map_or}
use Rattle.std.proofs.Common.{ap, ap₂, subst, sym, ◌∙◌}
use Rattle.group_book.specs.Books.{BookState, Puts, slot_in}
use Rattle.group_book.specs.Slots.{with_newcomer}
use Rattle.group_name.specs.Group.{Group}
use Rattle.table_model.specs.Settling.{arrived}
use Rattle.table_model.specs.Groups.{cancels_in_progress, group_at, all_holders, is_in_progress_in, waits}
use Rattle.table_model.specs.inner.Holders.{first_conflicting, is_conflicting}
use Rattle.table_model.specs.inner.Resuming.{resume_at_arrival}
use Rattle.table_model.specs.Runs.{RunState}
use Rattle.table_model.specs.Sound.{RunsAreSound}
use Rattle.table_model.specs.Stops.{stopped, stopped_run}
use Rattle.table_model.specs.declared.holder.Holder.{Holder}
use Rattle.table_model.specs.declared.holder.Holder.TheVariants.{Leg, Run}
use Rattle.table_model.specs.declared.holder.HolderFilter.TheVariants.{InProgress, OthersPending}
use Rattle.table_model.specs.declared.sites.JobSite.{JobSite}
use Rattle.table_model.proofs.Changed.{length-changed_at}
use Rattle.table_model.proofs.JobKeeps.{with_job_of, with_leg_of}
use Rattle.table_bindings.specs.declared.bindings.RunBindings.{RunBindings}
use Rattle.table_runs.specs.inner.Arriving.{KeptBeside, stopped_if, with_first_stopped}
use Rattle.table_runs.specs.inner.GroupsKept.{GroupsAreKept}
use Rattle.table_runs.specs.inner.RowsKept.{RowState, keys_spent}
use Rattle.table_runs.proofs.ArrivalEnds.{arrives_alone, by_first_conflicts}
use Rattle.table_runs.proofs.Arriving.{in_progress_same, its_now, kept_alone, kept_arrived, nobody_conflicts, pending_conflicts, stopped_sound, to_stop_found}
use Rattle.table_runs.proofs.FoundBySlot.{find_same}

pub record HasEntered (one : Holder) (runs next : List RunState) (now : List RunBindings) (after : BookState Holder) (to_stop : Option Holder)
    : Type 0 where
  pub displaced : next ≡ with_first_stopped runs one OthersPending
  pub stops : to_stop ≡ (if cancels_in_progress runs one then first_conflicting next one InProgress else None)
  pub kept : GroupsAreKept next now after
  pub sound : RunsAreSound next
  pub group : group_at next one ≡ group_at runs one
  pub len : length next ≡ length runs

-- the rows as they are seen
pub entered_rows : (one : Holder) (runs next : List RunState) (now : List RunBindings) (after : BookState Holder) (to_stop : Option Holder)
    (rows : RowState) → rows.runs ≡ next → rows.bindings ≡ now → HasEntered one runs next now after to_stop
    → HasEntered one runs rows.runs rows.bindings after to_stop
entered_rows one runs next now after to_stop rows is_next is_now entered =
    subst (λ (xs : List RunState). HasEntered one runs xs rows.bindings after to_stop) (sym is_next)
    (subst (λ (bs : List RunBindings). HasEntered one runs next bs after to_stop) (sym is_now) entered)

-- ---- without a group

none_of_all : (hs : List Holder) → find (λ (h : Holder). false) hs ≡ None
none_of_all [] = refl
none_of_all (h ∷ hs) = none_of_all hs

nobody_in_progress : (runs : List RunState) (one : Holder) → group_at runs one ≡ None → first_conflicting runs one InProgress ≡ None
nobody_in_progress runs one none =
    find_same (is_conflicting runs one InProgress) (λ h. false)
    (λ h. ap (λ o. option_map_or (λ v. is_in_progress_in runs v h) o false) none) (all_holders runs)
    ∙ none_of_all (all_holders runs)

none_either_way : (b : Bool) (o : Option Holder) → o ≡ None → None ≡ (if b then o else None)
none_either_way true o is = sym is
none_either_way false o is = refl

pub entered_alone : (runs : List RunState) (bindings : List RunBindings) (book : BookState Holder) (one : Holder) → RunsAreSound runs
    → waits runs one ≡ true → group_at runs one ≡ None → KeptBeside one runs bindings book
    → HasEntered one runs runs (keys_spent one bindings) book None
entered_alone runs bindings book one sound waiting none kept = record {
  displaced = ap (λ o. stopped_if o runs) (sym (nobody_conflicts runs one none));
  stops = none_either_way (cancels_in_progress runs one) (first_conflicting runs one InProgress) (nobody_in_progress runs one none);
  kept = kept_alone runs bindings book one sound waiting none kept;
  sound = sound;
  group = refl;
  len = refl;
}

-- ---- as many runs

length_stopped : (o : Option Holder) (runs : List RunState) → length (stopped_if o runs) ≡ length runs
length_stopped None runs = refl
length_stopped (Some (Run r)) runs = length-changed_at r stopped_run runs
length_stopped (Some (Leg p)) runs = length-changed_at p.run (with_job_of p.job (with_leg_of p.leg stopped)) runs

-- ---- in a group

module _ (runs : List RunState) (bindings : List RunBindings) (before after : BookState Holder) (one : Holder) (g : Group)
    (sound : RunsAreSound runs) (waiting : waits runs one ≡ true) (its : group_at runs one ≡ Some g) (kept : KeptBeside one runs bindings before)
    (puts : Puts g (with_newcomer one (slot_in before.entries g)) before.entries after.entries) (fewer : after.expected + 1 ≡ before.expected) where
  -- it is in its group still, once the one that was pending has ended
  its_still : (o : Option Holder) → o ≡ (slot_in before.entries g).pending → group_at (stopped_if o runs) one ≡ Some g
  its_still None is = its
  its_still (Some d) is = its_now runs before.entries after.entries one g sound waiting its kept.exact puts d (sym is)

  pub entered_in_group : (displaced : Option Holder) → displaced ≡ (slot_in before.entries g).pending → (cancels : Bool)
      → cancels ≡ cancels_in_progress runs one → (to_stop : Option Holder)
      → to_stop ≡ (if cancels then (slot_in before.entries g).in_progress else None)
      → HasEntered one runs (stopped_if displaced runs) (keys_spent one bindings) after to_stop
  entered_in_group displaced is cancels flag to_stop stops =
      let next = stopped_if displaced runs in
      let all = kept_arrived runs bindings before after one g sound waiting its kept puts fewer displaced is in
      let found : (slot_in before.entries g).in_progress ≡ first_conflicting next one InProgress =
      to_stop_found next after.entries one g (slot_in before.entries g).in_progress all.exact (its_still displaced is)
      (sym (in_progress_same runs before.entries after.entries one g sound waiting its kept.exact puts g)) in
      record {
        displaced = ap (λ o. stopped_if o runs) (is ∙ sym (pending_conflicts runs before.entries one kept.exact g its));
        stops = stops ∙ ap₂ (λ (b : Bool) (o : Option Holder). if b then o else None) flag found;
        kept = all;
        sound = stopped_sound runs displaced sound;
        group = its_still displaced is ∙ sym its;
        len = length_stopped displaced runs;
      }

-- ---- the whole arrival, once the holder that was in progress is stopped where that is asked for

pub arrives : (runs mid last : List RunState) (bindings : List RunBindings) (book : BookState Holder) (one : Holder) (to_stop : Option Holder)
    → RunsAreSound runs → waits runs one ≡ true → KeptBeside one runs bindings book → mid ≡ with_first_stopped runs one OthersPending
    → to_stop ≡ (if cancels_in_progress runs one then first_conflicting mid one InProgress else None) → last ≡ stopped_if to_stop mid
    → last ≡ (arrived one runs).runs
arrives runs mid last bindings book one to_stop sound waiting kept is stops stopped_then = by (group_at runs one) refl
  where
    stops_first : to_stop ≡ (if cancels_in_progress runs one then first_conflicting (with_first_stopped runs one OthersPending) one InProgress else None)
    stops_first =
        stops ∙ ap (λ (xs : List RunState). if cancels_in_progress runs one then first_conflicting xs one InProgress else None) is

    then_first : last ≡ stopped_if to_stop (with_first_stopped runs one OthersPending)
    then_first = stopped_then ∙ ap (λ (xs : List RunState). stopped_if to_stop xs) is

    by : (o : Option Group) → group_at runs one ≡ o → last ≡ (arrived one runs).runs
    by (Some g) its = by_first_conflicts runs last bindings book one g to_stop sound waiting kept its stops_first then_first
    by None none =
        let alone : with_first_stopped runs one OthersPending ≡ runs = ap (λ o. stopped_if o runs) (nobody_conflicts runs one none) in
        let nobody : first_conflicting (with_first_stopped runs one OthersPending) one InProgress ≡ None =
        ap (λ (xs : List RunState). first_conflicting xs one InProgress) alone ∙ nobody_in_progress runs one none in
        let nobody_to_stop : to_stop ≡ None =
        stops_first
        ∙ sym (none_either_way (cancels_in_progress runs one) (first_conflicting (with_first_stopped runs one OthersPending) one InProgress) nobody) in
        arrives_alone runs last one none (then_first ∙ ap (λ o. stopped_if o (with_first_stopped runs one OthersPending)) nobody_to_stop)

-- ---- where settling begins to search

abbrev resumes : ℕ → Option Group → JobSite
resumes r o = record { run = if is_some o then 0 else r; job = 0 }

pub same_start : (mid next : List RunState) (r n : ℕ) → group_at mid (Run r) ≡ group_at next (Run r) → r ≡ n
    → resume_at_arrival mid r ≡ resume_at_arrival next n
same_start mid next r n group same = ap (resumes r) group ∙ ap (λ (k : ℕ). resume_at_arrival next k) same
