-- A completed run that begins again, and arrives in its group again, preserves the invariants of a table. Its old legs
-- are gone, on which no runner was at work, and kept leases of them belong to an earlier attempt.
use Rattle.std.specs.Prelude.{◌≡◌, ◌⊎◌, ℕ, ◌+◌, ◌≤◌, ◌<◌, List, Bool, true, false, Option, Some, None, option_map, option_and_then}
use Rattle.std.specs.Prelude.{slice_get, refl}
use Rattle.std.specs.Option.{option_map_or}
use Rattle.std.proofs.Common.{arith, ap, inl, inr, sym, ◌∙◌, subst}
use Rattle.std.proofs.lemmas.Bool.{and_from, and_parts, cases_eq, false≢true}
use Rattle.std.proofs.lemmas.Option.{none-some, same_Some}
use Rattle.definitions.specs.Limits.{last_attempt}
use Rattle.group_name.specs.Group.{Group, same_group as alike}
use Rattle.table_model.specs.Groups.{group_at, waits}
use Rattle.table_model.specs.Groups.{HasOneBeside, HasOneEach, holds, is_in, is_pending_in, is_in_progress_in, leg_holds, leg_waits, run_waits}
use Rattle.table_model.specs.Holders.{run_of}
use Rattle.table_model.specs.Runs.{again, leg_at, run_at, with_run, LegState, JobState, RunState, is_live}
use Rattle.table_model.specs.declared.sites.LegSite.{LegSite}
use Rattle.table_model.specs.declared.phases.LegPhase.{LegPhase}
use Rattle.table_model.specs.Sound.{AttemptsAreGiven}
use Rattle.table_model.specs.Step.{entered_again}
use Rattle.table_model.specs.TableState.{TableState}
use Rattle.table_model.proofs.Changed.{at_another, at_changed, length-changed_at}
use Rattle.table_model.proofs.Identity.{identity_at, identity_in, same_admitted}
use Rattle.table_model.proofs.LeaseReads.{LeasesAgree}
use Rattle.table_model.proofs.LegFacts.{attempt_at}
use Rattle.table_model.proofs.LegReads.{had_at, had_in, work_of, works_at, works_in}
use Rattle.table_model.proofs.NeedsSettled.{KeepsResults, result_in}
use Rattle.table_model.proofs.Optional.{from_map}
use Rattle.table_model.proofs.RunFits.{RunFits, RunsFit, admitted_at}
use Rattle.table_model.proofs.Settles.{Settles, fits_beside}
use Rattle.settling_laws.proofs.ArrivalKeeps.{arrival_one_each}
use Rattle.settling_laws.proofs.GroupStays.{same_group}
use Rattle.settling_laws.proofs.HoldersFade.{by_run, leg_passes, passes, run_passes}
use Rattle.settling_laws.proofs.HoldersKeep.{arrival_settles}
use Rattle.run_table.proofs.AdmitKeeps.{attempt_fits, no_lease}
use Rattle.run_table.proofs.AtWork.{fewer_at_work}
use Rattle.run_table.proofs.BeginsAgain.{BeginsAgain, no_work}
use Rattle.run_table.proofs.Entered.{no_leg_of_new_run}
use Rattle.run_table.proofs.Kept.{IsKept, StillHad, kept_settles, kept_still_had, still_identified}
use Rattle.run_table.proofs.RunnerPut.{holds_at}
use Rattle.table_model.specs.declared.holder.Holder.{Holder}
use Rattle.table_model.specs.declared.holder.Holder.TheVariants.{Run, Leg}

-- ---- leases of legs that are gone

-- if the legs that no runner was at work on are gone
leases_fewer : (last : ℕ) (had works had' works' : LegSite → Option ℕ) (holds : List ℕ → Option ℕ)
    → ((p : LegSite) (n : ℕ) → had' p ≡ Some n → had p ≡ Some n) → ((p : LegSite) → works' p ≡ works p)
    → ((p : LegSite) (n : ℕ) → works p ≡ Some n → had' p ≡ Some n) → LeasesAgree last had works holds → LeasesAgree last had' works' holds
leases_fewer last had works had' works' holds before same still agree = record {
  given = (λ p n e. agree.given p n (before p n e));
  differ = (λ p q n e f. agree.differ p q n (before p n e) (before q n f));
  work_is_had = (λ p n e. still p n (sym (same p) ∙ e));
  work_is_held = (λ p n e. agree.work_is_held p n (sym (same p) ∙ e));
  held_is_work = (λ k n e. let (p, f) = agree.held_is_work k n e in (p, same p ∙ f));
  held_once = agree.held_once;
}

-- ---- the run by itself

same_identity : (o : Option RunState) → identity_in (option_map again o) ≡ identity_in o
same_identity None = refl
same_identity (Some x) = refl

nothing_read : (f : LegState → Option ℕ) (j l : ℕ) (o : Option RunState)
    → option_and_then (λ (x : RunState). option_and_then (λ (y : JobState). option_and_then f (slice_get y.legs l)) (slice_get x.jobs j))
    (option_map again o) ≡ None
nothing_read f j l None = refl
nothing_read f j l (Some x) = no_lease f x.admitted j l

no_leg_passes : (test : LegPhase → Bool) (j l : ℕ) (o : Option RunState) → passes (run_passes test j l) (option_map again o) ≡ false
no_leg_passes test j l None = refl
no_leg_passes test j l (Some x) = no_leg_of_new_run test j l x.id x.number (x.attempt + 1) x.admitted

not_live : (o : Option RunState) → passes (λ (v : RunState). is_live v.phase) (option_map again o) ≡ false
not_live None = refl
not_live (Some x) = refl

-- ---- the runs with it

module _ (runs : List RunState) (r : ℕ) where
  abbrev next : List RunState
  next = with_run r again runs

  at_it : (k : ℕ) → k ≡ r → run_at next k ≡ option_map again (run_at runs r)
  at_it k same = ap (run_at next) same ∙ at_changed r again runs

  here : (k : ℕ) (x : RunState) → k ≡ r → run_at runs k ≡ Some x → run_at next k ≡ Some (again x)
  here k x same at = at_it k same ∙ ap (option_map again) (ap (run_at runs) (sym same) ∙ at)

  elsewhere : (k : ℕ) → (k ≡ r → ⊥) → run_at next k ≡ run_at runs k
  elsewhere k other = at_another r again runs k other

  pub again_identity : (k : ℕ) → identity_at next k ≡ identity_at runs k
  again_identity k =
      elim (cases_eq k r) [
        | inl same ↦ ap identity_in (at_it k same) ∙ same_identity (run_at runs r) ∙ ap identity_in (ap (run_at runs) (sym same))
        | inr other ↦ ap identity_in (elsewhere k other)
      ]

  again_admitted : (k : ℕ) → admitted_at next k ≡ admitted_at runs k
  again_admitted k = same_admitted runs next k (again_identity k)

  same_attempt : (k : ℕ) → (k ≡ r → ⊥) → attempt_at next k ≡ attempt_at runs k
  same_attempt k other = ap (option_map (λ (v : RunState). v.attempt)) (elsewhere k other)

  results_stay : (k : ℕ) → (k ≡ r → ⊥) → KeepsResults runs next k
  results_stay k other j a had = ap (option_and_then (λ (v : RunState). result_in v j)) (elsewhere k other) ∙ had

  pub again_fits : RunsFit runs → RunsFit next
  again_fits fit k y at =
      elim (cases_eq k r) [
        | inl same ↦
            let from = from_map again (run_at runs r) y (sym (at_it k same) ∙ at) in
            subst (RunFits next k) from.gives (attempt_fits next k from.value.id from.value.number (from.value.attempt + 1) from.value.admitted)
        | inr other ↦
            fits_beside runs next k y (again_identity k) (same_attempt k other) (results_stay k other)
            (fit k y (sym (elsewhere k other) ∙ at))
      ]

  pub again_still_had : StillHad runs next
  again_still_had = record {
    runs_stay = (λ k x at. elim (cases_eq k r) [
      | inl same ↦ (again x, here k x same at, omega arith)
      | inr other ↦ (x, elsewhere k other ∙ at, omega arith)
    ]);
    had = (λ p n x y at then_at same had. elim (cases_eq p.run r) [
      | inl is ↦
          let now : again x ≡ y = same_Some (again x) y (sym (here p.run x is at) ∙ then_at) in
          let later : x.attempt + 1 ≡ y.attempt = ap (λ (v : RunState). v.attempt) now in
          absurd (omega (arith, later, same))
      | inr other ↦ ap (option_and_then (λ (run : RunState). had_in run p.job p.leg)) (elsewhere p.run other) ∙ had
    ]);
    identities = (λ k x at. again_identity k);
  }

  again_is_given : (x : RunState) → run_at runs r ≡ Some x → x.attempt < last_attempt → AttemptsAreGiven runs → AttemptsAreGiven next
  again_is_given x at less given k y then_at =
      elim (cases_eq k r) [
        | inl same ↦
            let now : again x ≡ y = same_Some (again x) y (sym (here k x same (ap (run_at runs) same ∙ at)) ∙ then_at) in
            subst (λ (v : RunState). (1 ≤ v.attempt) × (v.attempt ≤ last_attempt)) now (omega arith, omega (arith, less))
        | inr other ↦ given k y (sym (elsewhere k other) ∙ then_at)
      ]

  -- ---- leases of its legs

  had_before : (p : LegSite) (n : ℕ) → had_at next p ≡ Some n → had_at runs p ≡ Some n
  had_before p n e =
      let read = option_and_then (λ (run : RunState). had_in run p.job p.leg) in
      elim (cases_eq p.run r) [
        | inl same ↦ absurd (none-some n
            (sym (ap read (at_it p.run same) ∙ nothing_read (λ z. z.lease) p.job p.leg (run_at runs r)) ∙ e))
        | inr other ↦ sym (ap read (elsewhere p.run other)) ∙ e
      ]

  module _ (x : RunState) (at : run_at runs r ≡ Some x) (idle : (j l : ℕ) → works_in x j l ≡ None) where
    no_work_there : (p : LegSite) → p.run ≡ r → works_at runs p ≡ None
    no_work_there p same =
        ap (option_and_then (λ (run : RunState). works_in run p.job p.leg)) (ap (run_at runs) same ∙ at) ∙ idle p.job p.leg

    same_work : (p : LegSite) → works_at next p ≡ works_at runs p
    same_work p =
        let read = option_and_then (λ (run : RunState). works_in run p.job p.leg) in
        elim (cases_eq p.run r) [
          | inl same ↦ ap read (at_it p.run same) ∙ nothing_read work_of p.job p.leg (run_at runs r) ∙ sym (no_work_there p same)
          | inr other ↦ ap read (elsewhere p.run other)
        ]

    work_still_had : ((p : LegSite) (n : ℕ) → works_at runs p ≡ Some n → had_at runs p ≡ Some n) → (p : LegSite) (n : ℕ)
        → works_at runs p ≡ Some n → had_at next p ≡ Some n
    work_still_had had p n e =
        elim (cases_eq p.run r) [
          | inl same ↦ absurd (none-some n (sym (no_work_there p same) ∙ e))
          | inr other ↦ ap (option_and_then (λ (run : RunState). had_in run p.job p.leg)) (elsewhere p.run other) ∙ had p n e
        ]

    again_agrees : (last : ℕ) (held : List ℕ → Option ℕ) → LeasesAgree last (had_at runs) (works_at runs) held
        → LeasesAgree last (had_at next) (works_at next) held
    again_agrees last held agree =
        leases_fewer last (had_at runs) (works_at runs) (had_at next) (works_at next) held had_before same_work
        (work_still_had agree.work_is_had) agree

  -- ---- holders that wait and holders in progress

  leg_beside : (test : LegPhase → Bool) (p : LegSite) → passes (leg_passes test) (leg_at next p) ≡ true
      → (p.run ≡ r → ⊥) × (passes (leg_passes test) (leg_at runs p) ≡ true)
  leg_beside test p e =
      let requested = run_passes test p.job p.leg in
      let of_run = sym (by_run test next p) ∙ e in
      elim (cases_eq p.run r) [
        | inl same ↦ absurd (false≢true
            (sym (ap (passes requested) (at_it p.run same) ∙ no_leg_passes test p.job p.leg (run_at runs r)) ∙ of_run))
        | inr other ↦ (other, by_run test runs p ∙ ap (passes requested) (sym (elsewhere p.run other)) ∙ of_run)
      ]

  pub again_waited : (h : Holder) → waits next h ≡ true → (h ≡ Run r) ⊎ ((run_of h ≡ r → ⊥) × (waits runs h ≡ true))
  again_waited (Run k) e =
      elim (cases_eq k r) [
        | inl same ↦ inl (ap Run same)
        | inr other ↦ inr (other, ap (passes (λ (v : RunState). run_waits v.phase)) (sym (elsewhere k other)) ∙ e)
      ]
  again_waited (Leg p) e = inr (leg_beside leg_waits p e)

  pub again_held : (h : Holder) → holds next h ≡ true → (run_of h ≡ r → ⊥) × (holds runs h ≡ true)
  again_held (Run k) e =
      let live = passes (λ (v : RunState). is_live v.phase) in
      elim (cases_eq k r) [
        | inl same ↦ absurd (false≢true (sym (ap live (at_it k same) ∙ not_live (run_at runs r)) ∙ e))
        | inr other ↦ (other, ap live (sym (elsewhere k other)) ∙ e)
      ]
  again_held (Leg p) e = leg_beside leg_holds p e

  pub again_waits : (x : RunState) → run_at runs r ≡ Some x → waits next (Run r) ≡ true
  again_waits x at = ap (passes (λ (v : RunState). run_waits v.phase)) (here r x refl at)

  -- ---- groups of the other runs stay

  pub group_beside : (h : Holder) → (run_of h ≡ r → ⊥) → group_at next h ≡ group_at runs h
  group_beside h other = same_group runs next h (elsewhere (run_of h) other)

  was_in : (g : Group) (h : Holder) → (run_of h ≡ r → ⊥) → is_in next g h ≡ true → is_in runs g h ≡ true
  was_in g h other e = ap (λ o. option_map_or (alike g) o false) (sym (group_beside h other)) ∙ e

  was_pending : (g : Group) (h : Holder) → (h ≡ Run r → ⊥) → is_pending_in next g h ≡ true → is_pending_in runs g h ≡ true
  was_pending g h another e =
      let parts = and_parts (is_in next g h) (waits next h) e in
      elim (again_waited h parts.1) [
        | inl same ↦ absurd (another same)
        | inr before ↦ and_from (is_in runs g h) (waits runs h) (was_in g h before.0 parts.0) before.1
      ]

  was_in_progress : (g : Group) (h : Holder) → is_in_progress_in next g h ≡ true → is_in_progress_in runs g h ≡ true
  was_in_progress g h e =
      let parts = and_parts (is_in next g h) (holds next h) e in
      let before = again_held h parts.1 in
      and_from (is_in runs g h) (holds runs h) (was_in g h before.0 parts.0) before.1

  pub beside_again : HasOneEach runs → HasOneBeside next (Run r)
  beside_again each = record {
    pending = (λ g h k not_h not_k e f. each.pending g h k (was_pending g h not_h e) (was_pending g k not_k f));
    in_progress = (λ g h k e f. each.in_progress g h k (was_in_progress g h e) (was_in_progress g k f));
  }

-- ---- in a table

pub entered_again_settles : (t : TableState) (r : ℕ) → RunsFit t.runs → Settles (with_run r again t.runs) (entered_again t r).runs
entered_again_settles t r fit = arrival_settles (Run r) (with_run r again t.runs) (again_fits t.runs r fit)

pub again_keeps : (t : TableState) (r attempt : ℕ) → IsKept t → BeginsAgain t.runs r attempt
    → IsKept (record t { runs = with_run r again t.runs })
again_keeps t r attempt s begins =
    let next = with_run r again t.runs in
    let x = begins.was in
    let idle = no_work t.runs r x (s.fit r x begins.there) begins.ended in
    let fit = again_fits t.runs r s.fit in
    record {
      identified = still_identified t.forgotten t.runs next (length-changed_at r again t.runs) (again_identity t.runs r) s.identified;
      attempts_are_given = again_is_given t.runs r x begins.there begins.below s.attempts_are_given;
      fit = fit;
      parallel_bounded = fewer_at_work t.runs next fit (again_admitted t.runs r)
          (λ p n e. sym (same_work t.runs r x begins.there idle p) ∙ e) s.parallel_bounded;
      agree = again_agrees t.runs r x begins.there idle t.last_lease (holds_at t.runners) s.agree;
      last_lease_in_range = s.last_lease_in_range;
      runners_in_order = s.runners_in_order;
      lasts_are_own = s.lasts_are_own;
      kept_are_had =
          (λ k v e. kept_still_had t.last_lease t.last_lease t.runs next (omega arith) (again_still_had t.runs r) v.last
          (s.kept_are_had k v e));
    }

pub entered_again_keeps : (t : TableState) (r attempt : ℕ) → IsKept t → BeginsAgain t.runs r attempt
    → IsKept (record t { runs = (entered_again t r).runs })
entered_again_keeps t r attempt s begins =
    kept_settles (record t { runs = with_run r again t.runs }) (entered_again t r).runs (again_keeps t r attempt s begins)
    (entered_again_settles t r s.fit)

pub entered_again_one_each : (t : TableState) (r attempt : ℕ) → RunsFit t.runs → BeginsAgain t.runs r attempt → HasOneEach t.runs
    → HasOneEach (entered_again t r).runs
entered_again_one_each t r attempt fit begins each =
    arrival_one_each (with_run r again t.runs) (again_fits t.runs r fit) (Run r) (again_waits t.runs r begins.was begins.there)
    (beside_again t.runs r each)
