-- A report preserves the invariants of a table: the leg of the lease ends, and its runner no longer holds it.
use Rattle.std.specs.Prelude.{◌≡◌, ℕ, ◌≤◌, List, nat_eq, Bool, true, false, is_some, Option, Some, None, option_and_then, if◌then◌else◌}
use Rattle.std.specs.Prelude.{refl}
use Rattle.std.specs.Option.{option_map_or}
use Rattle.std.proofs.Common.{arith, ap, sym, ◌∙◌, subst, inl, inr}
use Rattle.std.proofs.lemmas.Bool.{eqb-true, eq-eqb, true≢false}
use Rattle.std.proofs.lemmas.Slice.Eq.{bytes_eq-Decides}
use Rattle.std.proofs.lemmas.Option.{none-some}
use Rattle.wf_value.specs.declared.code.Code.TheVariants.{LeaseNotHeld}
use Rattle.wf_value.specs.declared.outcome.Outcome.{Outcome}
use Rattle.wf_value.specs.declared.outcome.Outcome.TheVariants as outcome
use Rattle.wf_value.proofs.OptionOr.{or_nothing}
use Rattle.run_plan.specs.declared.command.Done.{Done as Reported}
use Rattle.run_plan.specs.declared.reply.Reply.{Reply}
use Rattle.table_model.specs.Fitting.{has_lease, site_of_lease, is_at_work}
use Rattle.table_model.specs.Runs.{leg_at, leg_sites, with_job, with_leg, LegState}
use Rattle.table_model.specs.declared.sites.LegSite.{LegSite}
use Rattle.table_model.specs.Settling.{leg_in_phase, outcome_of}
use Rattle.run_plan.specs.LastCommand.{is_last_report}
use Rattle.table_model.specs.Sound.{IsLastOf, LeaseFits}
use Rattle.table_model.specs.Step.{refused, released, report_answer, reporting_runner}
use Rattle.table_model.specs.Stops.{with_ended, after_end, outcome_of_loss, stops_others, with_stopped_legs}
use Rattle.table_model.specs.TableState.{RunnerState, TableState, is_named, runner_named, answer_by_number, with_runner, holds_this}
use Rattle.table_model.specs.declared.phases.LegPhase.{LegPhase}
use Rattle.table_model.specs.declared.phases.LegPhase.TheVariants as leg
use Rattle.run_table.proofs.AtWork.{fewer_at_work}
use Rattle.run_table.proofs.ClaimKeeps.{had_changes, works_changes}
use Rattle.table_model.proofs.Found.{find_passes, none_found}
use Rattle.table_model.proofs.JobKeeps.{leg_in, leg_stays, job_is_now, job_is_open, with_leg_of}
use Rattle.settling_laws.proofs.HolderPlaces.{each_leg_place}
use Rattle.run_table.proofs.Kept.{IsKept, KeptIsHad, StillHad, attempts_still_given, stay_still_had, kept_settles, kept_still_had, still_identified}
use Rattle.table_model.proofs.LeaseReads.{ChangesAt, place_or_another, lease_ended, leases_same}
use Rattle.table_model.proofs.LegReads.{had_at, works_at, had_is, had_from_leg, works_from_leg, leg_from_had, work_parts}
use Rattle.table_model.proofs.Settles.{StayFit, admitted_stays, stay_on}
use Rattle.run_table.proofs.RunnerOrder.{names_still_rise}
use Rattle.run_table.proofs.RunnerPut.{each_put, holds_at, holds_changes, stood}
use Rattle.table_model.proofs.StopKeeps.{stop_settles}

-- ---- the leg of a lease

-- a lease found in an option is the one in it
one_there : {X : Type 0} (lease_of : X → Option ℕ) (lease : ℕ) (o : Option X)
    → option_map_or (λ x. option_map_or (λ held. nat_eq held lease) (lease_of x) false) o false ≡ true
    → option_and_then lease_of o ≡ Some lease
one_there lease_of lease None e = cc
one_there lease_of lease (Some x) e =
    elim (lease_of x) as (λ h. option_map_or (λ held. nat_eq held lease) h false ≡ true → h ≡ Some lease) [
      | None ↦ λ f. cc
      | Some n ↦ λ f. ap Some (eqb-true n lease f)
    ] e

pub holds_it : (lease : ℕ) (o : Option RunnerState) → holds_this lease o ≡ true → option_and_then (λ x. x.holds) o ≡ Some lease
holds_it = one_there (λ (x : RunnerState). x.holds)

pub has_it : (lease : ℕ) (o : Option LegState) → option_map_or (has_lease lease) o false ≡ true
    → option_and_then (λ y. y.lease) o ≡ Some lease
has_it = one_there (λ (y : LegState). y.lease)

is_it : (lease : ℕ) (z : LegState) → z.lease ≡ Some lease → has_lease lease z ≡ true
is_it lease z e = ap (λ h. option_map_or (λ held. nat_eq held lease) h false) e ∙ eq-eqb lease lease refl

not_held : (b : Bool) (x : Reply) → (if b then None else Some x) ≡ None → b ≡ true
not_held true x e = refl
not_held false x e = cc

at_work_is_unended : (phase : LegPhase) → is_at_work phase ≡ true → is_some (outcome_of phase) ≡ false
at_work_is_unended leg.New e = cc
at_work_is_unended leg.Waiting e = cc
at_work_is_unended leg.Ready e = cc
at_work_is_unended leg.Running e = refl
at_work_is_unended leg.Stopping e = refl
at_work_is_unended (leg.Ended r) e = cc

ended_fits : (result : Outcome) (lease : Option ℕ) (n : ℕ) → lease ≡ Some n → LeaseFits (leg.Ended result) lease
ended_fits outcome.Success lease n e = ap is_some e
ended_fits outcome.Failure lease n e = ap is_some e
ended_fits outcome.Cancelled lease n e = tt

-- ---- the leg at its place ends

module _ (t : TableState) (new : RunnerState) (lease : ℕ) (result : Outcome) (s : IsKept t)
    (held : holds_this lease (runner_named t.runners new.name) ≡ true) (free : new.holds ≡ None)
    (own : IsLastOf new.name new.number new.last) (kept_had : KeptIsHad t.last_lease t.runs new.last) where
  held_here : holds_at t.runners new.name ≡ Some lease
  held_here = holds_it lease (runner_named t.runners new.name) held

  holds_no_more : ChangesAt (holds_at t.runners) (holds_at (with_runner t.runners new)) new.name None
  holds_no_more =
      subst (λ (o : Option ℕ). ChangesAt (holds_at t.runners) (holds_at (with_runner t.runners new)) new.name o) free
      (holds_changes t.runners new)

  -- a leg with the lease is the one at work
  pub work_at : (p : LegSite) → had_at t.runs p ≡ Some lease → works_at t.runs p ≡ Some lease
  work_at p had =
      let (q, works) = s.agree.held_is_work new.name lease held_here in
      ap (works_at t.runs) (s.agree.differ p q lease had (s.agree.work_is_had q lease works)) ∙ works

  ended_keeps : (p : LegSite) → had_at t.runs p ≡ Some lease
      → IsKept (record t {
        runs = with_leg p (leg_in_phase (leg.Ended result)) t.runs;
        runners =
            with_runner t.runners new;
      })
  ended_keeps p had =
      let f = leg_in_phase (leg.Ended result) in
      let next = with_leg p f t.runs in
      let from = leg_from_had t.runs p lease had in
      let z = from.value in
      let work_here = work_at p had in
      let working = (work_parts (is_at_work z.phase) z.lease lease (sym (works_from_leg t.runs p z from.is) ∙ work_here)).0 in
      let stay = leg_stays t.runs s.fit p z f (leg_in t.runs p z from.is) (at_work_is_unended z.phase working)
      (ended_fits result z.lease lease from.gives) in
      let changes = had_changes t.runs p z f from.is in
      let same = same_had p z from.is changes in
      let still : StillHad t.runs next = stay_still_had t.runs next stay.same_identity stay.same_attempt (λ q n h. same q ∙ h) in
      record {
        identified = still_identified t.forgotten t.runs next stay.same_length stay.same_identity s.identified;
        attempts_are_given = attempts_still_given t.runs next stay.same_attempt s.attempts_are_given;
        fit = stay.fit;
        parallel_bounded = fewer_at_work t.runs next stay.fit (admitted_stays t.runs next stay)
            (λ q n e. worked_before q p n (works_changes t.runs p z f from.is) e) s.parallel_bounded;
        agree = leases_same t.last_lease (had_at t.runs) (works_at next) (had_at next) (works_at next)
            (holds_at (with_runner t.runners new)) (holds_at (with_runner t.runners new)) same (λ q. refl) (λ k. refl)
            (lease_ended t.last_lease (had_at t.runs) (works_at t.runs) (works_at next) (holds_at t.runners)
            (holds_at (with_runner t.runners new)) p new.name lease s.agree work_here held_here
            (works_changes t.runs p z f from.is) holds_no_more);
        last_lease_in_range = s.last_lease_in_range;
        runners_in_order = names_still_rise t.runners new s.runners_in_order;
        lasts_are_own = each_put t.runners new (λ x. IsLastOf x.name x.number x.last) own s.lasts_are_own;
        kept_are_had =
            each_put t.runners new (λ x. KeptIsHad t.last_lease next x.last)
            (kept_still_had t.last_lease t.last_lease t.runs next (omega arith) still new.last kept_had)
            (λ k x e. kept_still_had t.last_lease t.last_lease t.runs next (omega arith) still x.last (s.kept_are_had k x e));
      }
    where
      worked_before : (q p : LegSite) (n : ℕ)
          → ChangesAt (works_at t.runs) (works_at (with_leg p (leg_in_phase (leg.Ended result)) t.runs)) p None
          → works_at (with_leg p (leg_in_phase (leg.Ended result)) t.runs) q ≡ Some n → works_at t.runs q ≡ Some n
      worked_before q p n changes e =
          elim (place_or_another q p) [
            | inl same ↦ absurd (none-some n (sym changes.here
                ∙ ap (works_at (with_leg p (leg_in_phase (leg.Ended result)) t.runs)) (sym same) ∙ e))
            | inr other ↦ sym (changes.elsewhere q other) ∙ e
          ]

      same_had : (p : LegSite) (z : LegState) → leg_at t.runs p ≡ Some z
          → ChangesAt (had_at t.runs) (had_at (with_leg p (leg_in_phase (leg.Ended result)) t.runs)) p z.lease
          → (q : LegSite) → had_at (with_leg p (leg_in_phase (leg.Ended result)) t.runs) q ≡ had_at t.runs q
      same_had p z is changes q =
          elim (place_or_another q p) [
            | inl e ↦ ap (had_at (with_leg p (leg_in_phase (leg.Ended result)) t.runs)) e ∙ changes.here
                ∙ sym (had_from_leg t.runs p z is) ∙ ap (had_at t.runs) (sym e)
            | inr n ↦ changes.elsewhere q n
          ]

  -- whether or not the other legs of its job are stopped
  after_end_keeps : (p : LegSite) → had_at t.runs p ≡ Some lease
      → IsKept (record t { runs = after_end p result t.runs; runners = with_runner t.runners new })
  after_end_keeps p had =
      let f = leg_in_phase (leg.Ended result) in
      let ended = with_leg p f t.runs in
      let runners = with_runner t.runners new in
      let from = leg_from_had t.runs p lease had in
      let z = from.value in
      let is_in = leg_in t.runs p z from.is in
      let working = (work_parts (is_at_work z.phase) z.lease lease (sym (works_from_leg t.runs p z from.is) ∙ work_at p had)).0 in
      let is_open = job_is_open t.runs s.fit p z f is_in (at_work_is_unended z.phase working)
      (ended_fits result z.lease lease from.gives) in
      let kept = ended_keeps p had in
      elim (stops_others t.runs p result) as
      (λ b. IsKept (record t { runs = if b then with_job p.run p.job with_stopped_legs ended else ended; runners = runners })) [
        | false ↦ kept
        | true ↦
            kept_settles (record t { runs = ended; runners = runners }) (with_job p.run p.job with_stopped_legs ended) kept
            (stop_settles ended kept.fit p.run p.job (with_leg_of p.leg f is_in.job) (job_is_now t.runs p z f is_in) is_open)
      ]

  after_end_stays : (p : LegSite) → had_at t.runs p ≡ Some lease → StayFit t.runs (after_end p result t.runs)
  after_end_stays p had =
      let f = leg_in_phase (leg.Ended result) in
      let ended = with_leg p f t.runs in
      let from = leg_from_had t.runs p lease had in
      let z = from.value in
      let is_in = leg_in t.runs p z from.is in
      let working = (work_parts (is_at_work z.phase) z.lease lease (sym (works_from_leg t.runs p z from.is) ∙ work_at p had)).0 in
      let unended = at_work_is_unended z.phase working in
      let fits = ended_fits result z.lease lease from.gives in
      let stay = leg_stays t.runs s.fit p z f is_in unended fits in
      let is_open = job_is_open t.runs s.fit p z f is_in unended fits in
      elim (stops_others t.runs p result) as
      (λ b. StayFit t.runs (if b then with_job p.run p.job with_stopped_legs ended else ended)) [
        | false ↦ stay
        | true ↦
            stay_on t.runs ended (with_job p.run p.job with_stopped_legs ended) stay
            (stop_settles ended stay.fit p.run p.job (with_leg_of p.leg f is_in.job) (job_is_now t.runs p z f is_in) is_open).stay
      ]

  -- that leg is found
  lost_lease : site_of_lease t.runs lease ≡ None → ⊥
  lost_lease none =
      let (p, works) = s.agree.held_is_work new.name lease held_here in
      let from = leg_from_had t.runs p lease (s.agree.work_is_had p lease works) in
      let test = λ (q : LegSite). option_map_or (has_lease lease) (leg_at t.runs q) false in
      let fails = each_leg_place (λ q. test q ≡ false) t.runs p from.value (none_found test (leg_sites t.runs) none) from.is in
      let passes : test p ≡ true =
      ap (λ o. option_map_or (has_lease lease) o false) from.is ∙ is_it lease from.value from.gives in
      true≢false (sym passes ∙ fails)

  pub lease_ends : IsKept
      (record t { runs = with_ended lease result t.runs; runners = with_runner t.runners new })
  lease_ends =
      elim (site_of_lease t.runs lease) as (λ o. site_of_lease t.runs lease ≡ o
      → IsKept (record t {
        runs = option_map_or (λ p. after_end p result t.runs) o t.runs;
        runners =
            with_runner t.runners new;
      })) [
        | None ↦ λ is. absurd (lost_lease is)
        | Some p ↦ λ is.
            let test = λ (q : LegSite). option_map_or (has_lease lease) (leg_at t.runs q) false in
            let has = has_it lease (leg_at t.runs p) (find_passes test (leg_sites t.runs) p is) in
            after_end_keeps p (sym (had_is t.runs p) ∙ has)
      ] refl

  pub lease_end_stays : StayFit t.runs (with_ended lease result t.runs)
  lease_end_stays =
      elim (site_of_lease t.runs lease) as
      (λ o. site_of_lease t.runs lease ≡ o → StayFit t.runs (option_map_or (λ p. after_end p result t.runs) o t.runs)) [
        | None ↦ λ is. absurd (lost_lease is)
        | Some p ↦ λ is.
            let test = λ (q : LegSite). option_map_or (has_lease lease) (leg_at t.runs q) false in
            let has = has_it lease (leg_at t.runs p) (find_passes test (leg_sites t.runs) p is) in
            after_end_stays p (sym (had_is t.runs p) ∙ has)
      ] refl

-- ---- a report

pub held_for_report : (t : TableState) (report : Reported) → report_answer t report ≡ None
    → holds_this report.lease (runner_named t.runners report.runner) ≡ true
held_for_report t report none =
    let runner = runner_named t.runners report.runner in
    let looked = or_nothing (answer_by_number runner report.number (is_last_report report))
    (if holds_this report.lease runner then None else Some (refused LeaseNotHeld)) none in
    not_held (holds_this report.lease runner) (refused LeaseNotHeld) looked.1

pub report_keeps : (t : TableState) (report : Reported) → IsKept t → report_answer t report ≡ None
    → IsKept (record t { runs = with_ended report.lease report.result t.runs; runners = with_runner t.runners (reporting_runner report) })
report_keeps t report s none =
    lease_ends t (reporting_runner report) report.lease report.result s (held_for_report t report none) refl (refl, refl) tt

pub report_stays : (t : TableState) (report : Reported) → IsKept t → report_answer t report ≡ None
    → StayFit t.runs (with_ended report.lease report.result t.runs)
report_stays t report s none =
    lease_end_stays t (reporting_runner report) report.lease report.result s (held_for_report t report none) refl (refl, refl) tt

-- ---- a runner is lost

pub held_for_loss : (t : TableState) (name : List ℕ) (runner : RunnerState) (lease : ℕ) → runner_named t.runners name ≡ Some runner
    → runner.holds ≡ Some lease
    → (runner_named t.runners runner.name ≡ Some runner) × (holds_this lease (runner_named t.runners runner.name) ≡ true)
held_for_loss t name runner lease named holds =
    let same : runner.name ≡ name = (bytes_eq-Decides runner.name name).0 (find_passes (is_named name) t.runners runner named) in
    let is : runner_named t.runners runner.name ≡ Some runner = ap (runner_named t.runners) same ∙ named in (
      is,
      ap (holds_this lease) is ∙ ap (λ h. option_map_or (λ n. nat_eq n lease) h false) holds ∙ eq-eqb lease lease refl,
    )

pub loss_keeps : (t : TableState) (name : List ℕ) (runner : RunnerState) (lease : ℕ) → IsKept t → runner_named t.runners name ≡ Some runner
    → runner.holds ≡ Some lease
    → IsKept (record t {
      runs = with_ended lease (outcome_of_loss t.runs lease) t.runs;
      runners =
          with_runner t.runners (released runner);
    })
loss_keeps t name runner lease s named holds =
    let held = held_for_loss t name runner lease named holds in
    let at = stood t.runners runner.name in
    lease_ends t (released runner) lease (outcome_of_loss t.runs lease) s held.1 refl (s.lasts_are_own at.place runner (at.was ∙ held.0))
    (s.kept_are_had at.place runner (at.was ∙ held.0))

pub loss_stays : (t : TableState) (name : List ℕ) (runner : RunnerState) (lease : ℕ) → IsKept t → runner_named t.runners name ≡ Some runner
    → runner.holds ≡ Some lease → StayFit t.runs (with_ended lease (outcome_of_loss t.runs lease) t.runs)
loss_stays t name runner lease s named holds =
    let held = held_for_loss t name runner lease named holds in
    let at = stood t.runners runner.name in
    lease_end_stays t (released runner) lease (outcome_of_loss t.runs lease) s held.1 refl
    (s.lasts_are_own at.place runner (at.was ∙ held.0)) (s.kept_are_had at.place runner (at.was ∙ held.0))
