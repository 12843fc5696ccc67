-- A claim preserves the invariants of a table: the leg that it gets runs under the lease after the last, or no leg is
-- ready.
use Rattle.std.specs.Prelude.{◌≡◌, ℕ, ◌+◌, ◌<◌, ◌≤◌, ◌&&◌, List, [], nat_le, nat_lt, Bool, true, false, is_some, Option, Some, None}
use Rattle.std.specs.Prelude.{option_and_then, option_map, slice_get, count_by, if◌then◌else◌, refl}
use Rattle.std.specs.Option.{option_map_or}
use Rattle.std.proofs.Common.{arith, ap, sym, ◌∙◌, subst, inl, inr}
use Rattle.std.proofs.lemmas.Bool.{cases_eq, and_parts, leb-false, ltb-true}
use Rattle.std.proofs.lemmas.Option.{none-some, slice_get_within}
use Rattle.definitions.specs.Limits.{last_number}
use Rattle.wf_value.specs.declared.code.Code.TheVariants.{HasLease, LastCounter}
use Rattle.wf_value.proofs.OptionOr.{or_nothing}
use Rattle.run_plan.specs.declared.command.Claim.{Claim as Claimed}
use Rattle.run_plan.specs.declared.reply.Reply.{Reply}
use Rattle.table_model.specs.Runs.{changed_at, job_at, leg_at, leg_sites, run_at, with_leg, leased_leg, LegState, JobState, RunState}
use Rattle.table_model.specs.Fitting.{is_ready, is_served, may_run_too, fits, first_fit, has_room, legs_at_work, most_at_work}
use Rattle.table_model.specs.declared.sites.LegSite.{LegSite}
use Rattle.table_model.specs.Settling.{leg_has_ended, result_at}
use Rattle.run_plan.specs.LastCommand.{is_last_claim}
use Rattle.table_model.specs.Sound.{IsLastOf, ParallelIsBounded, LeaseFits, LegsFit}
use Rattle.wf_value.specs.declared.outcome.JobResult.{JobResult}
use Rattle.table_model.specs.LegContext.{planned_legs}
use Rattle.table_model.specs.declared.phases.JobPhase.{JobPhase}
use Rattle.table_model.specs.declared.phases.JobPhase.TheVariants as job
use Rattle.table_model.proofs.Optional.{from_and_then, from_map}
use Rattle.table_model.specs.Step.{refused, has_no_lease_left, claim_answer, claiming_runner, kept_lease_at}
use Rattle.table_model.specs.TableState.{RunnerState, TableState, runner_named, answer_by_number, with_runner, holds_lease}
use Rattle.run_plan.specs.declared.last_command.ClaimReply.TheVariants as given
use Rattle.table_model.specs.declared.phases.LegPhase.{LegPhase}
use Rattle.table_model.specs.declared.phases.LegPhase.TheVariants as leg
use Rattle.table_model.proofs.Found.{find_passes}
use Rattle.run_table.proofs.AtWork.{at_work, one_at_work, at_most_one, fewer_in_job, most_same}
use Rattle.table_model.proofs.JobKeeps.{leg_in, leg_stays, leg_now, leg_elsewhere, job_is_now, with_leg_of}
use Rattle.settling_laws.proofs.Lowered.{sum_of_changed}
use Rattle.run_table.proofs.Kept.{IsKept, KeptIsHad, WasHad, attempts_still_given, kept_still_had, stay_still_had, lease_reply_same, still_identified}
use Rattle.table_model.proofs.LeaseReads.{ChangesAt, names_same, place_or_another, lease_given, leases_same}
use Rattle.table_model.proofs.LegReads.{work_of, had_at, works_at, had_is, works_is, had_from_leg, works_from_leg}
use Rattle.table_model.proofs.RunFits.{RunsFit, admitted_at, planned_legs_same, jobs_fit, leases_fit}
use Rattle.table_model.proofs.Settles.{admitted_stays}
use Rattle.run_table.proofs.RunnerOrder.{names_still_rise}
use Rattle.run_table.proofs.RunnerPut.{each_put, holds_at, holds_changes}

-- ---- what was checked first

looked_first : (a b : Bool) (x y : Reply) → (if a then Some x else (if b then Some y else None)) ≡ None → (a ≡ false) × (b ≡ false)
looked_first true b x y e = cc
looked_first false true x y e = cc
looked_first false false x y e = (refl, refl)

-- a runner that holds no lease, or no runner
holds_none : (o : Option RunnerState) → holds_lease o ≡ false → option_and_then (λ x. x.holds) o ≡ None
holds_none None e = refl
holds_none (Some x) e =
    elim (x.holds) as (λ h. is_some h ≡ false → h ≡ None) [
      | None ↦ λ f. refl
      | Some n ↦ λ f. cc
    ] e

-- ---- the leg that fits

pub record ReadyLeg (runs : List RunState) (p : LegSite) : Type 0 where
  pub leg_of : LegState
  pub is : leg_at runs p ≡ Some leg_of
  pub ready : leg_of.phase ≡ leg.Ready

is_ready_ready : (phase : LegPhase) → is_ready phase ≡ true → phase ≡ leg.Ready
is_ready_ready leg.New e = cc
is_ready_ready leg.Waiting e = cc
is_ready_ready leg.Ready e = refl
is_ready_ready leg.Running e = cc
is_ready_ready leg.Stopping e = cc
is_ready_ready (leg.Ended r) e = cc

ready_at : (runs : List RunState) (p : LegSite) (o : Option LegState) → leg_at runs p ≡ o
    → option_map_or (λ l. is_ready l.phase) o false ≡ true → ReadyLeg runs p
ready_at runs p None is e = cc
ready_at runs p (Some z) is e = record { leg_of = z; is = is; ready = is_ready_ready z.phase e }

pub fitting_leg : (labels : List (List ℕ)) (runs : List RunState) (p : LegSite) → first_fit labels runs ≡ Some p → ReadyLeg runs p
fitting_leg labels runs p e =
    ready_at runs p (leg_at runs p) refl
    (and_parts (option_map_or (λ l. is_ready l.phase) (leg_at runs p) false) (may_run_too runs p && is_served labels runs p)
    (find_passes (fits labels runs) (leg_sites runs) p e)).0

-- and its job has room
fitting_room : (labels : List (List ℕ)) (runs : List RunState) (p : LegSite) → first_fit labels runs ≡ Some p → may_run_too runs p ≡ true
fitting_room labels runs p e =
    (and_parts (may_run_too runs p) (is_served labels runs p)
    (and_parts (option_map_or (λ l. is_ready l.phase) (leg_at runs p) false) (may_run_too runs p && is_served labels runs p)
    (find_passes (fits labels runs) (leg_sites runs) p e)).1).0

pub ready_has_no_lease : (phase : LegPhase) (lease : Option ℕ) → phase ≡ leg.Ready → LeaseFits phase lease → lease ≡ None
ready_has_no_lease phase lease e fits = subst (λ (x : LegPhase). LeaseFits x lease) e fits

-- ---- what is read after a leg has changed

pub had_changes : (runs : List RunState) (p : LegSite) (z : LegState) (f : LegState → LegState) → leg_at runs p ≡ Some z
    → ChangesAt (had_at runs) (had_at (with_leg p f runs)) p (f z).lease
had_changes runs p z f is =
    let at = leg_in runs p z is in
    record {
      here = had_from_leg (with_leg p f runs) p (f z) (leg_now runs p z f at);
      elsewhere = (λ q n. sym (had_is (with_leg p f runs) q)
          ∙ ap (option_and_then (λ (y : LegState). y.lease)) (leg_elsewhere runs p z f at q n) ∙ had_is runs q);
    }

pub works_changes : (runs : List RunState) (p : LegSite) (z : LegState) (f : LegState → LegState) → leg_at runs p ≡ Some z
    → ChangesAt (works_at runs) (works_at (with_leg p f runs)) p (work_of (f z))
works_changes runs p z f is =
    let at = leg_in runs p z is in
    record {
      here = works_from_leg (with_leg p f runs) p (f z) (leg_now runs p z f at);
      elsewhere = (λ q n. sym (works_is (with_leg p f runs) q) ∙ ap (option_and_then work_of) (leg_elsewhere runs p z f at q n)
          ∙ works_is runs q);
    }

-- ---- one more leg is at work

under : (at_work most : ℕ) (bound : Option ℕ) → bound ≡ Some most → option_map_or (λ n. nat_lt at_work n) bound true ≡ true
    → at_work < most
under at_work most bound is e =
    ltb-true at_work most (sym (ap (λ o. option_map_or (λ n. nat_lt at_work n) o true) is) ∙ e)

one_more : (legs : List LegState) (l : ℕ) (f : LegState → LegState) (z : LegState) → slice_get legs l ≡ Some z
    → count_by at_work (changed_at l f legs) ≤ count_by at_work legs + 1
one_more legs l f z was =
    let sum = sum_of_changed one_at_work legs l f z was in
    let most = at_most_one (at_work (f z)) in
    omega (arith, sum, most)

module _ (runs : List RunState) (p : LegSite) (z : LegState) (f : LegState → LegState) (is : leg_at runs p ≡ Some z)
    (room : may_run_too runs p ≡ true) (same : (r : ℕ) → admitted_at (with_leg p f runs) r ≡ admitted_at runs r)
    (fit : RunsFit (with_leg p f runs)) (bounded : ParallelIsBounded runs) where
  -- its own job had room
  bounded_here : (y : JobState) (most : ℕ) → job_at (with_leg p f runs) p.run p.job ≡ Some y → most_at_work runs p.run p.job ≡ Some most
      → legs_at_work y ≤ most
  bounded_here y most at bound =
      let is_in = leg_in runs p z is in
      let was = ap (option_and_then (λ (x : RunState). slice_get x.jobs p.job)) is_in.place.run_is ∙ is_in.place.job_is in
      let has : has_room runs p.run p.job is_in.job ≡ true = sym (ap (λ o. option_map_or (has_room runs p.run p.job) o false) was) ∙ room in
      let less = under (legs_at_work is_in.job) most (most_at_work runs p.run p.job) bound has in
      let more = one_more is_in.job.legs p.leg f z is_in.leg_is in
      let now : with_leg_of p.leg f is_in.job ≡ y = some_job y (sym (job_is_now runs p z f is_in) ∙ at) in
      subst (λ (v : JobState). legs_at_work v ≤ most) now (omega (arith, less, more))
    where
      some_job : (y : JobState) → Some (with_leg_of p.leg f (leg_in runs p z is).job) ≡ Some y
          → with_leg_of p.leg f (leg_in runs p z is).job ≡ y
      some_job y e = cc

  -- and the others are unchanged
  bounded_elsewhere : (r j : ℕ) (y : JobState) (most : ℕ) → ((l : ℕ) → record { run = r; job = j; leg = l } ≡ p → ⊥)
      → job_at (with_leg p f runs) r j ≡ Some y → most_at_work runs r j ≡ Some most → legs_at_work y ≤ most
  bounded_elsewhere r j y most other at bound =
      let changes = works_changes runs p z f is in
      fewer_in_job runs (with_leg p f runs) fit r j y most at
      (λ l n e. sym (changes.elsewhere (record { run = r; job = j; leg = l }) (other l)) ∙ e)
      (λ x was. bounded r j x most was bound)

  pub leased_bounded : ParallelIsBounded (with_leg p f runs)
  leased_bounded r j y most at bound =
      let bound_before = sym (most_same runs (with_leg p f runs) r j (same r)) ∙ bound in
      elim (cases_eq r p.run) [
        | inr n ↦ bounded_elsewhere r j y most (λ l e. n (ap (λ (q : LegSite). q.run) e)) at bound_before
        | inl s ↦ elim (cases_eq j p.job) [
          | inr n ↦ bounded_elsewhere r j y most (λ l e. n (ap (λ (q : LegSite). q.job) e)) at bound_before
          | inl t ↦ bounded_here y most
              (ap (λ (i : ℕ). job_at (with_leg p f runs) i p.job) (sym s) ∙ ap (λ (i : ℕ). job_at (with_leg p f runs) r i) (sym t) ∙ at)
              (ap (λ (i : ℕ). most_at_work runs i p.job) (sym s) ∙ ap (λ (i : ℕ). most_at_work runs r i) (sym t) ∙ bound_before)
        ]
      ]

-- ---- no leg is ready

pub serving_keeps : (t : TableState) (claim : Claimed) → IsKept t → claim_answer t claim ≡ None
    → IsKept (record t { runners = with_runner t.runners (claiming_runner claim None given.Nothing) })
serving_keeps t claim s none =
    let new = claiming_runner claim None given.Nothing in
    let runner = runner_named t.runners claim.runner in
    let looked = or_nothing (answer_by_number runner claim.number (is_last_claim claim))
    (if holds_lease runner then Some (refused HasLease) else
    (if has_no_lease_left t claim then Some (refused LastCounter) else None)) none in
    let free = holds_none runner
    (looked_first (holds_lease runner) (has_no_lease_left t claim) (refused HasLease) (refused LastCounter) looked.1).0 in
    let changes = holds_changes t.runners new in
    record {
      identified = s.identified;
      attempts_are_given = s.attempts_are_given;
      fit = s.fit;
      parallel_bounded = s.parallel_bounded;
      agree = leases_same t.last_lease (had_at t.runs) (works_at t.runs) (had_at t.runs) (works_at t.runs) (holds_at t.runners)
          (holds_at (with_runner t.runners new)) (λ q. refl) (λ q. refl) (same_holds changes free) s.agree;
      last_lease_in_range = s.last_lease_in_range;
      runners_in_order = names_still_rise t.runners new s.runners_in_order;
      lasts_are_own = each_put t.runners new (λ x. IsLastOf x.name x.number x.last) (refl, refl) s.lasts_are_own;
      kept_are_had = each_put t.runners new (λ x. KeptIsHad t.last_lease t.runs x.last) tt s.kept_are_had;
    }
  where
    same_holds : ChangesAt (holds_at t.runners) (holds_at (with_runner t.runners (claiming_runner claim None given.Nothing)))
        claim.runner None
        → holds_at t.runners claim.runner ≡ None
        → (name : List ℕ) → holds_at (with_runner t.runners (claiming_runner claim None given.Nothing)) name ≡ holds_at t.runners name
    same_holds changes before name =
        elim (names_same name claim.runner) [
          | inl e ↦ ap (holds_at (with_runner t.runners (claiming_runner claim None given.Nothing))) e ∙ changes.here ∙ sym before
              ∙ ap (holds_at t.runners) (sym e)
          | inr n ↦ changes.elsewhere name n
        ]

-- ---- a leg is leased

no_lease_left : (o : Option LegSite) (p : LegSite) (b : Bool) → o ≡ Some p → (is_some o && b) ≡ false → b ≡ false
no_lease_left o p b is e = sym (ap (λ (v : Option LegSite). is_some v && b) is) ∙ e

-- a leg that had no lease has the new one, and the others keep theirs
still_had : (before after : LegSite → Option ℕ) (at : LegSite) (new : Option ℕ) → ChangesAt before after at new → before at ≡ None
    → (p : LegSite) (n : ℕ) → before p ≡ Some n → after p ≡ Some n
still_had before after at new changes free p n e =
    elim (place_or_another p at) [
      | inl s ↦ absurd (none-some n (sym free ∙ ap before (sym s) ∙ e))
      | inr m ↦ changes.elsewhere p m ∙ e
    ]

within_plan : (planned : ℕ) (gathered : JobResult) (phase : JobPhase) (legs : List LegState) (l : ℕ) (z : LegState)
    → LegsFit planned gathered phase legs → slice_get legs l ≡ Some z → l < planned
within_plan planned gathered job.Blocked legs l z fits at =
    let no : slice_get [] l ≡ Some z = subst (λ (ls : List LegState). slice_get ls l ≡ Some z) fits at in cc
within_plan planned gathered job.Open legs l z fits at = let within = slice_get_within legs l z at in omega (arith, within, fits)
within_plan planned gathered (job.Finished r) legs l z (inl none) at =
    let no : slice_get [] l ≡ Some z = subst (λ (ls : List LegState). slice_get ls l ≡ Some z) none.0 at in cc
within_plan planned gathered (job.Finished r) legs l z (inr all) at =
    let within = slice_get_within legs l z at in let as_many = all.0 in omega (arith, within, as_many)

-- a leg that exists is one of the plan's
pub leg_is_planned : (runs : List RunState) → RunsFit runs → (p : LegSite) (z : LegState) → leg_at runs p ≡ Some z
    → p.leg < planned_legs runs p.run p.job
leg_is_planned runs fit p z e =
    let f = from_and_then (λ (x : JobState). slice_get x.legs p.leg) (job_at runs p.run p.job) z e in
    within_plan (planned_legs runs p.run p.job) (result_at runs p.run p.job f.value) f.value.phase f.value.legs p.leg z
    (jobs_fit runs fit p.run p.job f.value f.is) f.gives

pub leasing_keeps : (t : TableState) (claim : Claimed) (p : LegSite) → IsKept t → claim_answer t claim ≡ None
    → first_fit claim.labels t.runs ≡ Some p
    → IsKept (record t {
      last_lease = t.last_lease + 1;
      runs = with_leg p (λ _. leased_leg (t.last_lease + 1)) t.runs;
      runners =
          with_runner t.runners (claiming_runner claim (Some (t.last_lease + 1)) (given.Lease (kept_lease_at t.runs p (t.last_lease + 1))));
    })
leasing_keeps t claim p s none fit =
    let lease = t.last_lease + 1 in
    let new = claiming_runner claim (Some lease) (given.Lease (kept_lease_at t.runs p lease)) in
    let next = with_leg p (λ _. leased_leg lease) t.runs in
    let runner = runner_named t.runners claim.runner in
    let looked = or_nothing (answer_by_number runner claim.number (is_last_claim claim))
    (if holds_lease runner then Some (refused HasLease) else
    (if has_no_lease_left t claim then Some (refused LastCounter) else None)) none in
    let tests = looked_first (holds_lease runner) (has_no_lease_left t claim) (refused HasLease) (refused LastCounter) looked.1 in
    let left = leb-false last_number t.last_lease
    (no_lease_left (first_fit claim.labels t.runs) p (nat_le last_number t.last_lease) fit tests.1) in
    let ready = fitting_leg claim.labels t.runs p fit in
    let z = ready.leg_of in
    let unended : leg_has_ended z ≡ false = ap (λ (phase : LegPhase). leg_has_ended (record z { phase = phase })) ready.ready in
    let stay = leg_stays t.runs s.fit p z (λ _. leased_leg lease) (leg_in t.runs p z ready.is) unended refl in
    let free_leg : had_at t.runs p ≡ None =
    had_from_leg t.runs p z ready.is ∙ ready_has_no_lease z.phase z.lease ready.ready (leases_fit t.runs s.fit p z ready.is) in
    let free_runner : holds_at t.runners claim.runner ≡ None = holds_none runner tests.0 in
    let had = had_changes t.runs p z (λ _. leased_leg lease) ready.is in
    let still = still_had (had_at t.runs) (had_at next) p (Some lease) had free_leg in
    let attempt = λ (v : RunState). v.attempt in
    let its = (leg_in t.runs p z ready.is).place in
    let from = from_map attempt (run_at next p.run) its.run.attempt (stay.same_attempt p.run ∙ ap (option_map attempt) its.run_is) in
    let kept_at : (kept_lease_at t.runs p lease).attempt ≡ its.run.attempt = ap (λ o. option_map_or attempt o 0) its.run_is in
    let first : 1 ≤ its.run.attempt = (s.attempts_are_given p.run its.run its.run_is).0 in
    let leg_facts_of : WasHad lease next (kept_lease_at t.runs p lease) = record {
      place = p;
      run = from.value;
      run_is = from.is;
      job_is = refl;
      planned = subst (λ (n : ℕ). p.leg < n) (sym (planned_legs_same t.runs next p.run p.job (admitted_stays t.runs next stay p.run)))
          (leg_is_planned t.runs s.fit p z ready.is);
      tells = lease_reply_same t.runs next p lease (stay.same_identity p.run);
      given = (omega arith, omega arith);
      attempt = (omega (arith, kept_at, first), omega (arith, kept_at, from.gives));
      had = (λ e. had.here);
    } in
    record {
      identified = still_identified t.forgotten t.runs next stay.same_length stay.same_identity s.identified;
      attempts_are_given = attempts_still_given t.runs next stay.same_attempt s.attempts_are_given;
      fit = stay.fit;
      parallel_bounded = leased_bounded t.runs p z (λ _. leased_leg lease) ready.is (fitting_room claim.labels t.runs p fit)
          (admitted_stays t.runs next stay) stay.fit s.parallel_bounded;
      agree = lease_given t.last_lease (had_at t.runs) (works_at t.runs) (had_at next) (works_at next) (holds_at t.runners)
          (holds_at (with_runner t.runners new)) p claim.runner s.agree free_leg free_runner
          had (works_changes t.runs p z (λ _. leased_leg lease) ready.is) (holds_changes t.runners new);
      last_lease_in_range = omega (arith, left);
      runners_in_order = names_still_rise t.runners new s.runners_in_order;
      lasts_are_own = each_put t.runners new (λ x. IsLastOf x.name x.number x.last) (refl, refl) s.lasts_are_own;
      kept_are_had =
          each_put t.runners new (λ x. KeptIsHad lease next x.last) leg_facts_of
          (λ k x e. kept_still_had t.last_lease lease t.runs next (omega arith)
          (stay_still_had t.runs next stay.same_identity stay.same_attempt still) x.last (s.kept_are_had k x e));
    }
