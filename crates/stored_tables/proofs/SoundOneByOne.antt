-- A table whose ids and numbers follow from the places of its runs after the forgotten ones is sound exactly if each of its runs and runners is sound,
-- no rule applies, and no delivery made two runs.
use Rattle.std.specs.Prelude.{◌≡◌, ℕ, ◌+◌, ◌≤◌, ◌++◌, List, length, true, false, Option, Some, None, option_and_then, slice_get, refl}
use Rattle.std.specs.Option.{option_map_or}
use Rattle.std.proofs.Common.{ap, sym, ◌∙◌}
use Rattle.std.proofs.lemmas.Option.{same_Some}
use Rattle.stored_tables.specs.inner.ByLease.{lease_of_leg, lease_of_runner}
use Rattle.stored_tables.specs.inner.ByNumber.{Finds}
use Rattle.table_model.specs.Groups.{HasOneEach}
use Rattle.stored_tables.specs.inner.OneByOne.{EachLegIsSound, EachRunIsSound, EachRunnerIsSound, HoldsWork, IsFound, is_worked_on, leg_of, runner_of}
use Rattle.table_model.specs.Fitting.{is_at_work}
use Rattle.table_model.specs.Runs.{leg_at, LegState, RunState}
use Rattle.table_model.specs.declared.sites.LegSite.{LegSite}
use Rattle.table_model.specs.Settling.{first_site}
use Rattle.definitions.specs.Limits.{last_number}
use Rattle.table_model.specs.Forgotten.{ForgottenRuns, deliveries_of}
use Rattle.table_model.specs.Sound.{DeliveriesDiffer, ForgottenFit, IdsFollow, IsAtWork, IsHeld, IsSound, KeptLeasesAreOfLegs, NumbersFollow}
use Rattle.table_model.specs.AsPlanned.{AreAsPlanned}
use Rattle.table_model.specs.TableState.{RunnerState, TableState, names_rise}
use Rattle.stored_tables.specs.declared.sound.leases.Leases.{Leases}
use Rattle.table_model.proofs.JobKeeps.{job_in}
use Rattle.table_model.proofs.LegReads.{had_from_leg, leg_from_had}
use Rattle.stored_tables.proofs.ByNumberRead.{found_has, found_is, found_some, there}
use Rattle.table_model.proofs.Optional.{from_and_then}
use Rattle.table_model.proofs.RunFits.{job_in_run}

abbrev pub table_with : Leases → ForgottenRuns → List RunState → List RunnerState → TableState
table_with leases forgotten runs runners = record { last_lease = leases.last; forgotten = forgotten; runs = runs; runners = runners }

holds_at : (runners : List RunnerState) (k n : ℕ) (x : RunnerState) → slice_get runners k ≡ Some x → x.holds ≡ Some n
    → lease_of_runner runners k ≡ Some n
holds_at runners k n x at e = ap (option_and_then (λ (y : RunnerState). y.holds)) at ∙ e

lease_at_leg : (runs : List RunState) (p : LegSite) (n : ℕ) (x : LegState) → leg_at runs p ≡ Some x → x.lease ≡ Some n
    → lease_of_leg runs p ≡ Some n
lease_at_leg runs p n x at e = had_from_leg runs p x at ∙ e

module _ (leases : Leases) (forgotten : ForgottenRuns) (runs : List RunState) (runners : List RunnerState)
    (legs : (n : ℕ) → Finds (lease_of_leg runs) n (leg_of leases n))
    (held : (n : ℕ) → Finds (lease_of_runner runners) n (runner_of leases n)) where
  -- ---- from the table

  module _ (s : IsSound (table_with leases forgotten runs runners)) where
    leg_found : (p : LegSite) (x : LegState) (n : ℕ) → leg_at runs p ≡ Some x → x.lease ≡ Some n → leg_of leases n ≡ Some p
    leg_found p x n at e =
        found_is (lease_of_leg runs) n (leg_of leases n) p (legs n) (lease_at_leg runs p n x at e)
        (λ q has. let f = leg_from_had runs q n has in s.leases_differ q p f.value x n f.is at f.gives e)

    its_lease : (p : LegSite) (x : LegState) → leg_at runs p ≡ Some x → IsFound leases p x
    its_lease p x at n e = (
      leg_found p x n at e,
      (λ work. let (k, y, at_k, holds) = s.work_is_held p x n at work e in
          found_some (lease_of_runner runners) n (runner_of leases n) k (held n) (holds_at runners k n y at_k holds)),
    )

    pub each_leg : EachLegIsSound leases runs
    each_leg p x at = record {
      lease_fits = s.leases_fit p x at;
      lease_is_given = (λ n e. s.leases_are_given p x n at e);
      is_found = its_lease p x at;
    }

    pub each_run : EachRunIsSound runs
    each_run r x at = record {
      attempt_is_given = s.attempts_are_given r x at;
      phase_fits = s.run_phases_fit r x at;
      each_job = (λ j y at_j.
          let job = job_in_run runs r j x at ∙ at_j in
          record {
            legs_fit = s.jobs_fit r j y job;
            needs_first = s.needs_finished_first r j y job;
            within_parallel = (λ most e. s.parallel_bounded r j y most job e);
          });
    }

    worked_on : (n : ℕ) → IsAtWork runs n → is_worked_on runs leases n ≡ true
    worked_on n (p, x, at, lease, work) =
        ap (λ o. option_map_or (λ q. option_map_or (λ y. is_at_work y.phase) (leg_at runs q) false) o false) (leg_found p x n at lease)
        ∙ ap (λ o. option_map_or (λ (y : LegState). is_at_work y.phase) o false) at ∙ work

    holds_work : (k : ℕ) (x : RunnerState) → slice_get runners k ≡ Some x → HoldsWork leases runs k x
    holds_work k x at n e = (
      found_is (lease_of_runner runners) n (runner_of leases n) k (held n) (holds_at runners k n x at e)
          (λ j has.
          let f = from_and_then (λ (y : RunnerState). y.holds) (slice_get runners j) n has in
          s.held_once j k f.value x n f.is at f.gives e),
      worked_on n (s.held_is_at_work k x n at e),
    )

    pub each_runner : EachRunnerIsSound leases runs runners
    each_runner k x at = record { holds_work = holds_work k x at; last_is_own = s.lasts_are_own k x at }

  -- ---- to the table

  module _ (each_leg : EachLegIsSound leases runs) (each : EachRunIsSound runs) (each_of_runners : EachRunnerIsSound leases runs runners) where
    is_held : (p : LegSite) (x : LegState) (n : ℕ) → leg_at runs p ≡ Some x → is_at_work x.phase ≡ true → x.lease ≡ Some n
        → IsHeld runners n
    is_held p x n at work e =
        let k = there (runner_of leases n) (((each_leg p x at).is_found n e).1 work) in
        let has = found_has (lease_of_runner runners) n (runner_of leases n) k.value (held n) k.is in
        let f = from_and_then (λ (y : RunnerState). y.holds) (slice_get runners k.value) n has in
        (k.value, f.value, f.is, f.gives)

    at_work : (n : ℕ) (o : Option LegSite) → leg_of leases n ≡ o
        → option_map_or (λ q. option_map_or (λ y. is_at_work y.phase) (leg_at runs q) false) o false ≡ true → IsAtWork runs n
    at_work n None is e = cc
    at_work n (Some p) is e =
        let f = leg_from_had runs p n (found_has (lease_of_leg runs) n (leg_of leases n) p (legs n) is) in
        (p, f.value, f.is, f.gives, sym (ap (λ o. option_map_or (λ (y : LegState). is_at_work y.phase) o false) f.is) ∙ e)

    pub to_sound : ForgottenFit forgotten → forgotten.through + length runs ≤ last_number → AreAsPlanned runs → IdsFollow forgotten runs
        → NumbersFollow forgotten runs → names_rise runners ≡ true → KeptLeasesAreOfLegs leases.last runs runners
        → leases.last ≤ 999999999 → HasOneEach runs → first_site runs ≡ None
        → DeliveriesDiffer (forgotten.deliveries ++ deliveries_of runs) → IsSound (table_with leases forgotten runs runners)
    to_sound fit last_id planned ids numbers rise kept last one rests differ = record {
      few_runs = planned.few;
      last_id_in_range = last_id;
      forgotten_fit = fit;
      ids_follow = ids;
      numbers_follow = numbers;
      deliveries_differ = differ;
      attempts_are_given = (λ r x at. (each r x at).attempt_is_given);
      jobs_are_the_plans = (λ r x at. (planned.each r x at).as_many);
      run_phases_fit = (λ r x at. (each r x at).phase_fits);
      jobs_fit = (λ r j x at. let i = job_in runs r j x at in ((each r i.run i.run_is).each_job j x i.job_is).legs_fit);
      needs_finished_first = (λ r j x at. let i = job_in runs r j x at in ((each r i.run i.run_is).each_job j x i.job_is).needs_first);
      parallel_bounded = (λ r j x most at e.
          let i = job_in runs r j x at in ((each r i.run i.run_is).each_job j x i.job_is).within_parallel most e);
      one_of_each_group = one;
      leases_fit = (λ p x at. (each_leg p x at).lease_fits);
      leases_are_given = (λ p x n at e. (each_leg p x at).lease_is_given n e);
      leases_differ = (λ p q x y n at_p at_q e f.
          same_Some p q (sym ((each_leg p x at_p).is_found n e).0 ∙ ((each_leg q y at_q).is_found n f).0));
      last_lease_in_range = last;
      runners_in_order = rise;
      work_is_held = is_held;
      held_is_at_work = (λ k x n at e. at_work n (leg_of leases n) refl ((each_of_runners k x at).holds_work n e).1);
      held_once = (λ a b x y n at_a at_b e f.
          same_Some a b (sym ((each_of_runners a x at_a).holds_work n e).0 ∙ ((each_of_runners b y at_b).holds_work n f).0));
      no_rule_applies = rests;
      lasts_are_own = (λ k x at. (each_of_runners k x at).last_is_own);
      kept_leases_are_of_legs = kept;
    }
