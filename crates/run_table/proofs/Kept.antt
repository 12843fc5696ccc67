-- The invariants of every table in the middle of a step: all those at a fixpoint, except that no rule applies.
use Rattle.std.specs.Prelude.{◌≡◌, ℕ, suc, ◌+◌, ◌<◌, ◌≤◌, List, [], ◌∷◌, ◌++◌, length, Bool, true, Option, Some, None, option_map, option_and_then}
use Rattle.std.specs.Prelude.{slice_get, if◌then◌else◌, refl}
use Rattle.std.specs.Option.{option_map_or}
use Rattle.std.proofs.Common.{arith, ap, ap₂, sym, ◌∙◌, subst}
use Rattle.std.proofs.lemmas.Option.{same_Some}
use Rattle.definitions.specs.Limits.{last_attempt, last_number}
use Rattle.table_model.specs.Forgotten.{ForgottenRuns, deliveries_of}
use Rattle.table_model.specs.Groups.{HasOneEach}
use Rattle.run_plan.specs.declared.planned.PlannedJob.{PlannedJob}
use Rattle.run_plan.specs.declared.reply.Lease.{Lease as Leased}
use Rattle.table_model.specs.Runs.{run_at, leg_at, LegState, RunState}
use Rattle.table_model.specs.declared.sites.LegSite.{LegSite}
use Rattle.table_model.specs.Settling.{first_site, settled}
use Rattle.table_model.specs.Sound.{DeliveriesDiffer, ForgottenFit, IdsFollow, NumbersFollow, LeasesAreGiven, LeasesDiffer, IsHeld, IsAtWork, WorkIsHeld}
use Rattle.table_model.specs.Fitting.{is_at_work}
use Rattle.table_model.specs.LegContext.{planned_legs}
use Rattle.table_model.specs.Sound.{HeldIsAtWork, HeldOnce, LastsAreOwn, AttemptsAreGiven, KeptIsOfALeg, IsSound, ParallelIsBounded}
use Rattle.table_model.specs.Step.{lease_at}
use Rattle.table_model.specs.TableState.{RunnerState, TableState, names_rise, runner_named}
use Rattle.run_plan.specs.declared.last_command.LastCommand.{LastCommand}
use Rattle.run_plan.specs.declared.last_command.LastCommand.TheVariants as last
use Rattle.run_plan.specs.declared.last_command.ClaimReply.TheVariants as given
use Rattle.run_plan.specs.declared.last_command.KeptLease.{KeptLease}
use Rattle.run_table.proofs.AtWork.{settling_bounded}
use Rattle.table_model.proofs.Identity.{Identity, identity_at, identity_in, identity_of, same_admitted, same_id}
use Rattle.table_model.proofs.LeaseReads.{LeasesAgree, leases_same}
use Rattle.table_model.proofs.LegFacts.{attempt_at}
use Rattle.table_model.proofs.LegReads.{had_at, works_at, had_from_leg, works_from_leg, leg_from_had, leg_from_works, work_parts}
use Rattle.table_model.proofs.Numbered.{ids_stay, numbers_stay}
use Rattle.table_model.proofs.Optional.{from_and_then, from_map}
use Rattle.table_model.proofs.RunFits.{RunsFit, plan_at_same, runs_fit, jobs_are_the_plans, run_phases_fit, jobs_fit}
use Rattle.table_model.proofs.RunFits.{needs_come_first, leases_fit}
use Rattle.settling_laws.proofs.OneEachRules.{settled_one_each}
use Rattle.settling_laws.proofs.Rests.{settled_has_no_place}
use Rattle.run_table.proofs.RunnerPut.{apart, found_by_name, has_the_name, holds_at, stood}
use Rattle.table_model.proofs.Settles.{Settles}
use Rattle.settling_laws.proofs.SettlingKeeps.{settling_settles}

-- A kept lease was granted and names a leg of the run's plan, in an attempt up to the current one. If that is the
-- current attempt, the leg had it.
pub record WasHad (most : ℕ) (runs : List RunState) (kept : KeptLease) : Type 0 where
  pub place : LegSite
  pub run : RunState
  pub run_is : run_at runs place.run ≡ Some run
  pub job_is : kept.job ≡ place.job
  pub planned : place.leg < planned_legs runs place.run place.job
  pub tells : kept.lease_reply ≡ lease_at runs place kept.lease_reply.lease
  pub given : (1 ≤ kept.lease_reply.lease) × (kept.lease_reply.lease ≤ most)
  pub attempt : (1 ≤ kept.attempt) × (kept.attempt ≤ run.attempt)
  pub had : kept.attempt ≡ run.attempt → had_at runs place ≡ Some kept.lease_reply.lease

abbrev pub KeptIsHad : ℕ → List RunState → LastCommand → Type 0
KeptIsHad most runs (last.Claim claim given.Nothing) = Unit {0}
KeptIsHad most runs (last.Claim claim (given.Lease kept)) = WasHad most runs kept
KeptIsHad most runs (last.Done report) = Unit {0}

abbrev pub KeptAreHad : ℕ → List RunState → List RunnerState → Type 0
KeptAreHad most runs runners = (k : ℕ) (x : RunnerState) → slice_get runners k ≡ Some x → KeptIsHad most runs x.last

-- what holds of the ids, the numbers and the deliveries of runs, and of what is kept of the forgotten ones
pub record AreIdentified (forgotten : ForgottenRuns) (runs : List RunState) : Type 0 where
  pub few_runs : length runs ≤ 100000
  pub last_id_in_range : forgotten.through + length runs ≤ last_number
  pub forgotten_fit : ForgottenFit forgotten
  pub ids_follow : IdsFollow forgotten runs
  pub numbers_follow : NumbersFollow forgotten runs
  pub deliveries_differ : DeliveriesDiffer (forgotten.deliveries ++ deliveries_of runs)

pub record IsKept (t : TableState) : Type 0 where
  pub identified : AreIdentified t.forgotten t.runs
  pub attempts_are_given : AttemptsAreGiven t.runs
  pub fit : RunsFit t.runs
  pub parallel_bounded : ParallelIsBounded t.runs
  pub agree : LeasesAgree t.last_lease (had_at t.runs) (works_at t.runs) (holds_at t.runners)
  pub last_lease_in_range : t.last_lease ≤ last_number
  pub runners_in_order : names_rise t.runners ≡ true
  pub lasts_are_own : LastsAreOwn t.runners
  pub kept_are_had : KeptAreHad t.last_lease t.runs t.runners

-- ---- the leases, by legs and by places

some_lease : (runs : List RunState) (p : LegSite) (x : LegState) (n : ℕ) → leg_at runs p ≡ Some x → x.lease ≡ Some n
    → had_at runs p ≡ Some n
some_lease runs p x n at e = had_from_leg runs p x at ∙ e

some_work : (runs : List RunState) (p : LegSite) (x : LegState) (n : ℕ) → leg_at runs p ≡ Some x → is_at_work x.phase ≡ true
    → x.lease ≡ Some n → works_at runs p ≡ Some n
some_work runs p x n at working e = works_from_leg runs p x at ∙ ap (λ (b : Bool). if b then x.lease else None) working ∙ e

held_somewhere : (runners : List RunnerState) (n : ℕ) (name : List ℕ) → holds_at runners name ≡ Some n → IsHeld runners n
held_somewhere runners n name e =
    let f = from_and_then (λ (x : RunnerState). x.holds) (runner_named runners name) n e in
    let s = stood runners name in
    (s.place, f.value, s.was ∙ f.is, f.gives)

-- the runner at an index holds what the runner of its name does
held_by_name : (runners : List RunnerState) (n : ℕ) (k : ℕ) (x : RunnerState) → names_rise runners ≡ true → slice_get runners k ≡ Some x
    → x.holds ≡ Some n → holds_at runners x.name ≡ Some n
held_by_name runners n k x rise at holds =
    ap (option_and_then (λ (v : RunnerState). v.holds)) (found_by_name runners rise k x at) ∙ holds

work_somewhere : (runs : List RunState) (n : ℕ) (p : LegSite) → works_at runs p ≡ Some n → IsAtWork runs n
work_somewhere runs n p e =
    let f = leg_from_works runs p n e in
    let both = work_parts (is_at_work f.value.phase) f.value.lease n f.gives in
    (p, f.value, f.is, both.1, both.0)

leases_agree : (last : ℕ) (runs : List RunState) (runners : List RunnerState) → names_rise runners ≡ true → LeasesAreGiven last runs
    → LeasesDiffer runs → WorkIsHeld runs runners → HeldIsAtWork runs runners → HeldOnce runners
    → LeasesAgree last (had_at runs) (works_at runs) (holds_at runners)
leases_agree last runs runners rise given differ work held once = record {
  given = (λ p n e. let f = leg_from_had runs p n e in given p f.value n f.is f.gives);
  differ = (λ p q n e g.
      let f = leg_from_had runs p n e in
      let h = leg_from_had runs q n g in
      differ p q f.value h.value n f.is h.is f.gives h.gives);
  work_is_had = (λ p n e.
      let f = leg_from_works runs p n e in
      some_lease runs p f.value n f.is (work_parts (is_at_work f.value.phase) f.value.lease n f.gives).1);
  work_is_held = (λ p n e.
      let f = leg_from_works runs p n e in
      let both = work_parts (is_at_work f.value.phase) f.value.lease n f.gives in
      let (k, x, at, holds) = work p f.value n f.is both.0 both.1 in
      (x.name, held_by_name runners n k x rise at holds));
  held_is_work = (λ name n e.
      let (k, x, at, holds) = held_somewhere runners n name e in
      let (p, y, is, lease, working) = held k x n at holds in
      (p, some_work runs p y n is working lease));
  held_once = (λ a b n e g.
      let f = from_and_then (λ (x : RunnerState). x.holds) (runner_named runners a) n e in
      let h = from_and_then (λ (x : RunnerState). x.holds) (runner_named runners b) n g in
      let one = stood runners a in
      let other = stood runners b in
      let place = once one.place other.place f.value h.value n (one.was ∙ f.is) (other.was ∙ h.is) f.gives h.gives in
      let same : f.value ≡ h.value = same_Some f.value h.value
      (sym (one.was ∙ f.is) ∙ ap (slice_get runners) place ∙ (other.was ∙ h.is)) in
      sym (has_the_name runners a f.value f.is) ∙ ap (λ (x : RunnerState). x.name) same ∙ has_the_name runners b h.value h.is);
}

-- ---- kept leases, by legs and by places

kept_is_had : (most : ℕ) (runs : List RunState) (last : LastCommand) → KeptIsOfALeg most runs last → KeptIsHad most runs last
kept_is_had most runs (last.Claim claim given.Nothing) h = tt
kept_is_had most runs (last.Claim claim (given.Lease kept)) h = record {
  place = h.place;
  run = h.run;
  run_is = h.run_is;
  job_is = h.job_is;
  planned = h.planned;
  tells = h.tells;
  given = h.given;
  attempt = h.attempt;
  had = (λ e. let (x, at, lease) = h.has_it e in some_lease runs h.place x kept.lease_reply.lease at lease);
}
kept_is_had most runs (last.Done report) h = tt

kept_is_of_a_leg : (most : ℕ) (runs : List RunState) (last : LastCommand) → KeptIsHad most runs last → KeptIsOfALeg most runs last
kept_is_of_a_leg most runs (last.Claim claim given.Nothing) h = tt
kept_is_of_a_leg most runs (last.Claim claim (given.Lease kept)) h = record {
  place = h.place;
  run = h.run;
  run_is = h.run_is;
  job_is = h.job_is;
  planned = h.planned;
  tells = h.tells;
  given = h.given;
  attempt = h.attempt;
  has_it = (λ e. let f = leg_from_had runs h.place kept.lease_reply.lease (h.had e) in (f.value, f.is, f.gives));
}
kept_is_of_a_leg most runs (last.Done report) h = tt

-- the lease that is sent follows from the run's identity
pub lease_reply_same : (runs next : List RunState) (p : LegSite) (n : ℕ) → identity_at next p.run ≡ identity_at runs p.run
    → lease_at runs p n ≡ lease_at next p n
lease_reply_same runs next p n same =
    let reply : ℕ → Option PlannedJob → Leased = λ id o. record {
      lease = n;
      run = id;
      job = option_map_or (λ planned. planned.id) o [];
      leg = p.leg;
      combo = option_map_or (λ leg. leg.combo) (option_and_then (λ planned. slice_get planned.legs p.leg) o) [];
    } in
    ap₂ reply (sym (same_id runs next p.run same)) (sym (plan_at_same runs next p.run p.job (same_admitted runs next p.run same)))

-- Runs keep their identities, their attempts do not decrease, and a leg keeps the lease that it had while its run stays at
-- the same attempt.
pub record StillHad (runs next : List RunState) : Type 0 where
  pub runs_stay : (r : ℕ) (x : RunState) → run_at runs r ≡ Some x
      → (y : RunState) × (run_at next r ≡ Some y) × (x.attempt ≤ y.attempt)
  pub had : (p : LegSite) (n : ℕ) (x y : RunState) → run_at runs p.run ≡ Some x → run_at next p.run ≡ Some y → y.attempt ≡ x.attempt
      → had_at runs p ≡ Some n → had_at next p ≡ Some n
  pub identities : (r : ℕ) (x : RunState) → run_at runs r ≡ Some x → identity_at next r ≡ identity_at runs r

pub kept_still_had : (most more : ℕ) (runs next : List RunState) → most ≤ more → StillHad runs next → (last : LastCommand)
    → KeptIsHad most runs last → KeptIsHad more next last
kept_still_had most more runs next le still (last.Claim claim given.Nothing) h = tt
kept_still_had most more runs next le still (last.Claim claim (given.Lease kept)) h =
    let (y, there, later) = still.runs_stay h.place.run h.run h.run_is in
    let same = still.identities h.place.run h.run h.run_is in
    let plan = plan_at_same runs next h.place.run h.place.job (same_admitted runs next h.place.run same) in
    record {
      place = h.place;
      run = y;
      run_is = there;
      job_is = h.job_is;
      planned = subst (λ (o : Option PlannedJob). h.place.leg < option_map_or (λ planned. length planned.legs) o 0) (sym plan) h.planned;
      tells = h.tells ∙ lease_reply_same runs next h.place kept.lease_reply.lease same;
      given = (h.given.0, omega (arith, h.given.1, le));
      attempt = (h.attempt.0, omega (arith, h.attempt.1, later));
      had = (λ e.
          let one : kept.attempt ≡ h.run.attempt = omega (arith, e, later, h.attempt.1) in
          still.had h.place kept.lease_reply.lease h.run y h.run_is there (sym e ∙ one) (h.had one));
    }
kept_still_had most more runs next le still (last.Done report) h = tt

-- unchanged attempts are numbers up to the last
pub attempts_still_given : (runs next : List RunState) → ((r : ℕ) → attempt_at next r ≡ attempt_at runs r) → AttemptsAreGiven runs
    → AttemptsAreGiven next
attempts_still_given runs next same given r y at =
    let attempt = λ (v : RunState). v.attempt in
    let f = from_map attempt (run_at runs r) y.attempt (sym (same r) ∙ ap (option_map attempt) at) in
    subst (λ (n : ℕ). (1 ≤ n) × (n ≤ last_attempt)) f.gives (given r f.value f.is)

-- the same runs at the same attempts
pub stay_still_had : (runs next : List RunState) → ((r : ℕ) → identity_at next r ≡ identity_at runs r)
    → ((r : ℕ) → attempt_at next r ≡ attempt_at runs r) → ((p : LegSite) (n : ℕ) → had_at runs p ≡ Some n → had_at next p ≡ Some n)
    → StillHad runs next
stay_still_had runs next same attempts had =
    let attempt = λ (v : RunState). v.attempt in
    record {
      runs_stay = (λ r x at.
          let f = from_map attempt (run_at next r) x.attempt (attempts r ∙ ap (option_map attempt) at) in
          (f.value, f.is, omega (arith, f.gives)));
      had = (λ p n x y at then_at again h. had p n h);
      identities = (λ r x at. same r);
    }

-- ---- to and from the invariants at a fixpoint

pub kept_from_sound : (t : TableState) → IsSound t → IsKept t
kept_from_sound t s = record {
  identified = record {
    few_runs = s.few_runs;
    last_id_in_range = s.last_id_in_range;
    forgotten_fit = s.forgotten_fit;
    ids_follow = s.ids_follow;
    numbers_follow = s.numbers_follow;
    deliveries_differ = s.deliveries_differ;
  };
  attempts_are_given = s.attempts_are_given;
  fit = runs_fit t.runs s.jobs_are_the_plans s.run_phases_fit s.jobs_fit s.needs_finished_first s.leases_fit;
  parallel_bounded = s.parallel_bounded;
  agree = leases_agree t.last_lease t.runs t.runners s.runners_in_order s.leases_are_given s.leases_differ s.work_is_held
      s.held_is_at_work s.held_once;
  last_lease_in_range = s.last_lease_in_range;
  runners_in_order = s.runners_in_order;
  lasts_are_own = s.lasts_are_own;
  kept_are_had = (λ k x e. kept_is_had t.last_lease t.runs x.last (s.kept_leases_are_of_legs k x e));
}

pub sound_from_kept : (t : TableState) → IsKept t → HasOneEach t.runs → first_site t.runs ≡ None → IsSound t
sound_from_kept t s each rests = record {
  few_runs = s.identified.few_runs;
  last_id_in_range = s.identified.last_id_in_range;
  forgotten_fit = s.identified.forgotten_fit;
  ids_follow = s.identified.ids_follow;
  numbers_follow = s.identified.numbers_follow;
  deliveries_differ = s.identified.deliveries_differ;
  attempts_are_given = s.attempts_are_given;
  jobs_are_the_plans = jobs_are_the_plans t.runs s.fit;
  run_phases_fit = run_phases_fit t.runs s.fit;
  jobs_fit = jobs_fit t.runs s.fit;
  needs_finished_first = needs_come_first t.runs s.fit;
  parallel_bounded = s.parallel_bounded;
  one_of_each_group = each;
  leases_fit = leases_fit t.runs s.fit;
  leases_are_given = (λ p x n at e. s.agree.given p n (some_lease t.runs p x n at e));
  leases_differ = (λ p q x y n at bt e f. s.agree.differ p q n (some_lease t.runs p x n at e) (some_lease t.runs q y n bt f));
  last_lease_in_range = s.last_lease_in_range;
  runners_in_order = s.runners_in_order;
  work_is_held =
      (λ p x n at working e. let (k, h) = s.agree.work_is_held p n (some_work t.runs p x n at working e) in held_somewhere t.runners n k h);
  held_is_at_work =
      (λ k x n at e. let (p, w) =
      s.agree.held_is_work x.name n (held_by_name t.runners n k x s.runners_in_order at e) in work_somewhere t.runs n p w);
  held_once = (λ a b x y n at bt e f. apart t.runners s.runners_in_order a b x y at bt
      (s.agree.held_once x.name y.name n (held_by_name t.runners n a x s.runners_in_order at e)
      (held_by_name t.runners n b y s.runners_in_order bt f)));
  no_rule_applies = rests;
  lasts_are_own = s.lasts_are_own;
  kept_leases_are_of_legs = (λ k x e. kept_is_of_a_leg t.last_lease t.runs x.last (s.kept_are_had k x e));
}

-- ---- runs of the same identities

no_identity : (x : RunState) → identity_in None ≡ identity_in (Some x) → ⊥
no_identity x e = cc

deliveries_same : (runs next : List RunState) → ((r : ℕ) → identity_at next r ≡ identity_at runs r) → deliveries_of next ≡ deliveries_of runs
deliveries_same [] [] same = refl
deliveries_same [] (y ∷ next) same = absurd (no_identity y (sym (same 0)))
deliveries_same (x ∷ runs) [] same = absurd (no_identity x (same 0))
deliveries_same (x ∷ runs) (y ∷ next) same =
    ap₂ (λ (d : List ℕ) (ds : List (List ℕ)). d ∷ ds)
    (ap (λ (i : Identity). i.admitted.delivery) (same_Some (identity_of y) (identity_of x) (same 0)))
    (deliveries_same runs next (λ r. same (suc r)))

pub still_identified : (forgotten : ForgottenRuns) (runs next : List RunState) → length next ≡ length runs
    → ((r : ℕ) → identity_at next r ≡ identity_at runs r) → AreIdentified forgotten runs → AreIdentified forgotten next
still_identified forgotten runs next long same are =
    let few = are.few_runs in
    let range = are.last_id_in_range in
    record {
      few_runs = omega (arith, long, few);
      last_id_in_range = omega (arith, long, range);
      forgotten_fit = are.forgotten_fit;
      ids_follow = ids_stay forgotten runs next same are.ids_follow;
      numbers_follow = numbers_stay forgotten runs next same are.numbers_follow;
      deliveries_differ = subst (λ ds. DeliveriesDiffer (forgotten.deliveries ++ ds)) (sym (deliveries_same runs next same)) are.deliveries_differ;
    }

-- ---- the runs of a table settle, or legs are stopped

pub kept_settles : (t : TableState) (next : List RunState) → IsKept t → Settles t.runs next → IsKept (record t { runs = next })
kept_settles t next s settling = record {
  identified = still_identified t.forgotten t.runs next settling.stay.same_length settling.stay.same_identity s.identified;
  attempts_are_given = attempts_still_given t.runs next settling.stay.same_attempt s.attempts_are_given;
  fit = settling.stay.fit;
  parallel_bounded = settling_bounded t.runs next settling s.parallel_bounded;
  agree = leases_same t.last_lease (had_at t.runs) (works_at t.runs) (had_at next) (works_at next) (holds_at t.runners)
      (holds_at t.runners) settling.same_had settling.same_works (λ k. refl) s.agree;
  last_lease_in_range = s.last_lease_in_range;
  runners_in_order = s.runners_in_order;
  lasts_are_own = s.lasts_are_own;
  kept_are_had =
      (λ k x e. kept_still_had t.last_lease t.last_lease t.runs next (omega arith)
      (stay_still_had t.runs next settling.stay.same_identity settling.stay.same_attempt (λ p n h. settling.same_had p ∙ h)) x.last
      (s.kept_are_had k x e));
}

pub rest_is_sound : (t : TableState) → IsKept t → HasOneEach t.runs → IsSound (record t { runs = settled t.runs })
rest_is_sound t s each =
    sound_from_kept (record t { runs = settled t.runs }) (kept_settles t (settled t.runs) s (settling_settles t.runs s.fit))
    (settled_one_each t.runs s.fit each) (settled_has_no_place t.runs)
