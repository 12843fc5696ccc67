-- The leases and runners that are built from their parts.
use Rattle.std.specs.Prelude.{◌≡◌, ℕ, ◌+◌, ◌-◌, ◌<◌, ◌≤◌, List, [], length, nat_eq, Bool, true, false, Option, Some, None, option_and_then, option_map}
use Rattle.std.specs.Prelude.{slice_get, refl}
use Rattle.std.specs.Bool.{Decides}
use Rattle.std.specs.Option.{option_map_or}
use Rattle.std.proofs.Common.{arith, ap, sym, subst, ◌∙◌, inl, inr}
use Rattle.std.proofs.lemmas.Bool.{eq-eqb, eqb-true}
use Rattle.std.proofs.lemmas.Option.{none-some, same_Some, slice_get_cases, slice_get_within}
use Rattle.run_plan.specs.PlanOf.{plan_of}
use Rattle.run_plan.specs.declared.last_command.ClaimReply.{ClaimReply}
use Rattle.run_plan.specs.declared.last_command.ClaimReply.TheVariants as given
use Rattle.run_plan.specs.declared.last_command.KeptLease.{KeptLease}
use Rattle.run_plan.specs.declared.last_command.LastCommand.{LastCommand}
use Rattle.run_plan.specs.declared.last_command.LastCommand.TheVariants as last
use Rattle.run_plan.specs.declared.planned.PlannedJob.{PlannedJob}
use Rattle.stored_tables.specs.inner.ByLease.{lease_of_leg}
use Rattle.stored_tables.specs.inner.ByNumber.{Finds}
use Rattle.table_model.specs.AsPlanned.{AreAsPlanned, HasRoom}
use Rattle.table_model.specs.Forgotten.{ForgottenRuns}
use Rattle.table_model.specs.Fitting.{has_lease}
use Rattle.table_model.specs.Runs.{leg_at, plan_at, run_at, LegState, RunState}
use Rattle.table_model.specs.declared.sites.LegSite.{LegSite}
use Rattle.table_model.specs.Sound.{IdsFollow, IsOfALeg, KeptIsOfALeg, KeptLeasesAreOfLegs}
use Rattle.table_model.specs.Step.{kept_lease, lease_at}
use Rattle.stored_tables.specs.Stored.{RunnerParts, stored_site}
use Rattle.stored_tables.specs.inner.StoredSites.{site_in_runs}
use Rattle.stored_tables.specs.TableOf.{AreRunnersAs, IsLastAs, IsLeaseAs, IsReplyAs, IsRunnerAs}
use Rattle.table_model.specs.TableState.{RunnerState}
use Rattle.table_model.specs.LegContext.{id_at, planned_legs}
use Rattle.stored_tables.specs.declared.parts.LastParts.{LastParts}
use Rattle.stored_tables.specs.declared.parts.LastParts.TheVariants as stored
use Rattle.stored_tables.specs.declared.parts.StoredLease.{StoredLease}
use Rattle.stored_tables.specs.declared.parts.StoredSite.{StoredSite}
use Rattle.stored_tables.proofs.StoredOnce.{id_follows, id_there, leg_told, present_has_it, run_told, same_place}
use Rattle.table_model.proofs.JobKeeps.{leg_in}
use Rattle.table_model.proofs.LegReads.{had_from_leg, leg_from_had}
use Rattle.table_model.proofs.Optional.{from_map}

-- ---- a leg that exists is planned

plan_in : (runs : List RunState) (r j : ℕ) (x : RunState) → run_at runs r ≡ Some x
    → plan_at runs r j ≡ slice_get (plan_of x.admitted.body) j
plan_in runs r j x at = ap (λ o. option_and_then (λ (run : RunState). slice_get (plan_of run.admitted.body) j) o) at

within_room : (n : ℕ) (legs : List LegState) (l : ℕ) (z : LegState) → HasRoom n legs → slice_get legs l ≡ Some z → l < n
within_room n legs l z (inl none) at =
    let no : slice_get [] l ≡ Some z = subst (λ (ls : List LegState). slice_get ls l ≡ Some z) none at in cc
within_room n legs l z (inr all) at = let within = slice_get_within legs l z at in omega (arith, within, all)

leg_planned : (runs : List RunState) → AreAsPlanned runs → (p : LegSite) (z : LegState) → leg_at runs p ≡ Some z
    → p.leg < planned_legs runs p.run p.job
leg_planned runs planned p z at =
    let i = leg_in runs p z at in
    let x = i.place.run in
    let its = planned.each p.run x i.place.run_is in
    let plan = plan_of x.admitted.body in
    let within = slice_get_within x.jobs p.job i.job i.place.job_is in
    let as_many = its.as_many in
    elim (slice_get_cases plan p.job).1 [
      | inl h ↦
          let room = within_room (length h.0.legs) i.job.legs p.leg z (its.have_room p.job i.job i.place.job_is h.0 h.2) i.leg_is in
          let many : planned_legs runs p.run p.job ≡ length h.0.legs =
          ap (λ (o : Option PlannedJob). option_map_or (λ (k : PlannedJob). length k.legs) o 0)
          (plan_in runs p.run p.job x i.place.run_is ∙ h.2) in
          subst (λ n. p.leg < n) (sym many) room
      | inr h ↦ absurd (omega (arith, h.0, within, as_many))
    ]

-- ---- a lease of which only the number is stored

-- the leg that is found has it
pub present_lease : (most n attempt : ℕ) (runs : List RunState) (p : LegSite) (kept : KeptLease) → AreAsPlanned runs → 1 ≤ n → n ≤ most
    → 1 ≤ attempt → lease_of_leg runs p ≡ Some n → Some attempt ≡ option_map (λ (x : RunState). x.attempt) (run_at runs p.run)
    → kept_lease runs attempt p n ≡ kept → IsLeaseAs most runs (record { lease = n; place = None }) kept
present_lease most n attempt runs p kept planned low le first has at is =
    let f = leg_from_had runs p n has in
    let from = from_map (λ (x : RunState). x.attempt) (run_at runs p.run) attempt (sym at) in
    let x = from.value in
    let now : attempt ≡ x.attempt = sym from.gives in
    subst (IsLeaseAs most runs (record { lease = n; place = None })) is (record {
      lease = refl;
      is_of_a_leg = record {
        place = p;
        run = x;
        run_is = from.is;
        job_is = refl;
        planned = leg_planned runs planned p f.value f.is;
        tells = refl;
        given = (low, le);
        attempt = (first, omega (arith, now));
        has_it = (λ e. (f.value, f.is, f.gives));
      };
      place = now;
    })

-- and if none is found, there is none
pub no_present : (most n : ℕ) (runs : List RunState) (o : Option LegSite) → Finds (lease_of_leg runs) n o → o ≡ None → (kept : KeptLease)
    → IsLeaseAs most runs (record { lease = n; place = None }) kept → ⊥
no_present most n runs o finds is kept lease =
    let none = subst (Finds (lease_of_leg runs) n) is finds in
    let of = lease.is_of_a_leg in
    let (x, at, has) = present_has_it most runs kept of lease.place in
    none of.place (had_from_leg runs of.place x at ∙ has ∙ ap Some lease.lease)

-- the run of the leg that is found exists
pub run_is_there : (runs : List RunState) (p : LegSite) (n : ℕ) → lease_of_leg runs p ≡ Some n
    → None ≡ option_map (λ (x : RunState). x.attempt) (run_at runs p.run) → ⊥
run_is_there runs p n has none =
    let f = leg_from_had runs p n has in
    let place = (leg_in runs p f.value f.is).place in
    none-some place.run.attempt (none ∙ ap (option_map (λ (x : RunState). x.attempt)) place.run_is)

-- ---- a lease whose place is stored

-- the leg at a place may have been granted the lease in this attempt
pub record MayHave (runs : List RunState) (attempt : ℕ) (p : LegSite) (lease : ℕ) : Type 0 where
  pub run : RunState
  pub run_is : run_at runs p.run ≡ Some run
  pub planned : p.leg < planned_legs runs p.run p.job
  pub begun : (1 ≤ attempt) × (attempt ≤ run.attempt)
  pub has_it : attempt ≡ run.attempt → (x : LegState) × (leg_at runs p ≡ Some x) × (x.lease ≡ Some lease)

pub may_have : (most : ℕ) (forgotten : ForgottenRuns) (runs : List RunState) → IdsFollow forgotten runs → (attempt : ℕ) (p : LegSite) (lease : ℕ)
    → IsOfALeg most runs (kept_lease runs attempt p lease) → MayHave runs attempt p lease
may_have most forgotten runs follow attempt p lease of =
    let kept = kept_lease runs attempt p lease in
    let run : id_at runs p.run ≡ forgotten.through + of.place.run + 1 = run_told most forgotten runs follow kept of in
    let here = id_there forgotten runs follow p.run (omega (arith, run)) in
    let same : of.place ≡ p = same_place of.place p (omega (arith, run, here)) (sym of.job_is) (sym (leg_told most runs kept of)) in
    subst (λ (q : LegSite). MayHave runs attempt q lease) same (record {
      run = of.run;
      run_is = of.run_is;
      planned = of.planned;
      begun = of.attempt;
      has_it = of.has_it;
    })

pub is_of_a_leg : (most : ℕ) (runs : List RunState) (attempt : ℕ) (p : LegSite) (lease : ℕ) → 1 ≤ lease → lease ≤ most
    → MayHave runs attempt p lease → IsOfALeg most runs (kept_lease runs attempt p lease)
is_of_a_leg most runs attempt p lease low le may = record {
  place = p;
  run = may.run;
  run_is = may.run_is;
  job_is = refl;
  planned = may.planned;
  tells = refl;
  given = (low, le);
  attempt = may.begun;
  has_it = may.has_it;
}

-- for the current attempt, this is whether the leg has the lease
lease_is : (o : Option ℕ) (n : ℕ) → option_map_or (λ held. nat_eq held n) o false ≡ true → o ≡ Some n
lease_is None n e = cc
lease_is (Some m) n e = ap Some (eqb-true m n e)

has_by : (runs : List RunState) (p : LegSite) (n : ℕ) (o : Option LegState) → leg_at runs p ≡ o
    → option_map_or (has_lease n) o false ≡ true → (x : LegState) × (leg_at runs p ≡ Some x) × (x.lease ≡ Some n)
has_by runs p n None is e = cc
has_by runs p n (Some x) is e = (x, is, lease_is x.lease n e)

has_so : (runs : List RunState) (p : LegSite) (n : ℕ) (x : LegState) → leg_at runs p ≡ Some x → x.lease ≡ Some n
    → option_map_or (has_lease n) (leg_at runs p) false ≡ true
has_so runs p n x is has =
    ap (λ o. option_map_or (has_lease n) o false) is ∙ ap (λ o. option_map_or (λ held. nat_eq held n) o false) has ∙ eq-eqb n n refl

pub present_decides : (most : ℕ) (forgotten : ForgottenRuns) (runs : List RunState) → IdsFollow forgotten runs → (attempt : ℕ) (p : LegSite) (lease present : ℕ) (b : Bool)
    → Some present ≡ option_map (λ (x : RunState). x.attempt) (run_at runs p.run) → p.leg < planned_legs runs p.run p.job → 1 ≤ lease
    → lease ≤ most → 1 ≤ attempt → attempt ≡ present → b ≡ option_map_or (has_lease lease) (leg_at runs p) false
    → Decides b (IsOfALeg most runs (kept_lease runs attempt p lease))
present_decides most forgotten runs follow attempt p lease present b at planned low le first now is =
    let from = from_map (λ (x : RunState). x.attempt) (run_at runs p.run) present (sym at) in
    let same : attempt ≡ from.value.attempt = now ∙ sym from.gives in (
      (λ e. is_of_a_leg most runs attempt p lease low le (record {
        run = from.value;
        run_is = from.is;
        planned = planned;
        begun = (first, omega (arith, same));
        has_it = (λ _. has_by runs p lease (leg_at runs p) refl (sym is ∙ e));
      })),
      (λ of.
          let may = may_have most forgotten runs follow attempt p lease of in
          let one : from.value ≡ may.run = same_Some from.value may.run (sym from.is ∙ may.run_is) in
          let (z, has_leg, has) = may.has_it (same ∙ ap (λ (y : RunState). y.attempt) one) in
          is ∙ has_so runs p lease z has_leg has),
    )

pub run_within : (most : ℕ) (forgotten : ForgottenRuns) (runs : List RunState) → IdsFollow forgotten runs → (attempt : ℕ) (p : LegSite) (lease : ℕ)
    → IsOfALeg most runs (kept_lease runs attempt p lease) → p.run < length runs
run_within most forgotten runs follow attempt p lease of =
    let may = may_have most forgotten runs follow attempt p lease of in
    slice_get_within runs p.run may.run may.run_is

pub given_lease : (most n : ℕ) (forgotten : ForgottenRuns) (runs : List RunState) → IdsFollow forgotten runs → (place : StoredSite) (kept : KeptLease) → forgotten.through < place.run
    → IsOfALeg most runs (kept_lease runs place.attempt (site_in_runs forgotten.through place) n)
    → kept_lease runs place.attempt (site_in_runs forgotten.through place) n ≡ kept → IsLeaseAs most runs (record { lease = n; place = Some place }) kept
given_lease most n forgotten runs follow place kept low of is =
    let may = may_have most forgotten runs follow place.attempt (site_in_runs forgotten.through place) n of in
    let index : ℕ = place.run - forgotten.through - 1 in
    let run : id_at runs index ≡ place.run = omega (arith, low, id_follows forgotten runs follow index may.run may.run_is) in
    subst (IsLeaseAs most runs (record { lease = n; place = Some place })) is (record {
      lease = refl;
      is_of_a_leg = of;
      place = (λ i. record { run = run i; attempt = place.attempt; job = place.job; leg = place.leg });
    })

-- it is the only one of these parts
kept_is : (most n : ℕ) (forgotten : ForgottenRuns) (runs : List RunState) → IdsFollow forgotten runs → (place : StoredSite) (kept : KeptLease)
    → IsLeaseAs most runs (record { lease = n; place = Some place }) kept → kept ≡ kept_lease runs place.attempt (site_in_runs forgotten.through place) n
kept_is most n forgotten runs follow place kept is =
    let of = is.is_of_a_leg in
    let stored : stored_site kept ≡ place = is.place in
    let run : kept.lease_reply.run ≡ place.run = ap (λ (s : StoredSite). s.run) stored in
    let attempt : kept.attempt ≡ place.attempt = ap (λ (s : StoredSite). s.attempt) stored in
    let job : kept.job ≡ place.job = ap (λ (s : StoredSite). s.job) stored in
    let leg : kept.lease_reply.leg ≡ place.leg = ap (λ (s : StoredSite). s.leg) stored in
    let its = run_told most forgotten runs follow kept of in
    let same : of.place ≡ site_in_runs forgotten.through place = same_place of.place (site_in_runs forgotten.through place) (omega (arith, run, its)) (sym of.job_is ∙ job)
    (sym (leg_told most runs kept of) ∙ leg) in
    let lease_reply : kept.lease_reply ≡ lease_at runs (site_in_runs forgotten.through place) n =
    of.tells ∙ ap (λ p. lease_at runs p kept.lease_reply.lease) same ∙ ap (lease_at runs (site_in_runs forgotten.through place)) is.lease in
    λ i. record { lease_reply = lease_reply i; attempt = attempt i; job = job i }

pub no_given : (most n : ℕ) (forgotten : ForgottenRuns) (runs : List RunState) → IdsFollow forgotten runs → (place : StoredSite)
    → (IsOfALeg most runs (kept_lease runs place.attempt (site_in_runs forgotten.through place) n) → ⊥) → (kept : KeptLease)
    → IsLeaseAs most runs (record { lease = n; place = Some place }) kept → ⊥
no_given most n forgotten runs follow place none kept is = none (subst (IsOfALeg most runs) (kept_is most n forgotten runs follow place kept is) is.is_of_a_leg)

-- the run of a kept lease is not forgotten
pub none_forgotten : (most n : ℕ) (forgotten : ForgottenRuns) (runs : List RunState) → IdsFollow forgotten runs → (place : StoredSite)
    → place.run ≤ forgotten.through → (kept : KeptLease) → IsLeaseAs most runs (record { lease = n; place = Some place }) kept → ⊥
none_forgotten most n forgotten runs follow place past kept is =
    let run : kept.lease_reply.run ≡ place.run = ap (λ (s : StoredSite). s.run) is.place in
    let its = run_told most forgotten runs follow kept is.is_of_a_leg in
    absurd (omega (arith, past, run, its))

-- ---- replies

pub no_reply : (most : ℕ) (runs : List RunState) (parts : StoredLease) → ((kept : KeptLease) → IsLeaseAs most runs parts kept → ⊥)
    → (reply : ClaimReply) → IsReplyAs most runs (Some parts) reply → ⊥
no_reply most runs parts none given.Nothing is = is
no_reply most runs parts none (given.Lease kept) is = none kept is

pub no_last : (most : ℕ) (runs : List RunState) (claim : _) (parts : Option StoredLease)
    → ((reply : ClaimReply) → IsReplyAs most runs parts reply → ⊥) → (x : LastCommand) → IsLastAs most runs (stored.Claim claim parts) x → ⊥
no_last most runs claim parts none (last.Claim other reply) is = none reply is.1
no_last most runs claim parts none (last.Done report) is = is

-- ---- runners

pub no_runners : (most : ℕ) (runs : List RunState) (parts : List RunnerParts) (k : ℕ) (part : RunnerParts) → slice_get parts k ≡ Some part
    → ((x : RunnerState) → IsRunnerAs most runs part x → ⊥) → (runners : List RunnerState) → AreRunnersAs most runs parts runners → ⊥
no_runners most runs parts k part at none runners are =
    let within = slice_get_within parts k part at in
    elim (slice_get_cases runners k).1 [
      | inl h ↦ none h.0 (are.each k part h.0 at h.2)
      | inr h ↦ absurd (omega (arith, h.0, within, are.as_many))
    ]

last_of_leg : (most : ℕ) (runs : List RunState) (parts : LastParts) (x : LastCommand) → IsLastAs most runs parts x
    → KeptIsOfALeg most runs x
last_of_leg most runs (stored.Claim claim parts) (last.Claim other given.Nothing) is = tt
last_of_leg most runs (stored.Claim claim None) (last.Claim other (given.Lease kept)) is = absurd is.1
last_of_leg most runs (stored.Claim claim (Some parts)) (last.Claim other (given.Lease kept)) is = is.1.is_of_a_leg
last_of_leg most runs (stored.Claim claim parts) (last.Done report) is = absurd is
last_of_leg most runs (stored.Done report) (last.Claim claim reply) is = absurd is
last_of_leg most runs (stored.Done report) (last.Done other) is = tt

-- their kept leases are of legs
pub kept_of_legs : (most : ℕ) (runs : List RunState) (parts : List RunnerParts) (runners : List RunnerState)
    → AreRunnersAs most runs parts runners → KeptLeasesAreOfLegs most runs runners
kept_of_legs most runs parts runners are k x at =
    let within = slice_get_within runners k x at in
    elim (slice_get_cases parts k).1 [
      | inl h ↦ last_of_leg most runs h.0.last x.last (are.each k h.0 x h.2 at).last
      | inr h ↦ absurd (omega (arith, h.0, within, are.as_many))
    ]

-- ---- places

pub run_in_range : (runs : List RunState) (p : LegSite) (n : ℕ) → lease_of_leg runs p ≡ Some n → p.run < length runs
run_in_range runs p n has =
    let f = leg_from_had runs p n has in
    let place = (leg_in runs p f.value f.is).place in
    slice_get_within runs p.run place.run place.run_is
