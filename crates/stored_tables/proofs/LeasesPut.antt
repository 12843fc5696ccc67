-- The legs that have leases, inserted job by job and run by run, and the runners that hold them.
use Rattle.std.specs.Prelude.{◌≡◌, ◌⊎◌, ℕ, ◌+◌, ◌<◌, List, [], ◌∷◌, length, Option, Some, None, option_and_then, slice_get, refl}
use Rattle.std.specs.List.{AllByRecursion}
use Rattle.std.proofs.Common.{ap, sym, subst, ◌∙◌, inl, inr}
use Rattle.std.proofs.lemmas.Option.{slice_get_within}
use Rattle.stored_tables.specs.inner.ByLease.{lease_in_job, lease_of_leg, lease_of_runner}
use Rattle.stored_tables.specs.inner.ByNumber.{Adds}
use Rattle.table_model.specs.inner.PlacedLegs.{PlacedLeg, placed_legs}
use Rattle.table_model.specs.Runs.{job_at, leg_at, run_at, LegState, JobState, RunState}
use Rattle.table_model.specs.declared.sites.LegSite.{LegSite}
use Rattle.table_model.specs.TableState.{RunnerState}
use Rattle.stored_tables.proofs.ByNumberRead.{adds_next, adds_on, adds_same, all_added, nothing_added}
use Rattle.table_model.proofs.Found.{all_weaken}
use Rattle.table_model.proofs.Optional.{from_and_then}
use Rattle.settling_laws.proofs.PlacedLegs.{each_is_there, each_placed}

-- one of these legs is at the place and has the lease
abbrev pub HasLease : List PlacedLeg → LegSite → ℕ → Type 0
HasLease [] p n = ⊥
HasLease (x ∷ xs) p n = ((p ≡ x.site) × (x.leg.lease ≡ Some n)) ⊎ HasLease xs p n

-- what was inserted so far
abbrev pub SoFarOfRunners : List RunnerState → ℕ → ℕ → ℕ → Type 0
SoFarOfRunners runners i k n = (lease_of_runner runners k ≡ Some n) × (k < i)

-- ---- one leg after another

pub leg_put : (site : LegSite) (x : LegState) (rest left : List PlacedLeg) (a b c : ℕ → Option LegSite)
    → left ≡ record { site = site; leg = x } ∷ rest → Adds a b (λ p n. (p ≡ site) × (x.lease ≡ Some n)) → Adds b c (HasLease rest)
    → Adds a c (HasLease left)
leg_put site x rest left a b c is one more =
    subst (λ xs. Adds a c (HasLease xs)) (sym is)
    (adds_on a b c (λ p n. (p ≡ site) × (x.lease ≡ Some n)) (HasLease rest) (HasLease (record { site = site; leg = x } ∷ rest)) one more
    (λ p n h. inl h) (λ p n h. inr h) (λ p n h. h))

pub none_left : (left : List PlacedLeg) (a : ℕ → Option LegSite) → left ≡ [] → Adds a a (HasLease left)
none_left left a is = nothing_added a (HasLease left) (λ p n h. subst (λ xs. HasLease xs p n) is h)

-- ---- those of a table

then_then : {X Y Z : Type 0} (f : Y → Option Z) (g : X → Option Y) (o : Option X)
    → option_and_then f (option_and_then g o) ≡ option_and_then (λ x. option_and_then f (g x)) o
then_then f g None = refl
then_then f g (Some x) = refl

lease_is : (runs : List RunState) (p : LegSite) → option_and_then (λ (x : LegState). x.lease) (leg_at runs p) ≡ lease_of_leg runs p
lease_is runs p =
    then_then (λ (x : LegState). x.lease) (λ (job : JobState). slice_get job.legs p.leg) (job_at runs p.run p.job)
    ∙ then_then (λ (job : JobState). lease_in_job job.legs p.leg) (λ (run : RunState). slice_get run.jobs p.job) (run_at runs p.run)

has_lease : (runs : List RunState) (xs : List PlacedLeg) (p : LegSite) (n : ℕ)
    → AllByRecursion (λ (x : PlacedLeg). leg_at runs x.site ≡ Some x.leg) xs → HasLease xs p n → lease_of_leg runs p ≡ Some n
has_lease runs [] p n all h = absurd h
has_lease runs (x ∷ xs) p n all (inl h) =
    sym (lease_is runs p) ∙ ap (option_and_then (λ (y : LegState). y.lease)) (ap (leg_at runs) h.0 ∙ all.0) ∙ h.1
has_lease runs (x ∷ xs) p n all (inr h) = has_lease runs xs p n all.1 h

among : (xs : List PlacedLeg) → AllByRecursion (λ (x : PlacedLeg). (n : ℕ) → x.leg.lease ≡ Some n → HasLease xs x.site n) xs
among [] = tt
among (x ∷ xs) = (
  (λ n e. inl (refl, e)),
  all_weaken (λ (y : PlacedLeg). (n : ℕ) → y.leg.lease ≡ Some n → HasLease xs y.site n)
      (λ y. (n : ℕ) → y.leg.lease ≡ Some n → HasLease (x ∷ xs) y.site n) (λ y h n e. inr (h n e)) xs (among xs),
)

pub all_put : (runs : List RunState) (left : List PlacedLeg) (a b : ℕ → Option LegSite) → left ≡ []
    → ((after : ℕ → Option LegSite) → Adds b after (HasLease left) → Adds a after (HasLease (placed_legs runs)))
    → Adds a b (λ p n. lease_of_leg runs p ≡ Some n)
all_put runs left a b is adds =
    adds_same a b (HasLease (placed_legs runs)) (λ p n. lease_of_leg runs p ≡ Some n) (adds b (none_left left b is))
    (λ p n h. has_lease runs (placed_legs runs) p n (each_is_there runs) h)
    (λ p n e.
    let leg = from_and_then (λ (x : LegState). x.lease) (leg_at runs p) n (lease_is runs p ∙ e) in
    each_placed (λ (x : PlacedLeg). (m : ℕ) → x.leg.lease ≡ Some m → HasLease (placed_legs runs) x.site m) runs p leg.value
    (among (placed_legs runs)) leg.is n leg.gives)

-- ---- one runner

pub runner_put : (k : ℕ) (runners : List RunnerState) (x : RunnerState) (a b c : ℕ → Option ℕ) → slice_get runners k ≡ Some x
    → Adds a b (SoFarOfRunners runners k) → Adds b c (λ p n. (p ≡ k) × (x.holds ≡ Some n)) → Adds a c (SoFarOfRunners runners (k + 1))
runner_put k runners x a b c at before more =
    adds_next (λ p. p) (λ p n. lease_of_runner runners p ≡ Some n) k a b c (λ p n. (p ≡ k) × (x.holds ≡ Some n)) before more
    (λ p n h. (ap (lease_of_runner runners) h.0 ∙ its ∙ h.1, h.0))
    (λ p n h here. (here, sym its ∙ ap (lease_of_runner runners) (sym here) ∙ h))
  where
    its : lease_of_runner runners k ≡ x.holds
    its = ap (option_and_then (λ (y : RunnerState). y.holds)) at

pub runners_put : (i : ℕ) (runners : List RunnerState) (a b : ℕ → Option ℕ) → length runners ≡ i → Adds a b (SoFarOfRunners runners i)
    → Adds a b (λ k n. lease_of_runner runners k ≡ Some n)
runners_put i runners a b len adds =
    all_added (λ k. k) (λ k n. lease_of_runner runners k ≡ Some n) i a b adds
    (λ k n h.
    let from = from_and_then (λ (y : RunnerState). y.holds) (slice_get runners k) n h in
    subst (λ m. k < m) len (slice_get_within runners k from.value from.is))
