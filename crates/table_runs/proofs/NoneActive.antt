-- A run that is not active has no leg with a runner at work, and neither the run nor a leg of it is pending or running in a group.
use Rattle.std.specs.Prelude.{◌≡◌, ℕ, zero, suc, ◌<◌, ◌≤◌, ◌&&◌, ◌||◌, List, [], ◌∷◌, Bool, true, false, Option, Some, None, not}
use Rattle.std.specs.Prelude.{nat_eq, option_and_then, slice_get, if◌then◌else◌, refl}
use Rattle.std.specs.List.{list_any}
use Rattle.std.specs.Option.{option_map_or}
use Rattle.std.proofs.Common.{arith, ap, sym, ◌∙◌, inl, inr}
use Rattle.std.proofs.lemmas.Bool.{cases_eq, cases_lt, or_parts, true≢false}
use Rattle.std.proofs.lemmas.Bool.Decides.{nat_tests}
use Rattle.group_name.specs.Group.{Group}
use Rattle.table_model.specs.inner.ActiveRuns.{has_active_leg, is_active, is_active_leg}
use Rattle.table_model.specs.Runs.{first_some, placed, leg_at, leg_site, JobState, LegState, RunState, is_live}
use Rattle.table_model.specs.Fitting.{OnlyAtWork, has_lease, is_at_work}
use Rattle.table_model.specs.GroupLaw.{same_holder}
use Rattle.table_model.specs.Groups.{is_in, is_pending_in, leg_holds, leg_waits, run_waits, waits}
use Rattle.table_model.specs.inner.Resuming.{apply_at}
use Rattle.table_model.specs.inner.PlacedLegs.{PlacedLeg, placed_legs_of_run}
use Rattle.table_model.specs.declared.sites.LegSite.{LegSite}
use Rattle.table_model.specs.inner.WithinRun.{lease_in_run}
use Rattle.table_model.specs.declared.phases.LegPhase.{LegPhase}
use Rattle.table_model.specs.declared.phases.LegPhase.TheVariants as a_leg
use Rattle.settling_laws.specs.inner.RunFacts.{is_so_at}
use Rattle.settling_laws.proofs.Firsts.{first_same_placed, first_some_same}
use Rattle.settling_laws.proofs.PlacedLegs.{each_in_run, leg_there}
use Rattle.table_model.specs.declared.holder.Holder.{Holder}

-- ---- if each index has no value

nothing : {X Y : Type 0} (xs : List X) → first_some {X = X} {Y = Y} (λ x. None) xs ≡ None
nothing [] = refl
nothing (x ∷ xs) = nothing xs

pub none_placed : {X Y : Type 0} (f : ℕ × X → Option Y) (xs : List X) → ((i : ℕ) (x : X) → slice_get xs i ≡ Some x → f (i, x) ≡ None)
    → first_some f (placed xs) ≡ None
none_placed f xs none = first_same_placed f (λ x. None) xs none ∙ nothing (placed xs)

-- ---- each leg of a run that is not active

pub none_of : {X : Type 0} (p : X → Bool) (xs : List X) (i : ℕ) (x : X) → list_any p xs ≡ false → slice_get xs i ≡ Some x → p x ≡ false
none_of p [] i x none at = cc
none_of p (y ∷ ys) zero x none at = ap (λ o. option_map_or p o false) (sym at) ∙ (or_parts (p y) (list_any p ys) none).0
none_of p (y ∷ ys) (suc i) x none at = none_of p ys i x (or_parts (p y) (list_any p ys) none).1 at

jobs_rest : (run : RunState) → is_active run ≡ false → list_any has_active_leg run.jobs ≡ false
jobs_rest run none = (or_parts (run_waits run.phase || is_live run.phase) (list_any has_active_leg run.jobs) none).1

leg_rests : (run : RunState) (j l : ℕ) (job : JobState) (leg : LegState) → is_active run ≡ false → slice_get run.jobs j ≡ Some job
    → slice_get job.legs l ≡ Some leg → is_active_leg leg ≡ false
leg_rests run j l job leg none at_job at_leg =
    none_of is_active_leg job.legs l leg (none_of has_active_leg run.jobs j job (jobs_rest run none) at_job) at_leg

-- ---- the leg with a lease, if each leg that has it has a runner at work

at_work_holds : (phase : LegPhase) → is_at_work phase ≡ true → leg_holds phase ≡ true
at_work_holds a_leg.New e = cc
at_work_holds a_leg.Waiting e = cc
at_work_holds a_leg.Ready e = refl
at_work_holds a_leg.Running e = refl
at_work_holds a_leg.Stopping e = refl
at_work_holds (a_leg.Ended r) e = cc

module _ (runs : List RunState) (lease : ℕ) (only : OnlyAtWork runs lease) where
  not_held : (p : LegSite) (leg : LegState) → leg_at runs p ≡ Some leg → is_active_leg leg ≡ false → has_lease lease leg ≡ false
  not_held p leg at none = by leg.lease refl
    where
      holds_not : leg_holds leg.phase ≡ false
      holds_not = (or_parts (leg_waits leg.phase) (leg_holds leg.phase) none).1

      by : (o : Option ℕ) → leg.lease ≡ o → option_map_or (λ held. nat_eq held lease) o false ≡ false
      by None is = refl
      by (Some held) is =
          elim (cases_eq held lease) [
            | inl same ↦
                absurd (true≢false (sym (at_work_holds leg.phase (only p leg at (is ∙ ap Some same))) ∙ holds_not))
            | inr other ↦ grind (arith, nat_tests)
          ]

  pub no_lease : (i : ℕ) → is_so_at is_active runs i ≡ false → apply_at (lease_in_run lease) runs i ≡ None
  no_lease i none = by (slice_get runs i) refl none
    where
      by : (o : Option RunState) → slice_get runs i ≡ o → option_map_or is_active o false ≡ false
          → option_and_then (lease_in_run lease i) o ≡ None
      by None at_run e = refl
      by (Some x) at_run e =
          let leased : PlacedLeg → Option LegSite = λ y. if has_lease lease y.leg then Some y.site else None in
          first_some_same leased (λ y. None) (placed_legs_of_run (i, x))
          (each_in_run (λ y. leased y ≡ None) i x
          (λ j l job leg at_job at_leg. ap (λ b. if b then Some (leg_site i j l) else None)
          (not_held (leg_site i j l) leg (leg_there runs i j x job at_run at_job l leg at_leg) (leg_rests x j l job leg e at_job at_leg))))
          ∙ nothing (placed_legs_of_run (i, x))

-- ---- the holders of a group

and_none : (a b : Bool) → b ≡ false → (a && b) ≡ false
and_none true b none = none
and_none false b none = refl

module _ (runs : List RunState) (h : Holder) where
  not_pending : (other : Holder) (o : Option Group) → waits runs other ≡ false
      → option_map_or (λ g. is_pending_in runs g other && not (same_holder other h)) o false ≡ false
  not_pending other None none = refl
  not_pending other (Some g) none = ap (λ b. b && not (same_holder other h)) (and_none (is_in runs g other) (waits runs other) none)

-- no run before `r` has a value, if none before `from` has one and none is found from there to `r`

pub none_before : (none_at passed : ℕ → Type 0) (from r : ℕ) → ((i : ℕ) → passed i → none_at i) → ((k : ℕ) → k < from → none_at k)
    → ((i : ℕ) → from ≤ i → i < r → passed i) → (k : ℕ) → k < r → none_at k
none_before none_at passed from r where_passed before between k lt =
    elim (cases_lt k from) [
      | inl early ↦ before k early
      | inr late ↦ where_passed k (between k late lt)
    ]
