-- The leases of the legs of a run and of a table, read place by place.
use Rattle.std.specs.Prelude.{◌≡◌, ℕ, List, Bool, true, false, Option, Some, None, option_and_then, slice_get, if◌then◌else◌, refl}
use Rattle.std.proofs.Common.{ap, sym, ◌∙◌}
use Rattle.table_model.specs.Fitting.{is_at_work}
use Rattle.table_model.specs.Runs.{run_at, job_at, leg_at, LegState, JobState, RunState}
use Rattle.table_model.specs.declared.sites.LegSite.{LegSite}
use Rattle.table_model.proofs.Optional.{From, from_and_then}

-- the lease of a leg with a runner at work
abbrev pub work_of : LegState → Option ℕ
work_of y = if is_at_work y.phase then y.lease else None

abbrev pub had_in_job : JobState → ℕ → Option ℕ
had_in_job job l = option_and_then (λ y. y.lease) (slice_get job.legs l)

abbrev pub works_in_job : JobState → ℕ → Option ℕ
works_in_job job l = option_and_then work_of (slice_get job.legs l)

abbrev pub had_in : RunState → ℕ → ℕ → Option ℕ
had_in run j l = option_and_then (λ job. had_in_job job l) (slice_get run.jobs j)

abbrev pub works_in : RunState → ℕ → ℕ → Option ℕ
works_in run j l = option_and_then (λ job. works_in_job job l) (slice_get run.jobs j)

abbrev pub had_at : List RunState → LegSite → Option ℕ
had_at runs p = option_and_then (λ run. had_in run p.job p.leg) (run_at runs p.run)

abbrev pub works_at : List RunState → LegSite → Option ℕ
works_at runs p = option_and_then (λ run. works_in run p.job p.leg) (run_at runs p.run)

-- ---- between the leg at a place and what is read there

and_then_twice : {X Y Z : Type 0} (f : Y → Option Z) (g : X → Option Y) (o : Option X)
    → option_and_then f (option_and_then g o) ≡ option_and_then (λ x. option_and_then f (g x)) o
and_then_twice f g None = refl
and_then_twice f g (Some x) = refl

pub had_is : (runs : List RunState) (p : LegSite) → option_and_then (λ (y : LegState). y.lease) (leg_at runs p) ≡ had_at runs p
had_is runs p =
    and_then_twice (λ (y : LegState). y.lease) (λ (job : JobState). slice_get job.legs p.leg) (job_at runs p.run p.job)
    ∙ and_then_twice (λ (job : JobState). had_in_job job p.leg) (λ (run : RunState). slice_get run.jobs p.job) (run_at runs p.run)

pub works_is : (runs : List RunState) (p : LegSite) → option_and_then work_of (leg_at runs p) ≡ works_at runs p
works_is runs p =
    and_then_twice work_of (λ (job : JobState). slice_get job.legs p.leg) (job_at runs p.run p.job)
    ∙ and_then_twice (λ (job : JobState). works_in_job job p.leg) (λ (run : RunState). slice_get run.jobs p.job) (run_at runs p.run)

pub had_from_leg : (runs : List RunState) (p : LegSite) (x : LegState) → leg_at runs p ≡ Some x → had_at runs p ≡ x.lease
had_from_leg runs p x e = sym (had_is runs p) ∙ ap (option_and_then (λ (y : LegState). y.lease)) e

pub works_from_leg : (runs : List RunState) (p : LegSite) (x : LegState) → leg_at runs p ≡ Some x → works_at runs p ≡ work_of x
works_from_leg runs p x e = sym (works_is runs p) ∙ ap (option_and_then work_of) e

pub leg_from_had : (runs : List RunState) (p : LegSite) (n : ℕ) → had_at runs p ≡ Some n
    → From (λ (y : LegState). y.lease) (leg_at runs p) n
leg_from_had runs p n e = from_and_then (λ (y : LegState). y.lease) (leg_at runs p) n (had_is runs p ∙ e)

pub leg_from_works : (runs : List RunState) (p : LegSite) (n : ℕ) → works_at runs p ≡ Some n → From work_of (leg_at runs p) n
leg_from_works runs p n e = from_and_then work_of (leg_at runs p) n (works_is runs p ∙ e)

-- a leg with a runner at work has a lease
pub work_parts : (b : Bool) (lease : Option ℕ) (n : ℕ) → (if b then lease else None) ≡ Some n → (b ≡ true) × (lease ≡ Some n)
work_parts true lease n e = (refl, e)
work_parts false lease n e = cc
