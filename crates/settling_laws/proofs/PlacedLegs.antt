-- The legs of a table with their sites: each is the leg that stands at its site, and each leg of the table is among them.
use Rattle.std.specs.Prelude.{◌≡◌, ℕ, ◌+◌, ◌<◌, ◌≤◌, List, [], ◌∷◌, ◌++◌, length, map, flat_map, Bool, Option, None, Some, option_and_then, slice_get, if◌then◌else◌, refl}
use Rattle.std.specs.List.{AllByRecursion, enumerate_from}
use Rattle.std.specs.Option.{option_or}
use Rattle.std.proofs.Common.{arith, ap, ap₂, ◌∙◌}
use Rattle.std.proofs.lemmas.List.{map-append}
use Rattle.table_model.specs.Runs.{first_some, placed, leg_at, leg_site, leg_sites_of_job, leg_sites_of_run, LegState, JobState, RunState}
use Rattle.table_model.specs.inner.PlacedLegs.{PlacedLeg, placed_leg, placed_legs, placed_legs_of_job, placed_legs_of_run}
use Rattle.table_model.specs.declared.sites.LegSite.{LegSite}
use Rattle.table_model.proofs.Found.{all_flat_map, all_weaken, each_of_flat_map, each_of_map, each_of_placed, placed_get}
use Rattle.table_model.proofs.JobKeeps.{leg_in}

-- ---- the first leg of a job that passes a test

-- what is given for the first of these legs that passes it
abbrev pub first_passing : {Y : Type 0} → (LegSite → LegState → Bool) → (LegSite → Y) → List PlacedLeg → Option Y
first_passing test give legs = first_some (λ x. if test x.site x.leg then Some (give x.site) else None) legs

first_some-map : {X Y Z : Type 0} (f : Y → Option Z) (g : X → Y) (xs : List X) → first_some f (map g xs) ≡ first_some (λ x. f (g x)) xs
first_some-map f g [] = refl
first_some-map f g (x ∷ xs) = ap (option_or (f (g x))) (first_some-map f g xs)

pub first_passing_in_job : {Y : Type 0} (test : LegSite → LegState → Bool) (give : LegSite → Y) (r j : ℕ) (legs : List LegState)
    → first_passing test give (map (placed_leg r j) (placed legs))
    ≡ first_some (λ l. if test (leg_site r j l.0) l.1 then Some (give (leg_site r j l.0)) else None) (placed legs)
first_passing_in_job test give r j legs = first_some-map (λ x. if test x.site x.leg then Some (give x.site) else None) (placed_leg r j) (placed legs)

-- a site of one of the first legs of a job
pub record IsInJob (r j most : ℕ) (p : LegSite) : Type 0 where
  pub run : p.run ≡ r
  pub job : p.job ≡ j
  pub leg : p.leg < most

from_in_job : (r j most n : ℕ) (legs : List LegState) → n + length legs ≤ most
    → AllByRecursion (λ (x : PlacedLeg). IsInJob r j most x.site) (map (placed_leg r j) (enumerate_from n legs))
from_in_job r j most n [] le = tt
from_in_job r j most n (leg ∷ legs) le =
    (record { run = refl; job = refl; leg = omega (arith, le) }, from_in_job r j most (n + 1) legs (omega (arith, le)))

pub all_in_job : (r j most : ℕ) (legs : List LegState) → length legs ≤ most
    → AllByRecursion (λ (x : PlacedLeg). IsInJob r j most x.site) (map (placed_leg r j) (placed legs))
all_in_job r j most legs le = from_in_job r j most 0 legs (omega (arith, le))

-- ---- their sites are the sites of all legs

map_map : {X Y Z : Type 0} (g : Y → Z) (f : X → Y) (xs : List X) → map g (map f xs) ≡ map (λ x. g (f x)) xs
map_map g f [] = refl
map_map g f (x ∷ xs) = ap (λ zs. g (f x) ∷ zs) (map_map g f xs)

map_flat_map : {X Y Z : Type 0} (g : Y → Z) (f : X → List Y) (h : X → List Z) → ((x : X) → map g (f x) ≡ h x) → (xs : List X)
    → map g (flat_map f xs) ≡ flat_map h xs
map_flat_map g f h same [] = refl
map_flat_map g f h same (x ∷ xs) = map-append g (f x) (flat_map f xs) ∙ ap₂ (λ ys zs. ys ++ zs) (same x) (map_flat_map g f h same xs)

pub sites_of_run : (r : ℕ × RunState) → map (λ (x : PlacedLeg). x.site) (placed_legs_of_run r) ≡ leg_sites_of_run r
sites_of_run r =
    map_flat_map (λ (x : PlacedLeg). x.site) (placed_legs_of_job r.0) (leg_sites_of_job r.0)
    (λ j. map_map (λ (x : PlacedLeg). x.site) (placed_leg r.0 j.0) (placed j.1.legs)) (placed r.1.jobs)

-- ---- each is at its site

all_mapped : {X Y : Type 0} (P : Y → Type 0) (f : X → Y) (xs : List X) → AllByRecursion (λ x. P (f x)) xs → AllByRecursion P (map f xs)
all_mapped P f [] h = tt
all_mapped P f (x ∷ xs) h = (h.0, all_mapped P f xs h.1)

-- a property of each leg of a run
module _ (P : PlacedLeg → Type 0) (r : ℕ) (run : RunState)
    (holds : (j l : ℕ) (job : JobState) (leg : LegState) → slice_get run.jobs j ≡ Some job → slice_get job.legs l ≡ Some leg
    → P (placed_leg r j (l, leg))) where
  of_job : (j : ℕ × JobState) → slice_get run.jobs j.0 ≡ Some j.1 → AllByRecursion P (placed_legs_of_job r j)
  of_job j at_job =
      all_mapped P (placed_leg r j.0) (placed j.1.legs)
      (all_weaken (λ (l : ℕ × LegState). slice_get j.1.legs l.0 ≡ Some l.1) (λ l. P (placed_leg r j.0 l))
      (λ l at_leg. holds j.0 l.0 j.1 l.1 at_job at_leg) (placed j.1.legs) (placed_get j.1.legs))

  pub each_in_run : AllByRecursion P (placed_legs_of_run (r, run))
  each_in_run =
      all_flat_map P (placed_legs_of_job r) (placed run.jobs)
      (all_weaken (λ (j : ℕ × JobState). slice_get run.jobs j.0 ≡ Some j.1) (λ j. AllByRecursion P (placed_legs_of_job r j)) of_job
      (placed run.jobs) (placed_get run.jobs))

pub leg_there : (runs : List RunState) (r j : ℕ) (run : RunState) (job : JobState) → slice_get runs r ≡ Some run
    → slice_get run.jobs j ≡ Some job → (l : ℕ) (leg : LegState) → slice_get job.legs l ≡ Some leg
    → leg_at runs (leg_site r j l) ≡ Some leg
leg_there runs r j run job at_run at_job l leg at =
    ap (λ o. option_and_then (λ x. slice_get x.legs l) (option_and_then (λ x. slice_get x.jobs j) o)) at_run
    ∙ ap (option_and_then (λ x. slice_get x.legs l)) at_job ∙ at

module _ (runs : List RunState) where
  abbrev IsThere : PlacedLeg → Type 0
  IsThere x = leg_at runs x.site ≡ Some x.leg

  pub each_is_there : AllByRecursion (λ (x : PlacedLeg). leg_at runs x.site ≡ Some x.leg) (placed_legs runs)
  each_is_there =
      all_flat_map IsThere placed_legs_of_run (placed runs)
      (all_weaken (λ (r : ℕ × RunState). slice_get runs r.0 ≡ Some r.1) (λ r. AllByRecursion IsThere (placed_legs_of_run r))
      (λ r at_run. each_in_run IsThere r.0 r.1 (λ j l job leg at_job at_leg. leg_there runs r.0 j r.1 job at_run at_job l leg at_leg))
      (placed runs) (placed_get runs))

-- ---- a property of all of them holds of each leg of the table

pub each_placed : (P : PlacedLeg → Type 0) (runs : List RunState) (p : LegSite) (z : LegState) → AllByRecursion P (placed_legs runs)
    → leg_at runs p ≡ Some z → P (record { site = p; leg = z })
each_placed P runs p z all e =
    let at = leg_in runs p z e in
    let of_runs = each_of_flat_map P placed_legs_of_run (placed runs) all in
    let of_run = each_of_placed (λ (x : ℕ × RunState). AllByRecursion P (placed_legs_of_run x)) runs p.run at.place.run of_runs at.place.run_is in
    let of_jobs = each_of_flat_map P (placed_legs_of_job p.run) (placed at.place.run.jobs) of_run in
    let of_job = each_of_placed
    (λ (y : ℕ × JobState). AllByRecursion P (placed_legs_of_job p.run y)) at.place.run.jobs p.job at.job of_jobs at.place.job_is in
    let of_legs = each_of_map P (placed_leg p.run p.job) (placed at.job.legs) of_job in
    each_of_placed (λ (l : ℕ × LegState). P (placed_leg p.run p.job l)) at.job.legs p.leg z of_legs at.leg_is
