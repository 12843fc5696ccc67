-- A run that offers no leg has no ready leg at any place.
use Rattle.std.proofs.Common.{◌≡◌, ◌∙◌, ℕ, List, [], ◌∷◌, ◌++◌, map, refl, sym, ap}
use Rattle.std.proofs.lemmas.List.Folds.{list_any_at}
use Rattle.std.proofs.lemmas.Option.{get_or_from_slice_get, slice_get_within}
use Rattle.std.specs.Prelude.{Bool, true, false, cond, Option, None, Some, option_and_then, slice_get}
use Rattle.std.specs.List.{AllByRecursion, filter, flat_map, list_any}
use Rattle.std.specs.Option.{option_map_or}
use Rattle.table_model.specs.inner.ActiveRuns.{has_ready_leg, offers_legs}
use Rattle.table_model.specs.Runs.{placed, leg_site, leg_sites_of_job, leg_sites_of_run, JobState, LegState, RunState}
use Rattle.table_model.specs.Fitting.{is_ready}
use Rattle.table_model.specs.declared.sites.LegSite.{LegSite}
use Rattle.table_views.specs.QueueLines.{is_ready_at}

-- ---- lists all of whose elements have a property

all_map : {X Y : Type 0} (P : Y → Type 0) (f : X → Y) → ((x : X) → P (f x)) → (xs : List X) → AllByRecursion P (map f xs)
all_map P f each [] = tt
all_map P f each (x ∷ xs) = (each x, all_map P f each xs)

all_append : {X : Type 0} (P : X → Type 0) (xs ys : List X) → AllByRecursion P xs → AllByRecursion P ys → AllByRecursion P (xs ++ ys)
all_append P [] ys left right = right
all_append P (x ∷ xs) ys left right = (left.0, all_append P xs ys left.1 right)

all_flat : {X Y : Type 0} (P : Y → Type 0) (f : X → List Y) → ((x : X) → AllByRecursion P (f x)) → (xs : List X) → AllByRecursion P (flat_map f xs)
all_flat P f each [] = tt
all_flat P f each (x ∷ xs) = all_append P (f x) (flat_map f xs) (each x) (all_flat P f each xs)

none_passes : {X : Type 0} (P : X → Type 0) (test : X → Bool) → ((x : X) → P x → test x ≡ false) → (xs : List X) → AllByRecursion P xs
    → filter test xs ≡ []
none_passes P test never [] all = refl
none_passes P test never (x ∷ xs) all =
    ap (λ b. cond b (x ∷ filter test xs) (filter test xs)) (never x all.0) ∙ none_passes P test never xs all.1

none_of : {X : Type 0} (p : X → Bool) (xs : List X) (i : ℕ) (x : X) → list_any p xs ≡ false → slice_get xs i ≡ Some x → p x ≡ false
none_of p xs i x none at = by (p x) refl
  where
    by : (b : Bool) → p x ≡ b → p x ≡ false
    by true is =
        absurd (let clash : true ≡ false = sym (list_any_at p xs i x (slice_get_within xs i x at) (ap p (get_or_from_slice_get xs i x x at) ∙ is)) ∙ none in cc)
    by false is = is

-- ---- the sites of a run's legs

of_this_run : (r : ℕ) (run : RunState) → AllByRecursion (λ (p : LegSite). p.run ≡ r) (leg_sites_of_run (r, run))
of_this_run r run =
    all_flat (λ (p : LegSite). p.run ≡ r) (leg_sites_of_job r)
    (λ j. all_map (λ (p : LegSite). p.run ≡ r) (λ (l : ℕ × LegState). leg_site r j.0 l.0) (λ l. refl) (placed j.1.legs))
    (placed run.jobs)

not_ready : (runs : List RunState) (run : RunState) (p : LegSite) → slice_get runs p.run ≡ Some run → offers_legs run ≡ false
    → is_ready_at runs p ≡ false
not_ready runs run p at rests =
    ap (λ (o : Option RunState). option_map_or (λ (leg : LegState). is_ready leg.phase)
    (option_and_then (λ (job : JobState). slice_get job.legs p.leg) (option_and_then (λ (x : RunState). slice_get x.jobs p.job) o)) false) at
    ∙ by_job (slice_get run.jobs p.job) refl
  where
    by_leg : (y : JobState) → has_ready_leg y ≡ false → (o : Option LegState) → slice_get y.legs p.leg ≡ o
        → option_map_or (λ (leg : LegState). is_ready leg.phase) o false ≡ false
    by_leg y none None is = refl
    by_leg y none (Some z) is = none_of (λ (leg : LegState). is_ready leg.phase) y.legs p.leg z none is

    by_job : (o : Option JobState) → slice_get run.jobs p.job ≡ o
        → option_map_or (λ (leg : LegState). is_ready leg.phase) (option_and_then (λ (job : JobState). slice_get job.legs p.leg) o) false ≡ false
    by_job None is = refl
    by_job (Some y) is = by_leg y (none_of has_ready_leg run.jobs p.job y rests is) (slice_get y.legs p.leg) refl

pub nothing_ready : (runs : List RunState) (r : ℕ) (run : RunState) → slice_get runs r ≡ Some run → offers_legs run ≡ false
    → filter (is_ready_at runs) (leg_sites_of_run (r, run)) ≡ []
nothing_ready runs r run at rests =
    none_passes (λ (p : LegSite). p.run ≡ r) (is_ready_at runs) (λ p here. not_ready runs run p (ap (slice_get runs) here ∙ at) rests)
    (leg_sites_of_run (r, run)) (of_this_run r run)
