-- Settling opens jobs of live runs only.
use Rattle.std.specs.Prelude.{◌≡◌, ℕ, List, [], ◌∷◌, map, flat_map, Bool, true, false, if◌then◌else◌, Some, slice_get, refl}
use Rattle.std.specs.List.{AllByRecursion}
use Rattle.table_model.specs.Runs.{placed, run_at, LegState, JobState, RunState}
use Rattle.table_model.specs.Settling.{is_live, job_sites, run_sites, rule_sites, applies, first_site}
use Rattle.table_model.specs.declared.phases.RunPhase.{RunPhase}
use Rattle.table_model.specs.declared.phases.RunPhase.TheVariants as run
use Rattle.table_model.specs.declared.sites.RuleSite.{RuleSite}
use Rattle.table_model.specs.declared.sites.RuleSite.TheVariants.{Opening, AtLeg, Closing, Whole}
use Rattle.table_model.proofs.Found.{found, all_weaken, all_of, all_append, all_map, all_flat_map, placed_get}

abbrev pub LivePlace : List RunState → RuleSite → Type 0
LivePlace runs (Opening r j) = (x : RunState) × (run_at runs r ≡ Some x) × (x.phase ≡ run.Live)
LivePlace runs (AtLeg p) = Unit {0}
LivePlace runs (Closing r j) = Unit {0}
LivePlace runs (Whole r) = Unit {0}

is_live_live : (phase : RunPhase) → is_live phase ≡ true → phase ≡ run.Live
is_live_live run.Waiting e = cc
is_live_live run.Live e = refl
is_live_live run.Ended e = cc

of_a_job : (runs : List RunState) (r : ℕ) (x : RunState) → run_at runs r ≡ Some x → x.phase ≡ run.Live → (e : ℕ × JobState)
    → AllByRecursion (LivePlace runs) (job_sites r e)
of_a_job runs r x was live e = (
  (x, was, live),
  all_append (LivePlace runs) (map (λ l. AtLeg (record { run = r; job = e.0; leg = l.0 })) (placed e.1.legs)) (Closing r e.0 ∷ [])
      (all_map (LivePlace runs) (λ (l : ℕ × LegState). AtLeg (record { run = r; job = e.0; leg = l.0 })) (λ l. tt) (placed e.1.legs))
      (tt, tt),
)

of_the_jobs : (runs : List RunState) (r : ℕ) (x : RunState) → run_at runs r ≡ Some x → (b : Bool) → is_live x.phase ≡ b
    → AllByRecursion (LivePlace runs) (if b then flat_map (job_sites r) (placed x.jobs) else [])
of_the_jobs runs r x was true e =
    all_flat_map (LivePlace runs) (job_sites r) (placed x.jobs)
    (all_of (λ j. AllByRecursion (LivePlace runs) (job_sites r j)) (of_a_job runs r x was (is_live_live x.phase e)) (placed x.jobs))
of_the_jobs runs r x was false e = tt

of_a_run : (runs : List RunState) (e : ℕ × RunState) → slice_get runs e.0 ≡ Some e.1 → AllByRecursion (LivePlace runs) (run_sites e)
of_a_run runs e was =
    all_append (LivePlace runs) (if is_live e.1.phase then flat_map (job_sites e.0) (placed e.1.jobs) else []) (Whole e.0 ∷ [])
    (of_the_jobs runs e.0 e.1 was (is_live e.1.phase) refl) (tt, tt)

all_live : (runs : List RunState) → AllByRecursion (LivePlace runs) (rule_sites runs)
all_live runs =
    all_flat_map (LivePlace runs) run_sites (placed runs)
    (all_weaken (λ (e : ℕ × RunState). slice_get runs e.0 ≡ Some e.1) (λ e. AllByRecursion (LivePlace runs) (run_sites e)) (of_a_run runs)
    (placed runs) (placed_get runs))

pub first_place_is_live : (runs : List RunState) (site : RuleSite) → first_site runs ≡ Some site → LivePlace runs site
first_place_is_live runs site e = (found (LivePlace runs) (applies runs) (rule_sites runs) site (all_live runs) e).is_element

pub first_place_applies : (runs : List RunState) (site : RuleSite) → first_site runs ≡ Some site → applies runs site ≡ true
first_place_applies runs site e = (found (LivePlace runs) (applies runs) (rule_sites runs) site (all_live runs) e).passes
