-- A job without a ready leg has no leg that fits a runner.
use Rattle.std.specs.Prelude.{◌≡◌, ℕ, ◌+◌, ◌&&◌, List, [], ◌∷◌, Bool, true, false, Option, Some, None}
use Rattle.std.specs.Prelude.{if◌then◌else◌, refl}
use Rattle.std.specs.List.{enumerate_from, list_any}
use Rattle.std.specs.Option.{option_or}
use Rattle.std.proofs.Common.{ap, ◌∙◌}
use Rattle.std.proofs.lemmas.Bool.{or_parts}
use Rattle.table_model.specs.inner.ActiveRuns.{has_ready_leg}
use Rattle.table_model.specs.Runs.{first_some, leg_site, JobState, LegState, RunState}
use Rattle.table_model.specs.Fitting.{is_ready, is_served, has_room}
use Rattle.table_model.specs.declared.sites.LegSite.{LegSite}
use Rattle.table_model.specs.inner.WithinRun.{fit_in_job, served_in_job}

module _ (labels : List (List ℕ)) (runs : List RunState) (r : ℕ) where
  none_served : (j n : ℕ) (legs : List LegState) → list_any (λ l. is_ready l.phase) legs ≡ false
      → first_some (λ l. if is_ready l.1.phase && is_served labels runs (leg_site r j l.0) then Some (leg_site r j l.0) else None)
      (enumerate_from n legs) ≡ None
  none_served j n [] none = refl
  none_served j n (leg ∷ legs) none =
      let parts = or_parts (is_ready leg.phase) (list_any (λ l. is_ready l.phase) legs) none in
      ap (λ b. option_or (if b && is_served labels runs (leg_site r j n) then Some (leg_site r j n) else None)
      (first_some (λ l. if is_ready l.1.phase && is_served labels runs (leg_site r j l.0) then Some (leg_site r j l.0) else None)
      (enumerate_from (n + 1) legs))) parts.0
      ∙ none_served j (n + 1) legs parts.1

  none_taken : (b : Bool) (o : Option LegSite) → o ≡ None → (if b then o else None) ≡ None
  none_taken true o e = e
  none_taken false o e = refl

  pub none_in_job : (j : ℕ) (job : JobState) → has_ready_leg job ≡ false → fit_in_job labels runs r j job ≡ None
  none_in_job j job none = none_taken (has_room runs r j job) (served_in_job labels runs r j job) (none_served j 0 job.legs none)
