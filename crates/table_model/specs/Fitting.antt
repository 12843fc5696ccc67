-- Which leg a claim gets.
use Rattle.std.specs.Prelude.{ℕ, List, count_by, nat_lt, Bool, true, false, Option, option_and_then, ◌≡◌, ◌&&◌, find, nat_eq, Some}
use Rattle.std.specs.Option.{option_map_or}
use Rattle.table_model.specs.Runs.{plan_at, job_at, leg_at, leg_sites, JobState, RunState, LegState}
use Rattle.table_model.specs.declared.phases.LegPhase.{LegPhase}
use Rattle.table_model.specs.declared.phases.LegPhase.TheVariants as leg
use Rattle.std.specs.List.{list_all, list_any}
use Rattle.std.specs.Str.{str_eq_ignore_ascii_case}
use Rattle.table_model.specs.declared.sites.LegSite.{LegSite}
use Rattle.table_model.specs.LegContext.{labels_at}

-- ---- how many legs of a job run at once. GitHub Docs, "Workflow syntax for GitHub Actions", jobs.<job_id>.strategy.max-parallel. This project
-- defines that a leg which is asked to stop counts until its runner has reported.

-- whether a runner is at work on the leg
abbrev pub is_at_work : LegPhase → Bool
is_at_work leg.Running = true
is_at_work leg.Stopping = true
is_at_work _ = false

-- how many legs of the job have a runner at work
abbrev pub legs_at_work : JobState → ℕ
legs_at_work job = count_by (λ l. is_at_work l.phase) job.legs

-- the most legs of the job that may be at work at a time, if its plan sets a bound
abbrev pub most_at_work : List RunState → ℕ → ℕ → Option ℕ
most_at_work runs r j = option_and_then (λ planned. planned.max_parallel) (plan_at runs r j)

-- whether one more leg of the job may run
abbrev pub has_room : List RunState → ℕ → ℕ → JobState → Bool
has_room runs r j job = option_map_or (λ most. nat_lt (legs_at_work job) most) (most_at_work runs r j) true

-- ---- which leg a claim gets, and which leg has a lease: the first in the order of run, job and leg. GitHub Docs, "Workflow syntax for GitHub
-- Actions": jobs.<job_id>.runs-on, jobs.<job_id>.strategy.max-parallel. This project defines that labels compare without the case of ASCII
-- letters.

-- whether the label is among these, ignoring the case of ASCII letters
abbrev pub has_label : List (List ℕ) → List ℕ → Bool
has_label labels wanted = list_any (λ label. str_eq_ignore_ascii_case label wanted) labels

-- each of the wanted labels is among the runner's
abbrev pub has_labels : List (List ℕ) → List (List ℕ) → Bool
has_labels labels wanted = list_all (has_label labels) wanted

abbrev pub is_ready : LegPhase → Bool
is_ready leg.Ready = true
is_ready _ = false

-- whether the leg at a site asks only for labels that the runner has
abbrev pub is_served : List (List ℕ) → List RunState → LegSite → Bool
is_served labels runs p = option_map_or (has_labels labels) (labels_at runs p) false

-- whether one more leg of its job may run
abbrev pub may_run_too : List RunState → LegSite → Bool
may_run_too runs p = option_map_or (has_room runs p.run p.job) (job_at runs p.run p.job) false

-- the leg is ready, its job has room for it, and the runner has all labels that it asks for
abbrev pub fits : List (List ℕ) → List RunState → LegSite → Bool
fits labels runs p = option_map_or (λ l. is_ready l.phase) (leg_at runs p) false && (may_run_too runs p && is_served labels runs p)

abbrev pub first_fit : List (List ℕ) → List RunState → Option LegSite
first_fit labels runs = find (fits labels runs) (leg_sites runs)

abbrev pub has_lease : ℕ → LegState → Bool
has_lease lease l = option_map_or (λ held. nat_eq held lease) l.lease false

-- the site of the leg with this lease
abbrev pub site_of_lease : List RunState → ℕ → Option LegSite
site_of_lease runs lease = find (λ p. option_map_or (has_lease lease) (leg_at runs p) false) (leg_sites runs)

-- each leg that has the lease has a runner at work
abbrev pub OnlyAtWork : List RunState → ℕ → Type 0
OnlyAtWork runs lease = (p : LegSite) (l : LegState) → leg_at runs p ≡ Some l → l.lease ≡ Some lease → is_at_work l.phase ≡ true

-- ---- a leg that is asked to stop

abbrev pub is_stopping_leg : LegPhase → Bool
is_stopping_leg leg.Stopping = true
is_stopping_leg _ = false

-- whether the leg with this lease is asked to stop
abbrev pub is_lease_stopping : List RunState → ℕ → Bool
is_lease_stopping runs lease =
    option_map_or (λ p. option_map_or (λ l. is_stopping_leg l.phase) (leg_at runs p) false) (site_of_lease runs lease) false
