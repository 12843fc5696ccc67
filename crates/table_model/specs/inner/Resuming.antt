-- Where settling resumes after it has applied a rule: no rule applies before that site.
use Rattle.std.specs.Prelude.{◌≡◌, ℕ, ◌<◌, List, true, is_some, Option, Some, None, option_and_then, slice_get, if◌then◌else◌, min, ◌&&◌, ◌||◌}
use Rattle.std.specs.Prelude.{Bool, false}
use Rattle.table_model.specs.Groups.{group_at, cancels_in_progress, holds}
use Rattle.table_model.specs.Runs.{run_at, RunState, is_live, needs_in, results_so_far, leg_at, is_new}
use Rattle.table_model.specs.inner.WithinRun.{first_in_job, first_in_run}
use Rattle.table_model.specs.declared.sites.JobSite.{JobSite}
use Rattle.table_model.specs.declared.holder.Holder.TheVariants.{Run, Leg}
use Rattle.std.specs.List.{slice_index_or}
use Rattle.std.specs.Option.{option_map_or}
use Rattle.needs_graph.specs.Needs.{dependents_of}
use Rattle.table_model.specs.inner.Holders.{first_conflicting}
use Rattle.table_model.specs.declared.sites.LegSite.{LegSite}
use Rattle.table_model.specs.declared.holder.HolderFilter.TheVariants.{OthersPending, InProgress}
use Rattle.table_model.specs.declared.sites.RuleSite.{RuleSite}
use Rattle.table_model.specs.declared.sites.RuleSite.TheVariants.{Opening, AtLeg, Closing, Whole}
use Rattle.table_model.specs.declared.holder.Holder.{Holder}

-- the value of `f` at an index of a list, if it has one
abbrev pub apply_at : {X Y : Type 0} → (ℕ → X → Option Y) → List X → ℕ → Option Y
apply_at f xs i = option_and_then (f i) (slice_get xs i)

-- `f` has no value at any index before `i`
abbrev pub NoneBefore : {X Y : Type 0} → (ℕ → X → Option Y) → List X → ℕ → Type 0
NoneBefore f xs i = (k : ℕ) → k < i → apply_at f xs k ≡ None

-- in a live run no rule applies at a job before `j`
abbrev pub JobsRestBefore : List RunState → ℕ → RunState → ℕ → Type 0
JobsRestBefore runs r run j = is_live run.phase ≡ true → NoneBefore (first_in_job runs r run) run.jobs j

-- no rule applies in a run before the site, or at a job before it in its own run
abbrev pub RestBefore : List RunState → JobSite → Type 0
RestBefore runs p =
    NoneBefore (first_in_run runs) runs p.run × ((run : RunState) → run_at runs p.run ≡ Some run → JobsRestBefore runs p.run run p.job)

-- After the arrival of a new run: from the run itself if it has no group, since it then ends and stops nothing; otherwise from the first
-- run.
abbrev pub resume_at_arrival : List RunState → ℕ → JobSite
resume_at_arrival runs r = record { run = if is_some (group_at runs (Run r)) then 0 else r; job = 0 }

-- ---- where settling resumes

-- whether the leg there has not arrived yet
abbrev pub is_new_at : List RunState → LegSite → Bool
is_new_at runs p = option_map_or (λ l. is_new l.phase) (leg_at runs p) false

-- whether job `j` of a run has finished
abbrev pub has_finished : RunState → ℕ → Bool
has_finished run j = is_some (slice_index_or (results_so_far run.jobs) j None)

-- after a rule at a job: the first job that needs it directly, if the job has finished and that one is before it; otherwise the job itself
abbrev pub job_again : RunState → ℕ → ℕ
job_again run j = if has_finished run j then option_map_or (min j) (slice_get (dependents_of (needs_in run) j) 0) j else j

abbrev pub at_job_again : List RunState → ℕ → ℕ → JobSite
at_job_again runs r j = record { run = r; job = option_map_or (λ run. job_again run j) (run_at runs r) j }

-- whether an arrival affects others in its group: another pending holder ends, or the holder in progress is stopped
abbrev pub finds_others : List RunState → Holder → Bool
finds_others runs newcomer =
    is_some (first_conflicting runs newcomer OthersPending)
    || (cancels_in_progress runs newcomer && is_some (first_conflicting runs newcomer InProgress))

abbrev pub makes_room : List RunState → Holder → Bool
makes_room runs newcomer = is_some (group_at runs newcomer) && finds_others runs newcomer

-- Whether the rule there may let a holder of another run go on: a leg arrives there and another holder ends or is stopped, or a live run
-- with a group ends.
abbrev pub may_invalidate_others : List RunState → RuleSite → Bool
may_invalidate_others runs (Opening r j) = false
may_invalidate_others runs (AtLeg p) = is_new_at runs p && makes_room runs (Leg p)
may_invalidate_others runs (Closing r j) = false
may_invalidate_others runs (Whole r) = holds runs (Run r) && is_some (group_at runs (Run r))

-- after a rule that cannot, by the runs as it leaves them; after a rule of the run itself, from its first job
abbrev pub resume_near : List RunState → RuleSite → JobSite
resume_near runs (Opening r j) = at_job_again runs r j
resume_near runs (AtLeg p) = at_job_again runs p.run p.job
resume_near runs (Closing r j) = at_job_again runs r j
resume_near runs (Whole r) = record { run = r; job = 0 }

-- otherwise from the first run
abbrev pub resume_point : Bool → List RunState → RuleSite → JobSite
resume_point freed runs site = if freed then record { run = 0; job = 0 } else resume_near runs site
