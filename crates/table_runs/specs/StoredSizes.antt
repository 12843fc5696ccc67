-- How many bytes a run has in the text of a table, and the limits that bound them; and the size of all runs, as a table keeps it.
use Rattle.std.specs.Prelude.{◌≡◌, ℕ, ◌+◌, ◌*◌, ◌≤◌, List, length, map, sum_by}
use Rattle.std.specs.List.{AllByRecursion}
use Rattle.definitions.specs.Limits.{max_body, max_jobs, max_text_bytes}
use Rattle.definitions.specs.SmallText.{Admitted}
use Rattle.table_model.specs.Runs.{JobState, RunState}

-- the number of legs of each job
abbrev pub leg_counts : List JobState → List ℕ
leg_counts jobs = map (λ j. length j.legs) jobs

-- the phase of a job with so many legs, their number, and for each leg its phase and its lease
abbrev pub job_size : ℕ → ℕ
job_size legs = 5 + 5 * legs

-- the bytes of the delivery, of the event's name and of the body
abbrev pub texts_size : Admitted → ℕ
texts_size a = length a.delivery + length a.event + length a.body

-- three texts, each after its length, an attempt, a phase, a flag and the jobs
abbrev pub run_size : RunState → ℕ
run_size r = 18 + texts_size r.admitted + sum_by job_size (leg_counts r.jobs)

-- the limits of a run
pub record IsSmall (r : RunState) : Type 0 where
  pub texts : texts_size r.admitted ≤ max_text_bytes + max_text_bytes + max_body
  pub jobs : length r.jobs ≤ max_jobs
  pub legs : AllByRecursion (λ n. n ≤ 256) (leg_counts r.jobs)

-- the most bytes of a run within these limits
abbrev pub max_run_size : ℕ
max_run_size = 394642

-- the sum over all runs, each of which is within its limits
pub record IsSizeOf (runs : List RunState) (size : ℕ) : Type 0 where
  pub is : size ≡ sum_by run_size runs
  pub small : AllByRecursion IsSmall runs
