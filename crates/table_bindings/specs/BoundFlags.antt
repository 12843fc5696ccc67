-- Whether a failure of each leg of a job is ignored, bound when an attempt of its run begins.
use Rattle.std.specs.Prelude.{◌≡◌, ℕ, List, length, Some, slice_get}
use Rattle.wf_expr.specs.Bound.{Results}
use Rattle.wf_reader.specs.declared.flag.Flag.{Flag}
use Rattle.wf_reader.specs.declared.flag.Flag.TheVariants as flag
use Rattle.run_plan.specs.declared.planned.PlannedJob.{PlannedJob}
use Rattle.table_model.specs.Groups.{RunFacts}
use Rattle.table_model.specs.LegContext.{context_of, is_set}
use Rattle.table_bindings.specs.BoundGroups.{facts_by, is_set_by}
use Rattle.table_bindings.specs.declared.groups.BoundFlag.{BoundFlag}

-- whatever the results, the bound flag of a leg has the value of the job's flag in the leg's context
abbrev pub SaysFlag : RunFacts → ℕ → PlannedJob → ℕ → BoundFlag → Type 0
SaysFlag run j job l kept = (results : Results) → is_set_by results kept ≡ is_set (context_of (facts_by run j job l results)) job.continue_on_error

abbrev pub EachSays : RunFacts → ℕ → PlannedJob → List BoundFlag → Type 0
EachSays run j job flags = (l : ℕ) (kept : BoundFlag) → slice_get flags l ≡ Some kept → SaysFlag run j job l kept

-- how many are bound for a job with this flag and as many legs: none where it is fixed
abbrev pub flags_bound : Flag → ℕ → ℕ
flags_bound (flag.Fixed set) legs = 0
flags_bound (flag.Template template) legs = legs

pub record FlagsSay (run : RunFacts) (j : ℕ) (job : PlannedJob) (flags : List BoundFlag) : Type 0 where
  pub many : length flags ≡ flags_bound job.continue_on_error (length job.legs)
  pub each : EachSays run j job flags
