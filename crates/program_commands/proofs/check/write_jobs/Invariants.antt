use Rattle.std.proofs.Common.{◌≡◌, ◌++◌, [], ℕ, List, drop, map}
use Rattle.std.specs.Io.KnownBytes.{Appends}
use Rattle.run_plan.specs.PlanOf.{legs_faults, planned_job}
use Rattle.program_commands.specs.Check.{plan_lines}
use Rattle.program_commands.proofs.check.write_jobs.Given as goal

-- the lines so far come before those of the remaining jobs, which have no faults
abbrev pub invariant-loop-job : goal.invariant-loop-job
invariant-loop-job g l =
    (out : List ℕ) × Appends (g.W.Write.contents l.initial.writer) (g.W.Write.contents l.writer) out
    × (out ++ plan_lines (map planned_job (drop l.job-index l.jobs)) ≡ plan_lines (map planned_job l.jobs))
    × (legs_faults (drop l.job-index l.jobs) ≡ [])
