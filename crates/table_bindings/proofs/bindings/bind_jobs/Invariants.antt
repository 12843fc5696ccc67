use Rattle.std.proofs.Common.{◌≡◌, ℕ}
use Rattle.std.specs.Prelude.{Some, length, slice_get}
use Rattle.label_lists.specs.Lists.{OnlyGrows}
use Rattle.run_plan.specs.PlanOf.{plan_of}
use Rattle.run_plan.specs.declared.planned.PlannedJob.{PlannedJob}
use Rattle.table_bindings.specs.Bindings.{JobSays}
use Rattle.table_bindings.specs.inner.BoundJobs.{AreBeside}
use Rattle.table_bindings.specs.declared.bindings.JobBindings.{JobBindings}
use Rattle.table_bindings.proofs.bindings.bind_jobs.Given as goal

-- each binding so far gives what the legs of its job ask, and its keys and its numbers stand beside it
abbrev pub invariant-loop-j : goal.invariant-loop-j
invariant-loop-j l =
    (length l.bound.jobs.items ≡ l.j)
    × ((k : ℕ) (bindings : JobBindings) → slice_get l.bound.jobs.items k ≡ Some bindings → (job : PlannedJob)
    → slice_get (plan_of l.identity.event.body) k ≡ Some job → JobSays l.identity k job bindings)
    × AreBeside l.lists l.r l.bound.jobs.items l.bound.keys.items l.bound.lists.items
    × OnlyGrows l.fn.lists l.lists
