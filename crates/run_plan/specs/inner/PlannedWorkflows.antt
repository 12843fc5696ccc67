-- What is stored of an event beside its bytes: what it has alone, and its workflow, which other events may share.
use Rattle.std.specs.Prelude.{◌≡◌}
use Rattle.wf_reader.specs.declared.event.Event.{Event}
use Rattle.run_plan.specs.PlanOf.{workflow_plan}
use Rattle.run_plan.specs.declared.planned_workflow.Origin.{Origin}
use Rattle.run_plan.specs.declared.planned_workflow.PlannedWorkflow.{PlannedWorkflow}

-- repository, path, contexts, and the workflow's name and concurrency are those of the event
abbrev pub IsOrigin : Origin → Event → Type 0
IsOrigin origin event =
    (origin.repo ≡ event.repo) × (origin.path ≡ event.path) × (origin.contexts ≡ event.contexts)
    × (origin.name ≡ event.workflow.name) × (origin.concurrency ≡ event.workflow.concurrency)

-- repository and path are those of the event, and all else is of its workflow
abbrev pub IsPlanned : PlannedWorkflow → Event → Type 0
IsPlanned planned event =
    (planned.repo ≡ event.repo) × (planned.path ≡ event.path) × (planned.name ≡ event.workflow.name)
    × (planned.concurrency ≡ event.workflow.concurrency) × (planned.plan ≡ workflow_plan event.workflow)
