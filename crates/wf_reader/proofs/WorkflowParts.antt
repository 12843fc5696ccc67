-- A workflow from its parts.
use Rattle.std.proofs.Common.{◌≡◌, ℕ, List, Option, ap, ◌∙◌}
use Rattle.wf_reader.specs.declared.concurrency.Concurrency.{Concurrency}
use Rattle.wf_reader.specs.declared.job.Job.{Job}
use Rattle.wf_reader.specs.declared.workflow.Workflow.{Workflow}

abbrev workflow_with : List ℕ → Option Concurrency → List Job → Workflow
workflow_with name group jobs = record { name = name; concurrency = group; jobs = jobs }

pub workflow_made : (said name : List ℕ) (held group : Option Concurrency) (listed jobs : List Job)
    → said ≡ name → held ≡ group → listed ≡ jobs → workflow_with said held listed ≡ workflow_with name group jobs
workflow_made said name held group listed jobs n g j =
    ap (λ x. workflow_with x held listed) n ∙ ap (λ x. workflow_with name x listed) g ∙ ap (workflow_with name group) j
