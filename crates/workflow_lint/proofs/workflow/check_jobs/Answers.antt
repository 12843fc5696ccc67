use Rattle.std.proofs.Common.{◌≡◌, ◌++◌, List, ℕ, codes, subst}
use Rattle.std.specs.Result.{OnOk}
use Rattle.serde_json.specs.Data.{Data}
use Rattle.serde_json.specs.Find.{get}
use Rattle.serde_json.specs.View.{view}
use Rattle.workflow_lint.specs.InWorkflow.{jobs_at}
use Rattle.workflow_lint.proofs.Here.{jobs_here}
use Rattle.workflow_lint.proofs.workflow.check_jobs.Goals as goal

pub returns-in-Some : goal.returns-in-Some
returns-in-Some c =
    subst (λ (jobs : List (List ℕ × Data)). OnOk c.check_members.result
    (c.check_members.new.found.items ≡ c.args.found.now.items ++ jobs_at jobs))
    (jobs_here (get (codes "jobs") (view c.args.workflow.now)) _ c.in-Some.ensures)
    c.check_members.ensures
