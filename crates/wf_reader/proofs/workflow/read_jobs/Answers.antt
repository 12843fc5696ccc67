use Rattle.std.proofs.Common.{inr, ◌<◌, ◌≤◌, length, subst, codes, arith}
use Rattle.std.proofs.lemmas.Grind.{common_steps}
use Rattle.serde_json.specs.Find.{get}
use Rattle.serde_json.specs.View.{view}
use Rattle.wf_value.specs.Gives.{Gives}
use Rattle.wf_reader.proofs.Members.{too_many, jobs_here}
use Rattle.wf_reader.proofs.workflow.read_jobs.Goals as goal

pub returns-then-len-gt-MAX_JOBS : goal.returns-then-len-gt-MAX_JOBS
returns-then-len-gt-MAX_JOBS c =
    let many : 256 < length c.in-Some.members.entries = omega (arith, c.len.ensures.len) in
    inr (too_many (get (codes "jobs") (view c.args.workflow)) c.in-Some.members.entries _ c.in-Some.ensures many)

pub returns : goal.returns
returns c =
    let filled : 0 < length c.in-Some.members.entries = grind (arith, common_steps) in
    let few : length c.in-Some.members.entries ≤ 256 = omega (arith, c.len.ensures.len) in
    subst (Gives (λ j. j) c.read_each.result)
    (jobs_here (get (codes "jobs") (view c.args.workflow)) c.in-Some.members.entries c.in-Some.ensures filled few)
    c.read_each.ensures
