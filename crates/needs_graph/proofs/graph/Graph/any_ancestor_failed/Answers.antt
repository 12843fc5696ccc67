use Rattle.std.proofs.Common.{◌∙◌, ◌<◌, sym, map, length, arith}
use Rattle.needs_graph.specs.Needs.{has_failed}
use Rattle.needs_graph.proofs.AncestorResults.{holds_of_none, holds_of_one}
use Rattle.needs_graph.proofs.graph.Graph.any_ancestor_failed.Goals as goal

pub returns-then-ancestor_failed : goal.returns-then-ancestor_failed
returns-then-ancestor_failed g c =
    let below : c.loop-other.other < length c.args.self.now = omega arith in
    sym (holds_of_one c.args.self.now (map g.J.HasResult.job_result c.args.jobs.now) c.args.job has_failed c.loop-other.other below
    (sym c.ancestor_failed.ensures ∙ c.if-ancestor_failed.true))

pub returns : goal.returns
returns g c =
    sym (holds_of_none c.args.self.now (map g.J.HasResult.job_result c.args.jobs.now) c.args.job has_failed
    (λ other below. c.loop-other.invariant other (omega arith)))
