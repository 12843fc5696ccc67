use Rattle.std.proofs.Common.{◌∙◌, ◌<◌, not, ap, sym, map, length, arith}
use Rattle.needs_graph.specs.Needs.{has_succeeded, ancestor_results}
use Rattle.needs_graph.proofs.AncestorResults.{list_all-not, holds_of_none, holds_of_one}
use Rattle.needs_graph.proofs.graph.Graph.all_ancestors_succeeded.Goals as goal

pub returns-then-ancestor_lacks_success : goal.returns-then-ancestor_lacks_success
returns-then-ancestor_lacks_success g c =
    let needs = c.args.self.now in
    let results = map g.J.HasResult.job_result c.args.jobs.now in
    let below : c.loop-other.other < length needs = omega arith in
    sym (list_all-not has_succeeded (ancestor_results needs results c.args.job)
    ∙ ap not (holds_of_one needs results c.args.job (λ r. not (has_succeeded r)) c.loop-other.other below
    (sym c.ancestor_lacks_success.ensures ∙ c.if-ancestor_lacks_success.true)))

pub returns : goal.returns
returns g c =
    let needs = c.args.self.now in
    let results = map g.J.HasResult.job_result c.args.jobs.now in
    sym (list_all-not has_succeeded (ancestor_results needs results c.args.job)
    ∙ ap not (holds_of_none needs results c.args.job (λ r. not (has_succeeded r))
    (λ other below. c.loop-other.invariant other (omega arith))))
