use Rattle.std.proofs.Common.{rules, ◌∙◌, ℕ, List, Bool, None, get_or, map, not, sym, subst, ap}
use Rattle.std.specs.List.{list_any}
use Rattle.needs_graph.specs.Needs.{IsGraph, has_succeeded, ancestor_results}
use Rattle.needs_graph.proofs.AncestorResults.{list_all-not, holds_of_need}
use Rattle.needs_graph.proofs.graph.Graph.need_lacks_success.Goals as goal

pub returns-in-Some : goal.returns-in-Some
returns-in-Some g c =
    let needs = c.args.self.now in
    let results = map g.J.HasResult.job_result c.args.jobs.now in
    let P : List (List ℕ) → Type 0 = λ l. IsGraph l c.self.inside.ancestors c.self.inside.dependents in
    let graph = subst P c.self.view_is c.self.invariant in
    let lacks : List ℕ → Bool = list_any (λ need. not (has_succeeded (get_or results need None))) in
    λ found. list_all-not has_succeeded (ancestor_results needs results c.args.job)
    ∙ ap not (holds_of_need needs results c.args.job (λ r. not (has_succeeded r)) graph.within
    (ap lacks (search rules) ∙ (sym c.any_lacks_success.ensures ∙ found)))
