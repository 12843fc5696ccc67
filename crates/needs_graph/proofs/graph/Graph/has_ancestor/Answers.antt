use Rattle.std.proofs.Common.{◌≡◌, ◌∙◌, ℕ, List, [], get_or, sym, subst, ap}
use Rattle.needs_graph.specs.Needs.{is_ancestor, IsGraph}
use Rattle.needs_graph.specs.inner.JobSets.{is_in}
use Rattle.needs_graph.proofs.HasAncestor.{ends_a_walk, is_a_job, is_another}
use Rattle.needs_graph.proofs.graph.Graph.has_ancestor.Goals as goal

pub returns : goal.returns
returns c =
    let needs = c.args.self.now in
    let sets = c.self.inside.ancestors in
    let lists = c.self.inside.dependents in
    let P : List (List ℕ) → Type 0 = λ l. IsGraph l sets lists in
    let graph = subst P c.self.view_is c.self.invariant in
    let value : c.set_has.result ≡ is_ancestor needs c.args.job c.args.other =
    c.set_has.ensures
    ∙ (ap (λ l. is_in (get_or l c.args.job []) c.args.other) c.as_slice.ensures ∙ graph.reached c.args.job c.args.other) in
    record {
      value = value;
      walks = let e = ends_a_walk needs sets lists graph c.args.job c.args.other in (λ h. e.0 (sym value ∙ h), λ w. value ∙ e.1 w);
      within = λ h. is_a_job needs sets lists graph c.args.job c.args.other (sym value ∙ h);
      acyclic = λ h. is_another needs sets lists graph c.args.job c.args.other (sym value ∙ h);
    }
