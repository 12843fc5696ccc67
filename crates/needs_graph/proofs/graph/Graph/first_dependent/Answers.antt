use Rattle.std.proofs.Common.{ℕ, List, slice_get, length, sym, subst, ap, arith}
use Rattle.needs_graph.specs.Needs.{IsGraph}
use Rattle.needs_graph.proofs.Dependents.{no_dependents}
use Rattle.needs_graph.proofs.graph.Graph.first_dependent.Goals as goal

pub returns-in-None : goal.returns-in-None
returns-in-None c =
    let needs = c.args.self.now in
    let sets = c.self.inside.ancestors in
    let lists = c.self.inside.dependents in
    let P : List (List ℕ) → Type 0 = λ l. IsGraph l sets lists in
    let graph = subst P c.self.view_is c.self.invariant in
    let past = c.in-None.ensures.lookup in
    let count = ap length c.as_slice.ensures in
    sym (ap (λ l. slice_get l 0)
    (no_dependents needs graph.within c.args.job (omega (arith, past.3, count, graph.as_many))))
