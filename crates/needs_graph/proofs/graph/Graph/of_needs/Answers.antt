use Rattle.std.proofs.Common.{◌≡◌, ◌∙◌, Bool, List, [], length, subst, ap, sym, Ok, Err, inr, arith}
use Rattle.std.proofs.lemmas.List.{nil_from_length}
use Rattle.std.proofs.lemmas.Bool.Decides.{nat_tests}
use Rattle.wf_value.specs.declared.refusal.Refusal.TheVariants.{Cycle}
use Rattle.needs_graph.specs.inner.Rows.{IsSets}
use Rattle.needs_graph.proofs.GraphFacts.{length-reached, ids_are, indexes_are, dependents_are, graph_cyclic, graph_made}
use Rattle.needs_graph.proofs.GraphFacts.{graph_is_graph}
use Rattle.needs_graph.proofs.graph.Graph.of_needs.Goals as goal

pub own_ids-requires : goal.own_ids-requires
own_ids-requires c =
    length-reached c.args.jobs.now c.in_ok-direct.direct.items c.as_slice-3.result.now c.in_ok-reached.reached.items c.in_ok-direct.ensures
    c.in_ok-reached.ensures c.as_slice-3.ensures.value

pub returns-then-not-is_empty : goal.returns-then-not-is_empty
returns-then-not-is_empty c =
    let jobs = c.args.jobs.now in
    let direct = c.in_ok-direct.direct.items in
    let ids = c.in_ok-ids.ids.items in
    let own = ids_are jobs direct c.as_slice-3.result.now c.in_ok-reached.reached.items ids c.in_ok-reached.ensures
    c.as_slice-3.ensures.value c.in_ok-ids.ensures in
    inr
    (graph_cyclic jobs direct ids c.in_ok-direct.ensures own
    (λ none. let count : length ids ≡ 0 = ap length none in grind (arith, nat_tests, c.if-not-is_empty.ensures))
    ∙ ap (λ l. Err (Cycle l)) (sym c.new.ensures))

pub invariant_of-result : goal.invariant_of-result
invariant_of-result c =
    let jobs = c.args.jobs.now in
    let direct = c.in_ok-direct.direct.items in
    let sets = c.in_ok-all_sets.field-0 in
    let own = ids_are jobs direct c.as_slice-3.result.now c.in_ok-reached.reached.items c.in_ok-ids.ids.items c.in_ok-reached.ensures
    c.as_slice-3.ensures.value c.in_ok-ids.ensures in
    let none : c.in_ok-ids.ids.items ≡ [] = nil_from_length _ (grind (arith, nat_tests, c.if-not-is_empty.ensures)) in
    let needs_are = indexes_are c.as_slice.result.now direct c.in_ok-needs.needs c.as_slice.ensures.value c.in_ok-needs.ensures
    ∙ sym c.needs.view_is in
    let P : List (List Bool) → Type 0 = λ rows. IsSets sets rows in
    let sets_are = subst P (c.as_slice-4.ensures.value ∙ c.in_ok-reached.ensures) c.in_ok-all_sets.ensures in
    let listed = dependents_are c.as_slice-2.result.now direct c.in_ok-dependents.dependents c.as_slice-2.ensures.value
    c.in_ok-dependents.ensures in
    rw (← needs_are) (graph_is_graph jobs direct sets _ c.in_ok-direct.ensures (own ∙ none) sets_are listed)

pub returns : goal.returns
returns c =
    let jobs = c.args.jobs.now in
    let direct = c.in_ok-direct.direct.items in
    let own = ids_are jobs direct c.as_slice-3.result.now c.in_ok-reached.reached.items c.in_ok-ids.ids.items c.in_ok-reached.ensures
    c.as_slice-3.ensures.value c.in_ok-ids.ensures in
    let none : c.in_ok-ids.ids.items ≡ [] = nil_from_length _ (grind (arith, nat_tests, c.if-not-is_empty.ensures)) in
    graph_made jobs direct c.in_ok-direct.ensures (own ∙ none)
    ∙ ap Ok (indexes_are c.as_slice.result.now direct c.in_ok-needs.needs c.as_slice.ensures.value c.in_ok-needs.ensures
    ∙ sym c.needs.view_is)
