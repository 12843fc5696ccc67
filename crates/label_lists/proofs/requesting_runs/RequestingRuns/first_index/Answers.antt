use Rattle.std.proofs.Common.{Ok, Err, subst}
use Rattle.std.specs.List.Sorted.{IsBinarySearchResult}
use Rattle.std.specs.Ordering.{nat_cmp}
use Rattle.label_lists.specs.Requesting.{RequestingState}
use Rattle.label_lists.specs.inner.Requesting.{Begins}
use Rattle.label_lists.proofs.Places.{begins_at, begins_after}
use Rattle.label_lists.proofs.requesting_runs.RequestingRuns.first_index.Goals as goal

pub returns-in-Ok : goal.returns-in-Ok
returns-in-Ok c =
    let runs = c.self.inside.runs.items in
    let is = subst (λ xs. IsBinarySearchResult (λ y. nat_cmp y c.args.run) xs (Ok c.in-Ok.index)) c.deref.ensures.value c.in-Ok.ensures.position in
    subst (λ (a : RequestingState). Begins a.runs c.args.run c.in-Ok.index) c.self.view_is (begins_at runs c.self.invariant.rises c.args.run c.in-Ok.index is)

pub returns-in-Err : goal.returns-in-Err
returns-in-Err c =
    let runs = c.self.inside.runs.items in
    let is = subst (λ xs. IsBinarySearchResult (λ y. nat_cmp y c.args.run) xs (Err c.in-Err.index)) c.deref.ensures.value c.in-Err.ensures.position in
    subst (λ (a : RequestingState). Begins a.runs c.args.run c.in-Err.index) c.self.view_is (begins_after runs c.self.invariant.rises c.args.run c.in-Err.index is)
