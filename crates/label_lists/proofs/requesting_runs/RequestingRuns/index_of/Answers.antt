use Rattle.std.proofs.Common.{◌≡◌, None, Some, Ok, Err, sym, subst}
use Rattle.std.specs.List.Sorted.{IsBinarySearchResult}
use Rattle.std.specs.Ordering.{nat_cmp}
use Rattle.label_lists.specs.Requesting.{RequestingState, index_of}
use Rattle.label_lists.proofs.Places.{found, missing}
use Rattle.label_lists.proofs.requesting_runs.RequestingRuns.index_of.Goals as goal

pub returns-in-Ok : goal.returns-in-Ok
returns-in-Ok c =
    let runs = c.self.inside.runs.items in
    let is = subst (λ xs. IsBinarySearchResult (λ y. nat_cmp y c.args.run) xs (Ok c.in-Ok.index)) c.deref.ensures.value c.in-Ok.ensures.position in
    sym (subst (λ (a : RequestingState). index_of a.runs c.args.run ≡ Some c.in-Ok.index) c.self.view_is (found runs c.self.invariant.rises c.args.run c.in-Ok.index is))

pub returns-in-Err : goal.returns-in-Err
returns-in-Err c =
    let runs = c.self.inside.runs.items in
    let is = subst (λ xs. IsBinarySearchResult (λ y. nat_cmp y c.args.run) xs (Err c.in-Err.field-0)) c.deref.ensures.value c.in-Err.ensures.position in
    sym (subst (λ (a : RequestingState). index_of a.runs c.args.run ≡ None) c.self.view_is (missing runs c.self.invariant.rises c.args.run c.in-Err.field-0 is))
