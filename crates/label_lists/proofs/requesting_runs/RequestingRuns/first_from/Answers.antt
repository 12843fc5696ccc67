use Rattle.std.proofs.Common.{None, Some, sym, subst}
use Rattle.run_marks.specs.First.{IsFirstFrom}
use Rattle.label_lists.specs.Requesting.{RequestingState, may_offer_in}
use Rattle.label_lists.specs.inner.Requesting.{Begins}
use Rattle.label_lists.proofs.Offers.{first_found, none_found}
use Rattle.label_lists.proofs.requesting_runs.RequestingRuns.first_from.Goals as goal

pub returns-in_err-index : goal.returns-in_err-index
returns-in_err-index c =
    let runs = c.self.inside.runs.items in
    let run = c.args.run in
    let begins = subst (λ (a : RequestingState). Begins a.runs run c.first_index-from.result) (sym c.self.view_is) c.first_index-from.ensures in
    rw (c.from_residual.ensures)
    (subst (λ (a : RequestingState). IsFirstFrom (may_offer_in a) run None) c.self.view_is (none_found runs c.self.inside.marks run _ begins c.in_err-index.ensures))

pub returns : goal.returns
returns c =
    let runs = c.self.inside.runs.items in
    let run = c.args.run in
    let begins = subst (λ (a : RequestingState). Begins a.runs run c.first_index-from.result) (sym c.self.view_is) c.first_index-from.ensures in
    subst (λ (a : RequestingState). IsFirstFrom (may_offer_in a) run (Some c.index.result.now)) c.self.view_is
    (first_found runs c.self.inside.marks run _ begins c.in_ok-index.index _ c.self.invariant c.in_ok-index.ensures c.index.ensures)
