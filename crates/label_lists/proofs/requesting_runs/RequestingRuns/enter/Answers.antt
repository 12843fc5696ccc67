use Rattle.std.proofs.Common.{◌≡◌, ◌↔◌, ◌<◌, ◌≤◌, arith, true, false, length, is_some, Ok, Err, sym, subst, ap, ◌∙◌}
use Rattle.std.specs.List.Sorted.{IsBinarySearchResult}
use Rattle.std.specs.Ordering.{nat_cmp}
use Rattle.label_lists.specs.Requesting.{RequestingState, index_of}
use Rattle.label_lists.specs.inner.Requesting.{Begins, IsOrdered, IsPassed}
use Rattle.label_lists.proofs.Offers.{ordered_pushed}
use Rattle.label_lists.proofs.Passed.{requests_itself, comes_before, comes_last, has_place}
use Rattle.label_lists.proofs.Places.{requests_already, requests_pushed, begins_after, found}
use Rattle.label_lists.proofs.requesting_runs.RequestingRuns.enter.Goals as goal

pub invariant_of-self-then-index-len : goal.invariant_of-self-then-index-len
invariant_of-self-then-index-len c =
    let runs = c.self.inside.runs.items in
    let run = c.args.run in
    let index = c.in-Err.index in
    let is = subst (λ xs. IsBinarySearchResult (λ y. nat_cmp y run) xs (Err index)) c.deref.ensures.value c.in-Err.ensures.position in
    let end : index ≡ length runs = c.if-index-len.true ∙ c.len.ensures ∙ sym c.deref.ensures.len ∙ ap length c.deref.ensures.value in
    let begins = subst (Begins runs run) end (begins_after runs c.self.invariant.rises run index is) in
    subst (λ xs. IsOrdered xs c.reserve_up_to.new.self) (sym c.in_ok-push-in-Err.ensures.items)
    (ordered_pushed runs c.self.inside.marks c.reserve_up_to.new.self run c.self.invariant c.in_ok-reserve_up_to-in-Err.ensures.marks begins index end
    c.in_ok-reserve_up_to-in-Err.ensures.covers)

pub returns-in-Ok-clause-entered : goal.returns-in-Ok-clause-entered
returns-in-Ok-clause-entered c = λ r.
    let runs = c.self.inside.runs.items in
    let is = subst (λ xs. IsBinarySearchResult (λ y. nat_cmp y c.args.run) xs (Ok c.in-Ok.field-0)) c.deref.ensures.value c.in-Ok.ensures.position in
    let there = found runs c.self.invariant.rises c.args.run c.in-Ok.field-0 is in
    rw (← c.self.view_is) (requests_already runs c.args.run c.in-Ok.field-0 r there)

pub returns-in_ok-push-in-Err-clause-entered : goal.returns-in_ok-push-in-Err-clause-entered
returns-in_ok-push-in-Err-clause-entered c = λ r.
    let runs = c.self.inside.runs.items in
    rw (← c.self.view_is)
    (ap (λ xs. is_some (index_of xs r)) c.in_ok-push-in-Err.ensures.items ∙ requests_pushed runs c.args.run r)

pub returns-in-Ok-clause-refused : goal.returns-in-Ok-clause-refused
returns-in-Ok-clause-refused c =
    let runs = c.self.inside.runs.items in
    let is = subst (λ xs. IsBinarySearchResult (λ y. nat_cmp y c.args.run) xs (Ok c.in-Ok.field-0)) c.deref.ensures.value c.in-Ok.ensures.position in
    let there = found runs c.self.invariant.rises c.args.run c.in-Ok.field-0 is in
    subst (λ (a : RequestingState). (true ≡ false) ↔ IsPassed (has_place a.runs) c.args.run) c.self.view_is (requests_itself runs c.args.run c.in-Ok.field-0 there)

pub returns-in_ok-push-in-Err-clause-refused : goal.returns-in_ok-push-in-Err-clause-refused
returns-in_ok-push-in-Err-clause-refused c =
    let runs = c.self.inside.runs.items in
    let run = c.args.run in
    let index = c.in-Err.index in
    let is = subst (λ xs. IsBinarySearchResult (λ y. nat_cmp y run) xs (Err index)) c.deref.ensures.value c.in-Err.ensures.position in
    let end : index ≡ length runs = c.if-index-len.true ∙ c.len.ensures ∙ sym c.deref.ensures.len ∙ ap length c.deref.ensures.value in
    let begins = subst (Begins runs run) end (begins_after runs c.self.invariant.rises run index is) in
    subst (λ (a : RequestingState). (true ≡ false) ↔ IsPassed (has_place a.runs) run) c.self.view_is (comes_last runs run begins)

pub returns-in-Err-2-clause-refused : goal.returns-in-Err-2-clause-refused
returns-in-Err-2-clause-refused c =
    let runs = c.self.inside.runs.items in
    let run = c.args.run in
    let index = c.in-Err-2.field-0 in
    let is = subst (λ xs. IsBinarySearchResult (λ y. nat_cmp y run) xs (Err index)) c.deref.ensures.value c.in-Err-2.ensures.position in
    let same : c.in-Err.index ≡ index = cc in
    let bound : index ≤ length runs = subst (λ xs. index ≤ length xs) c.deref.ensures.value c.in-Err-2.ensures.bound in
    let end : c.len.result ≡ length runs = c.len.ensures ∙ sym c.deref.ensures.len ∙ ap length c.deref.ensures.value in
    let within : index < length runs = omega (arith, same, bound, end, c.if-index-len.false) in
    subst (λ (a : RequestingState). (false ≡ false) ↔ IsPassed (has_place a.runs) run) c.self.view_is (comes_before runs run index c.self.invariant.rises is within)
