use Rattle.std.proofs.Common.{◌≡◌, ◌↔◌, ◌<◌, false, IfOk, length, set, refl, sym, subst, ◌∙◌}
use Rattle.std.proofs.lemmas.List.{length-set}
use Rattle.std.proofs.lemmas.Option.{slice_get_read}
use Rattle.label_lists.specs.inner.Requesting.{IsPassed}
use Rattle.label_lists.specs.inner.Known.{KnownState, OnlyEnters}
use Rattle.label_lists.specs.Known.{requests_at}
use Rattle.label_lists.proofs.Marked.{still_marked}
use Rattle.label_lists.proofs.Passed.{passed_there}
use Rattle.label_lists.proofs.Writes.{requested_still, entered_now, entered_still, offers_kept}
use Rattle.label_lists.proofs.known_lists.KnownLists.enter_run.Goals as goal

pub invariant_of-self : goal.invariant_of-self
invariant_of-self c =
    let requesting = c.self.inside.requesting.items in
    let k = c.args.number in
    let within = subst (λ (s : KnownState). k < length s.requesting) (sym c.self.view_is) c.requires in
    let there = slice_get_read requesting (length requesting) k c.index_mut.result.now refl within c.index_mut.ensures.value in
    let many = length-set requesting k c.enter.new.self in
    let kept = offers_kept requesting k c.index_mut.result.now c.enter.new.self within there c.enter.ensures.offers in (
      c.self.invariant.0,
      many ∙ c.self.invariant.1,
      still_marked requesting (set requesting k c.enter.new.self) c.self.inside.offering many c.self.invariant.2 (λ n r is. sym (kept n r) ∙ is),
    )

pub returns-clause-enters : goal.returns-clause-enters
returns-clause-enters c =
    let requesting = c.self.inside.requesting.items in
    let k = c.args.number in
    let new = c.enter.new.self in
    let old = c.index_mut.result.now in
    let within = subst (λ (s : KnownState). k < length s.requesting) (sym c.self.view_is) c.requires in
    let there = slice_get_read requesting (length requesting) k old refl within c.index_mut.ensures.value in
    subst (λ (s : KnownState). OnlyEnters s (record { lists = c.self.inside.lists.keys; requesting = set requesting k new })) c.self.view_is
    record {
      lists = (λ n labels at. at);
      requests = requested_still requesting k old new within there (entered_still requesting k old new within there c.args.run c.enter.result c.enter.ensures.entered c.enter.ensures.unchanged);
      offers = offers_kept requesting k old new within there c.enter.ensures.offers;
    }

pub returns-clause-requests : goal.returns-clause-requests
returns-clause-requests c =
    let requesting = c.self.inside.requesting.items in
    let k = c.args.number in
    let new = c.enter.new.self in
    let old = c.index_mut.result.now in
    let within = subst (λ (s : KnownState). k < length s.requesting) (sym c.self.view_is) c.requires in
    let there = slice_get_read requesting (length requesting) k old refl within c.index_mut.ensures.value in
    entered_now requesting k old new within there c.args.run c.enter.result c.enter.ensures.entered

pub returns-clause-refused : goal.returns-clause-refused
returns-clause-refused c =
    let requesting = c.self.inside.requesting.items in
    let k = c.args.number in
    let within = subst (λ (s : KnownState). k < length s.requesting) (sym c.self.view_is) c.requires in
    let there = slice_get_read requesting (length requesting) k c.index_mut.result.now refl within c.index_mut.ensures.value in
    subst (λ (s : KnownState). IfOk c.enter.result (λ has. (has ≡ false) ↔ IsPassed (requests_at s.requesting k) c.args.run)) c.self.view_is
    (passed_there requesting k c.index_mut.result.now c.args.run c.enter.result there c.enter.ensures.refused)
