use Rattle.std.proofs.Common.{◌≡◌, true, length, set, refl, sym, subst}
use Rattle.std.proofs.lemmas.Option.{slice_get_read}
use Rattle.label_lists.specs.Requesting.{requests_in}
use Rattle.label_lists.specs.inner.Known.{KnownState, PutsAt, SameRequested}
use Rattle.label_lists.specs.Known.{requests_at}
use Rattle.label_lists.proofs.Writes.{requested_written, offers_written, within_if}
use Rattle.label_lists.proofs.known_lists.KnownLists.mark.Goals as goal

pub returns-clause-puts : goal.returns-clause-puts
returns-clause-puts c =
    let requesting = c.self.inside.requesting.items in
    let k = c.args.number in
    let within = within_if (λ a. requests_in a c.args.run) requesting k (subst (λ (s : KnownState). requests_at s.requesting k c.args.run ≡ true) (sym c.self.view_is) c.requires) in
    let there = slice_get_read requesting (length requesting) k c.index_mut.result.now refl within c.index_mut.ensures.value in
    subst (λ (s : KnownState). PutsAt true k c.args.run s.requesting (set requesting k c.mark.new.self)) c.self.view_is
    (offers_written requesting k c.index_mut.result.now c.mark.new.self within there true c.args.run c.mark.ensures.puts)

pub returns-clause-requests : goal.returns-clause-requests
returns-clause-requests c =
    let requesting = c.self.inside.requesting.items in
    let k = c.args.number in
    let within = within_if (λ a. requests_in a c.args.run) requesting k (subst (λ (s : KnownState). requests_at s.requesting k c.args.run ≡ true) (sym c.self.view_is) c.requires) in
    let there = slice_get_read requesting (length requesting) k c.index_mut.result.now refl within c.index_mut.ensures.value in
    subst (λ (s : KnownState). SameRequested s.requesting (set requesting k c.mark.new.self)) c.self.view_is
    (requested_written requesting k c.index_mut.result.now c.mark.new.self within there c.mark.ensures.requests)
