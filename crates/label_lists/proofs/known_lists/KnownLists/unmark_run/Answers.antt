use Rattle.std.proofs.Common.{◌<◌, ◌&&◌, false, length, nat_eq, set, refl, sym, subst, ◌∙◌}
use Rattle.std.proofs.lemmas.List.{length-set}
use Rattle.std.proofs.lemmas.Option.{slice_get_read}
use Rattle.label_lists.specs.inner.Known.{KnownState, PutsAt, SameRequested}
use Rattle.label_lists.proofs.Marked.{still_marked, was_before}
use Rattle.label_lists.proofs.Writes.{requested_written, offers_written}
use Rattle.label_lists.proofs.known_lists.KnownLists.unmark_run.Goals as goal

pub invariant_of-self : goal.invariant_of-self
invariant_of-self c =
    let requesting = c.self.inside.requesting.items in
    let k = c.args.number in
    let within = subst (λ (s : KnownState). k < length s.requesting) (sym c.self.view_is) c.requires in
    let there = slice_get_read requesting (length requesting) k c.index_mut.result.now refl within c.index_mut.ensures.value in
    let many = length-set requesting k c.unmark.new.self in
    let puts = offers_written requesting k c.index_mut.result.now c.unmark.new.self within there false c.args.run c.unmark.ensures.puts in (
      c.self.invariant.0,
      many ∙ c.self.invariant.1,
      still_marked requesting (set requesting k c.unmark.new.self) c.self.inside.offering many c.self.invariant.2
          (λ n r. was_before (nat_eq n k && nat_eq r c.args.run) _ _ (puts n r)),
    )

pub returns-clause-puts : goal.returns-clause-puts
returns-clause-puts c =
    let requesting = c.self.inside.requesting.items in
    let k = c.args.number in
    let within = subst (λ (s : KnownState). k < length s.requesting) (sym c.self.view_is) c.requires in
    let there = slice_get_read requesting (length requesting) k c.index_mut.result.now refl within c.index_mut.ensures.value in
    subst (λ (s : KnownState). PutsAt false k c.args.run s.requesting (set requesting k c.unmark.new.self)) c.self.view_is
    (offers_written requesting k c.index_mut.result.now c.unmark.new.self within there false c.args.run c.unmark.ensures.puts)

pub returns-clause-requests : goal.returns-clause-requests
returns-clause-requests c =
    let requesting = c.self.inside.requesting.items in
    let k = c.args.number in
    let within = subst (λ (s : KnownState). k < length s.requesting) (sym c.self.view_is) c.requires in
    let there = slice_get_read requesting (length requesting) k c.index_mut.result.now refl within c.index_mut.ensures.value in
    subst (λ (s : KnownState). SameRequested s.requesting (set requesting k c.unmark.new.self)) c.self.view_is
    (requested_written requesting k c.index_mut.result.now c.unmark.new.self within there c.unmark.ensures.requests)
