use Rattle.std.proofs.Common.{◌≡◌, ◌<◌, Some, length, sym, subst}
use Rattle.std.specs.List.{IsDistinct}
use Rattle.indexmap.proofs.CallerLemmas.{keys-with_value_at}
use Rattle.group_name.specs.Group.{same_group}
use Rattle.group_book.specs.Books.{BookState, group_at}
use Rattle.group_book.proofs.Slots.{held_at, written_at}
use Rattle.group_book.proofs.book.Book.write_at.Goals as goal

pub invariant_of-self : goal.invariant_of-self
invariant_of-self g c =
    let m = c.self.inside.slots in
    let within = subst (λ (b : BookState _). c.args.number < length b.entries) (sym c.self.view_is) c.requires.within in (
      subst (IsDistinct same_group) (sym (keys-with_value_at m c.args.number c.args.slot)) c.self.invariant.0,
      held_at m c.self.invariant.0 c.self.invariant.1 c.args.number c.args.slot within c.requires.held,
      c.self.invariant.2,
    )

pub returns-clause-slots : goal.returns-clause-slots
returns-clause-slots g c = λ group at.
    let m = c.self.inside.slots in
    let there = subst (λ (b : BookState _). group_at b.entries c.args.number ≡ Some group) (sym c.self.view_is) at in
    rw (← c.self.view_is) (written_at m c.self.invariant.0 c.args.number c.args.slot group there)
