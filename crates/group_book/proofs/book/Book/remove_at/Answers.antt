use Rattle.std.proofs.Common.{◌≡◌, ◌<◌, Some, length, sym, subst, arith}
use Rattle.group_book.specs.Books.{BookState, group_at}
use Rattle.group_book.proofs.Slots.{held_without, taken_out}
use Rattle.group_book.proofs.book.Book.remove_at.Goals as goal

pub invariant_of-self : goal.invariant_of-self
invariant_of-self g c =
    let m = c.self.inside.slots in
    let within = subst (λ (b : BookState _). c.args.number < length b.entries) (sym c.self.view_is) c.requires in (
      c.swap_remove_index.ensures.unique,
      held_without m c.swap_remove_index.new.self c.args.number c.swap_remove_index.result c.swap_remove_index.ensures.entry
          c.swap_remove_index.ensures.updates c.self.invariant.1 within,
      omega (arith, c.self.invariant.2, c.swap_remove_index.ensures.room.0),
    )

pub returns-clause-slots : goal.returns-clause-slots
returns-clause-slots g c = λ group at.
    let m = c.self.inside.slots in
    let there = subst (λ (b : BookState _). group_at b.entries c.args.number ≡ Some group) (sym c.self.view_is) at in
    rw (← c.self.view_is)
    (taken_out m c.swap_remove_index.new.self c.args.number c.swap_remove_index.result c.swap_remove_index.ensures.entry
    c.swap_remove_index.ensures.updates group there)
