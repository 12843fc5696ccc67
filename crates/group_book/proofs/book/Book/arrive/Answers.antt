use Rattle.std.proofs.Common.{ap, arith}
use Rattle.group_book.specs.Books.{BookState}
use Rattle.group_book.proofs.Holders.{right_after_arrival}
use Rattle.group_book.proofs.Slots.{held_written, holds_newcomer, put_by_arrival}
use Rattle.group_book.proofs.book.Book.arrive.Goals as goal

pub invariant_of-self : goal.invariant_of-self
invariant_of-self g c = (
  c.in-Ok.ensures.unique,
  held_written c.self.inside.slots.entries c.insert.new.self.entries c.args.group _ c.self.invariant.1
      (holds_newcomer c.args.newcomer c.slot-before.result) c.in-Ok.ensures.updates.0,
  omega (arith, c.self.invariant.2, c.in-Ok.ensures.spare),
)

pub returns-clause-slots : goal.returns-clause-slots
returns-clause-slots g c =
    put_by_arrival c.self.inside.slots.entries c.args.self.now.entries c.insert.new.self.entries c.args.group c.args.newcomer c.slot-before.result
    (ap (λ (b : BookState _). b.entries) c.self.view_is) c.slot-before.ensures c.in-Ok.ensures.updates.0

pub returns-clause-book : goal.returns-clause-book
returns-clause-book g c = λ all right.
    right_after_arrival c.args.self.now.entries c.insert.new.self.entries c.args.group c.args.newcomer
    (put_by_arrival c.self.inside.slots.entries c.args.self.now.entries c.insert.new.self.entries c.args.group c.args.newcomer c.slot-before.result
    (ap (λ (b : BookState _). b.entries) c.self.view_is) c.slot-before.ensures c.in-Ok.ensures.updates.0) all right
