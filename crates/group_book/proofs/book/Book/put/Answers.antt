use Rattle.std.proofs.Common.{sym}
use Rattle.group_book.proofs.Slots.{found_at, missing, puts_nothing}
use Rattle.group_book.proofs.book.Book.put.Goals as goal

pub returns-in-Some-clause-slots : goal.returns-in-Some-clause-slots
returns-in-Some-clause-slots g c =
    c.put_at.ensures.slots c.args.group.now (rw (← c.self.view_is) (found_at c.self.inside.slots.entries c.args.group.now c.in-Some.number (sym c.in-Some.ensures.index)))

pub returns-in-None-clause-slots : goal.returns-in-None-clause-slots
returns-in-None-clause-slots g c =
    let none = missing c.self.inside.slots.entries c.args.group.now (sym c.in-None.ensures.index) in
    rw (← c.self.view_is) (puts_nothing c.self.inside.slots.entries c.args.group.now c.args.slot none.0 (c.requires (rw (← c.self.view_is) none.1)))
