use Rattle.std.proofs.Common.{ap}
use Rattle.group_book.specs.declared.slot.Slot.{Slot}
use Rattle.group_book.proofs.Holders.{is_waiting}
use Rattle.group_book.proofs.book.Book.pending.Goals as goal

pub returns-clause-holder : goal.returns-clause-holder
returns-clause-holder g c =
    is_waiting c.args.self.now.entries c.args.group.now c.slot.result.pending (ap (λ (s : Slot _). s.pending) c.slot.ensures)
