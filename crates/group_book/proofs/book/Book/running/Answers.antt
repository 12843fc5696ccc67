use Rattle.std.proofs.Common.{ap}
use Rattle.group_book.specs.declared.slot.Slot.{Slot}
use Rattle.group_book.proofs.Holders.{is_running}
use Rattle.group_book.proofs.book.Book.running.Goals as goal

pub returns-clause-holder : goal.returns-clause-holder
returns-clause-holder g c =
    is_running c.args.self.now.entries c.args.group.now c.slot.result.in_progress (ap (λ (s : Slot _). s.in_progress) c.slot.ensures)
