use Rattle.std.proofs.Common.{ap, ◌∙◌}
use Rattle.group_book.specs.Slots.{begun}
use Rattle.group_book.proofs.Holders.{right_after_start}
use Rattle.group_book.proofs.Slots.{put_by_start}
use Rattle.group_book.proofs.book.Book.start.Goals as goal

pub put-requires : goal.put-requires
put-requires g c = λ none. ap begun (c.slot-before.ensures ∙ none)

pub returns-clause-slots : goal.returns-clause-slots
returns-clause-slots g c =
    put_by_start c.args.self.now.entries c.put.new.self.entries c.args.group.now c.slot-before.result c.slot-before.ensures c.put.ensures.slots

pub returns-clause-book : goal.returns-clause-book
returns-clause-book g c = λ all right.
    right_after_start c.args.self.now.entries c.put.new.self.entries c.args.group.now c.requires
    (put_by_start c.args.self.now.entries c.put.new.self.entries c.args.group.now c.slot-before.result c.slot-before.ensures c.put.ensures.slots)
    all right
