use Rattle.std.proofs.Common.{◌∙◌}
use Rattle.group_book.proofs.Holders.{right_after_end}
use Rattle.group_book.proofs.Slots.{left_empty, left_slot, others_stay}
use Rattle.group_book.proofs.book.Book.leave.Goals as goal

pub put-requires : goal.put-requires
put-requires g c = λ none.
    left_empty c.args.holder.now c.slot-before.result c.without.result (c.slot-before.ensures ∙ none) c.without.ensures

pub returns-clause-left : goal.returns-clause-left
returns-clause-left g c =
    left_slot c.args.self.now.entries c.put.new.self.entries c.args.group.now c.args.holder.now c.slot-before.result c.without.result
    c.slot-before.ensures c.without.ensures c.put.ensures.slots

pub returns-clause-others : goal.returns-clause-others
returns-clause-others g c =
    others_stay c.args.self.now.entries c.put.new.self.entries c.args.group.now c.args.holder.now c.slot-before.result c.without.result
    c.slot-before.ensures c.without.ensures c.put.ensures.slots

pub returns-clause-book : goal.returns-clause-book
returns-clause-book g c = λ all is tells right.
    right_after_end c.args.self.now.entries c.put.new.self.entries c.args.group.now c.args.holder.now
    (left_slot c.args.self.now.entries c.put.new.self.entries c.args.group.now c.args.holder.now c.slot-before.result c.without.result
    c.slot-before.ensures c.without.ensures c.put.ensures.slots)
    (others_stay c.args.self.now.entries c.put.new.self.entries c.args.group.now c.args.holder.now c.slot-before.result c.without.result
    c.slot-before.ensures c.without.ensures c.put.ensures.slots) all is tells right
