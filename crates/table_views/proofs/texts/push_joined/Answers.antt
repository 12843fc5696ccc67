use Rattle.std.proofs.Common.{rules}
use Rattle.table_views.proofs.Joined.{all_joined}
use Rattle.table_views.proofs.texts.push_joined.Goals as goal

pub returns : goal.returns
returns c =
    all_joined c.args.items.now c.in-Some.others.now c.in-Some.first.now c.loop-item.item-index _ _ _
    c.in-Some.ensures.cases.0 c.loop-item-test.false (search rules) c.loop-item.invariant
