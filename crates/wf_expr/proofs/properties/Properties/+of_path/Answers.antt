use Rattle.std.proofs.Common.{arith}
use Rattle.wf_expr.proofs.PropertyLemmas.{first-and-rest, rest, set-itself, alone-others, made-others}
use Rattle.wf_expr.proofs.properties.Properties.+of_path.Goals as goal

pub returns-in-empty-clause-value : goal.returns-in-empty-clause-value
returns-in-empty-clause-value t c = set-itself _ c.args.path.now c.in-empty.len_below

pub returns-in-empty-clause-others : goal.returns-in-empty-clause-others
returns-in-empty-clause-others t c = alone-others _ c.args.path.now c.in-empty.len_below c.new.ensures.empty

pub returns-in_ok-nest-in-len1-up-clause-others : goal.returns-in_ok-nest-in-len1-up-clause-others
returns-in_ok-nest-in-len1-up-clause-others t c =
    made-others c.nest.new.self c.new-tree.result c.in_ok-inner-in-len1-up.inner c.name-item.result (rest c.args.path.now) c.args.path.now
    (first-and-rest c.args.path.now c.name-item.result (omega arith) c.name-item.is)
    c.new-tree.ensures c.in_ok-nest-in-len1-up.ensures.others c.in_ok-nest-in-len1-up.ensures.within c.in_ok-inner-in-len1-up.ensures.others
