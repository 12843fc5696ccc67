use Rattle.std.proofs.Common.{rules, subst, sym}
use Rattle.group_name.specs.BoundGroup.{AreTexts}
use Rattle.group_name.proofs.BoundFolding.{group-when-bound}
use Rattle.group_name.proofs.bound_group.BoundGroup.of.Goals as goal

pub returns-clause-group : goal.returns-clause-group
returns-clause-group c =
    group-when-bound c.args.repository.now c.in_ok-from_str.field-0 c.args.name.now c.new.result (search rules) (search rules)
    (subst AreTexts c.pieces.ensures c.in_ok-pieces.ensures.utf8.1) (subst AreTexts (sym c.new.ensures) c.in_ok-pieces.ensures.utf8.0)
