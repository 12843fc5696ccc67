use Rattle.std.proofs.Common.{rules, ap, Ok}
use Rattle.group_name.proofs.Folding.{kept_group}
use Rattle.group_name.proofs.group_key.GroupKey.of.Goals as goal

pub returns-clause-gives : goal.returns-clause-gives
returns-clause-gives c =
    ap Ok (kept_group c.args.repository.now c.args.name.now _ _ (search rules) (search rules) (search rules))
