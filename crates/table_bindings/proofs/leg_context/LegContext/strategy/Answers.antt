use Rattle.std.proofs.Common.{sym}
use Rattle.table_model.specs.LegContext.{strategy_of}
use Rattle.table_bindings.proofs.Under.{nothing_under}
use Rattle.table_bindings.proofs.leg_context.LegContext.strategy.Goals as goal

pub returns-in_default : goal.returns-in_default
returns-in_default c =
    let n = c.in_default in
    sym (nothing_under c.args.name.now (strategy_of c.args.self.now)
    (n.not-text, (n.not-text-2, (n.not-text-3, (n.not-text-4, tt)))))
