use Rattle.std.specs.Prelude.{option_and_then}
use Rattle.std.proofs.Common.{ap, sym}
use Rattle.table_model.specs.LegContext.{contexts_of, under}
use Rattle.table_bindings.proofs.Under.{nothing_under}
use Rattle.table_bindings.proofs.leg_context.LegContext.member.Goals as goal

pub returns-in_default : goal.returns-in_default
returns-in_default c =
    let n = c.in_default in
    sym (ap (option_and_then (under c.args.name.now))
    (nothing_under c.args.context.now (contexts_of c.args.self.now) (n.not-github, (n.not-strategy, (n.not-matrix, tt)))))
