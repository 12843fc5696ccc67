use Rattle.std.proofs.Common.{rules}
use Rattle.wf_expr.proofs.BoundLemmas.{text-when-bound}
use Rattle.wf_expr.proofs.template.Template.bind.Goals as goal

pub returns-clause-text : goal.returns-clause-text
returns-clause-text g c =
    text-when-bound (g.C.Context.values c.args.context.now) (g.N.Needs.need_of c.args.needs.now) c.args.self.now c.new.result (search rules)
