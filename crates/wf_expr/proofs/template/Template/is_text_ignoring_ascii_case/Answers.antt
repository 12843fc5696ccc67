use Rattle.wf_expr.proofs.ComparisonLemmas.{value-text}
use Rattle.wf_expr.proofs.template.Template.is_text_ignoring_ascii_case.Goals as goal

pub returns : goal.returns
returns g c = rw (value-text (g.C.Context.values c.args.context.now) c.args.self.now, ← c.pieces.ensures) c.are_text.ensures
