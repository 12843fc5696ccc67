use Rattle.wf_expr.proofs.EncodeLemmas.{one-template}
use Rattle.wf_expr.proofs.grammar.spells_one_template.Goals as goal

pub returns : goal.returns
returns c = one-template
