use Rattle.wf_expr.proofs.OutcomeLemmas.{when-outcome, when-ok, only-expression, only-site, which-error}
use Rattle.wf_expr.proofs.template.Template.parse.Goals as goal

pub returns-clause-grammar : goal.returns-clause-grammar
returns-clause-grammar c = when-outcome c.args.text.now c.args.site c.parsed.result c.parsed.ensures

pub returns-clause-ok : goal.returns-clause-ok
returns-clause-ok c = when-ok c.args.text.now c.args.site c.parsed.result c.parsed.ensures

pub returns-clause-expression : goal.returns-clause-expression
returns-clause-expression c = only-expression c.args.text.now c.args.site c.parsed.result c.parsed.ensures

pub returns-clause-site : goal.returns-clause-site
returns-clause-site c = only-site c.args.text.now c.args.site c.parsed.result c.parsed.ensures

pub returns-clause-errors : goal.returns-clause-errors
returns-clause-errors c = which-error c.args.text.now c.args.site c.parsed.result c.parsed.ensures
