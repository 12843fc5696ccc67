use Rattle.wf_expr.proofs.Found.{found}
use Rattle.wf_expr.proofs.OutcomeLemmas.{only-one}
use Rattle.wf_expr.proofs.grammar.a_text_has_one_outcome.Goals as goal

pub returns-clause-one : goal.returns-clause-one
returns-clause-one c = found

pub returns-clause-only : goal.returns-clause-only
returns-clause-only c = only-one
