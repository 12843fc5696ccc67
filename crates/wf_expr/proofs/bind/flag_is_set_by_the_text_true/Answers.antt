use Rattle.wf_expr.proofs.FlagLemmas.{flag-text}
use Rattle.wf_expr.proofs.bind.flag_is_set_by_the_text_true.Goals as goal

pub returns : goal.returns
returns c = flag-text
