use Rattle.std.proofs.Common.{codes, arith}
use Rattle.wf_expr.proofs.NameLemmas.{single-iff}
use Rattle.wf_expr.proofs.profile.is_result.Goals as goal

pub returns-in-len1 : goal.returns-in-len1
returns-in-len1 c =
    single-iff c.is_text.result c.args.names.now c.name-item.result (codes "result") (omega arith)
    (omega arith) c.name-item.is c.is_text.ensures
