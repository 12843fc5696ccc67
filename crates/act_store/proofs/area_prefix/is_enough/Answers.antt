use Rattle.std.proofs.Common.{rules}
use Rattle.act_store.proofs.area_prefix.is_enough.Goals as goal

pub returns-else-bytes-len-clause-nothing : goal.returns-else-bytes-len-clause-nothing
returns-else-bytes-len-clause-nothing c = λ is. c.scan.ensures.none (search (rules, is))
