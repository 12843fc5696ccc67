use Rattle.std.proofs.Common.{ap}
use Rattle.wf_expr.proofs.PropertyLemmas.{empty-within, no-names}
use Rattle.wf_expr.specs.declared.properties.Properties.TheViews.{out-roll-Properties}
use Rattle.wf_expr.proofs.properties.Properties.new.Goals as goal

pub returns : goal.returns
returns c = no-names _ (ap (λ r. r.value) (out-roll-Properties _)) (empty-within _ c.new.ensures.empty)
