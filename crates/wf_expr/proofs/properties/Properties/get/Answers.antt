use Rattle.std.proofs.Common.{arith, sym, ap, ◌∙◌}
use Rattle.std.specs.BTreeMap.{get_by_text}
use Rattle.std.specs.Option.{option_copied}
use Rattle.wf_expr.specs.declared.properties.Properties.TheViews.{out-Properties}
use Rattle.wf_expr.proofs.PropertyLemmas.{descend}
use Rattle.wf_expr.proofs.properties.Properties.get.Goals as goal

pub loop-name-preserved : goal.loop-name-preserved
loop-name-preserved c =
    descend c.loop-name.tree.now c.in-Some.inner.now c.args.path.now c.loop-name.name-index c.name-item.result _
    (omega arith) c.name-item.is
    (ap (get_by_text (out-Properties c.loop-name.tree.now).inner) (sym c.as_str.ensures)
    ∙ (sym c.get.ensures.value ∙ ap option_copied c.in-Some.is))
    c.loop-name.invariant
