use Rattle.std.proofs.Common.{sym}
use Rattle.table_model.specs.Fitting.{has_label}
use Rattle.table_bindings.proofs.ShortLabels.{all_pass, one_does_not_pass, one_more_passes}
use Rattle.table_bindings.proofs.resolved_labels.has_texts.Goals as goal

pub loop-text-preserved : goal.loop-text-preserved
loop-text-preserved c = λ whole alike.
    one_more_passes (has_label c.args.labels.now) whole c.args.wanted.now alike c.loop-text.text-index c.text-item.result c.has_text.result
    c.loop-text-test.true c.text-item.is c.has_text.ensures c.if-not-has_text.false (c.loop-text.invariant whole alike)

pub returns-then-not-has_text : goal.returns-then-not-has_text
returns-then-not-has_text c = λ whole alike.
    sym (one_does_not_pass (has_label c.args.labels.now) whole c.args.wanted.now alike c.loop-text.text-index c.text-item.result
    c.has_text.result c.loop-text-test.true c.text-item.is c.has_text.ensures c.if-not-has_text.true)

pub returns : goal.returns
returns c = λ whole alike.
    sym (all_pass (has_label c.args.labels.now) whole c.args.wanted.now alike c.loop-text.text-index c.loop-text-test.false
    (c.loop-text.invariant whole alike))
