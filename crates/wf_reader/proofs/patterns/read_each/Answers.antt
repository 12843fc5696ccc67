use Rattle.std.proofs.Common.{◌∷◌, ◌+◌, drop, sym, ap, ◌∙◌}
use Rattle.std.proofs.lemmas.List.{at_drop_more}
use Rattle.serde_json.specs.View.{view}
use Rattle.wf_value.proofs.PassedOn.{passed_on}
use Rattle.wf_reader.specs.Strategy.{pattern_faults}
use Rattle.wf_reader.proofs.InOrder.{first_of_rest}
use Rattle.wf_reader.proofs.patterns.read_each.Goals as goal

pub returns-in_err-read_pattern : goal.returns-in_err-read_pattern
returns-in_err-read_pattern c =
    passed_on _ _ _ _ c.in_err-read_pattern.field-0.0 c.from_residual-in_err-read_pattern.ensures.1
    c.in_err-read_pattern.ensures (λ refused.
    first_of_rest (λ v. pattern_faults (view v)) c.args.values.now _ _ c.value-item.result _ _ _ c.loop-value.invariant.left
    (at_drop_more (λ vs. vs) c.args.values.now c.loop-value.value-index c.value-item.result c.loop-value-test.true
    ∙ ap (λ v. v ∷ drop (c.loop-value.value-index + 1) c.args.values.now) (sym c.value-item.is)) refused)
