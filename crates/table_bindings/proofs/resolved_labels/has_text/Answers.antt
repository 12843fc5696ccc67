use Rattle.std.specs.Prelude.{ℕ, Bool, List}
use Rattle.std.specs.Str.{str_eq_ignore_ascii_case}
use Rattle.std.proofs.Common.{sym, ◌∙◌}
use Rattle.table_bindings.proofs.ShortLabels.{none_has, none_more, one_has}
use Rattle.table_bindings.proofs.resolved_labels.has_text.Goals as goal

abbrev is_whole : List ℕ → List ℕ → Bool
is_whole whole label = str_eq_ignore_ascii_case label whole

pub loop-label-preserved : goal.loop-label-preserved
loop-label-preserved c = λ whole same.
    none_more (is_whole whole) c.args.labels.now c.loop-label.label-index c.label-item.result c.loop-label-test.true c.label-item.is
    (c.loop-label.invariant whole same) (sym (c.is_text.ensures whole same) ∙ c.if-is_text.false)

pub returns-then-is_text : goal.returns-then-is_text
returns-then-is_text c = λ whole same.
    sym (one_has (is_whole whole) c.args.labels.now c.loop-label.label-index c.label-item.result c.loop-label-test.true c.label-item.is
    (sym (c.is_text.ensures whole same) ∙ c.if-is_text.true))

pub returns : goal.returns
returns c = λ whole same.
    sym (none_has (is_whole whole) c.args.labels.now c.loop-label.label-index c.loop-label-test.false (c.loop-label.invariant whole same))
