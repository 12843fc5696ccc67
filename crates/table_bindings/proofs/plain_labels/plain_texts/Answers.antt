use Rattle.std.specs.Prelude.{◌≡◌, ◌++◌, ◌∷◌, []}
use Rattle.std.proofs.Common.{subst, sym, ◌∙◌, rules}
use Rattle.table_bindings.specs.PlainLabels.{AreTheTexts}
use Rattle.table_bindings.proofs.PlainLabels.{all_texts, one_more_text}
use Rattle.table_bindings.proofs.plain_labels.plain_texts.Goals as goal

pub loop-label-preserved : goal.loop-label-preserved
loop-label-preserved c =
    let label = c.label-item.result in
    let text = c.in-Some.text.now in
    let is : c.push.new.self.items ≡ c.loop-label.texts.items ++ text ∷ [] = search rules in
    one_more_text c.args.labels.now c.loop-label.label-index label c.loop-label.texts.items c.push.new.self.items text c.loop-label-test.true
    c.label-item.is is c.loop-label.invariant c.in-Some.ensures

pub returns-clause-texts : goal.returns-clause-texts
returns-clause-texts c =
    subst (AreTheTexts c.args.labels.now) (sym (c.new-2.ensures ∙ c.new.ensures))
    (all_texts c.args.labels.now c.loop-label.label-index c.loop-label.texts.items c.loop-label-test.false c.loop-label.invariant)
