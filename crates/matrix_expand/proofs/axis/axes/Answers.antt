use Rattle.std.proofs.Common.{◌≡◌, ◌+◌, ◌/◌, ◌∷◌, length, drop, refl, sym, ap, ◌∙◌}
use Rattle.std.proofs.lemmas.List.{at_drop_more}
use Rattle.matrix_expand.specs.Combinations.{choice_count}
use Rattle.matrix_expand.specs.inner.Numbered.{axes_of}
use Rattle.matrix_expand.proofs.Steps.{choices_more, pushed}
use Rattle.matrix_expand.proofs.axis.axes.Goals as goal

pub loop-variable-preserved : goal.loop-variable-preserved
loop-variable-preserved c =
    let vs = c.args.variables.now in
    let i = c.loop-variable.variable-index in
    let v = c.variable-item.result in
    let more = choices_more vs i c.loop-variable.stride v c.loop-variable-test.true c.variable-item.is
    c.loop-variable.invariant.choices_left c.loop-variable.invariant.some in
    let left = choice_count (drop (i + 1) vs) in
    let stride_is : c.loop-variable.stride / length c.values-values.result.now ≡ left = rw c.values-values.ensures more.1.1 in
    let axis_is : c.new-in-loop-variable.result ≡ (v.0, (v.1, left)) = c.new-in-loop-variable.ensures
    ∙ rw (c.name.ensures, c.new.ensures, stride_is, c.values-values.ensures) refl in
    record {
      some = rw stride_is more.1.0;
      choices_left = stride_is;
      axes = pushed c.loop-variable.axes.items c.push.new.self.items _ _ _ c.new-in-loop-variable.result c.in_ok-push.ensures.items
          (at_drop_more axes_of vs i v c.loop-variable-test.true
          ∙ ap (λ w. (w.0, (w.1, left)) ∷ axes_of (drop (i + 1) vs)) (sym c.variable-item.is)
          ∙ ap (λ a. a ∷ axes_of (drop (i + 1) vs)) (sym axis_is))
          c.loop-variable.invariant.axes;
    }
