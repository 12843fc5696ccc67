use Rattle.std.proofs.Common.{◌+◌, ◌*◌, min, length, drop, sym, ap, ◌∙◌, arith}
use Rattle.std.proofs.lemmas.List.{at_drop_more}
use Rattle.matrix_expand.specs.Combinations.{choice_count}
use Rattle.matrix_expand.proofs.Steps.{capped_more}
use Rattle.matrix_expand.proofs.original.capped_choices.Goals as goal

pub loop-variable-preserved : goal.loop-variable-preserved
loop-variable-preserved c =
    let vs = c.args.variables.now in
    let i = c.loop-variable.variable-index in
    let rest = choice_count (drop (i + 1) vs) in
    let here = at_drop_more choice_count vs i c.variable-item.result c.loop-variable-test.true
    ∙ ap (λ w. length w.1 * rest) (sym c.variable-item.is) in
    record {
      capped = omega arith;
      product = rw (c.min-count.ensures, c.min.ensures, c.values.ensures)
          (capped_more 4097 c.loop-variable.count (length c.variable-item.result.1) rest
          ∙ ap (λ n. min 4097 (c.loop-variable.count * n)) (sym here)
          ∙ c.loop-variable.invariant.product);
    }
