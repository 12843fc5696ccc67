use Rattle.std.proofs.Common.{rules}
use Rattle.std.proofs.lemmas.Fn.{always_returns_same}
use Rattle.wf_value.proofs.Rising.{below, rise_told}
use Rattle.wf_value.proofs.matrix.Matrix.names_rise.Goals as goal

pub returns : goal.returns
returns c = rise_told (λ p. p.0) c.args.variables.now c.is_sorted_by.result
    (c.is_sorted_by.ensures.cases (below (λ p. p.0)) (always_returns_same _ _ _ (λ a r g called. search rules)))
