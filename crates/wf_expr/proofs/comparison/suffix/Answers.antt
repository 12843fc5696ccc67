use Rattle.std.proofs.Common.{rules, refl}
use Rattle.wf_expr.proofs.ComparisonLemmas.{other-prefix, same-prefix}
use Rattle.wf_expr.proofs.comparison.suffix.Goals as goal

pub returns-then-are_alike : goal.returns-then-are_alike
returns-then-are_alike c =
    same-prefix c.args.case c.args.prefix.now c.args.text.now _ _ c.split_at.ensures.by_index.0 (search rules) (c.if-are_alike.ensures.0 refl)

pub returns-else-are_alike : goal.returns-else-are_alike
returns-else-are_alike c =
    other-prefix c.args.case c.args.prefix.now c.args.text.now _ _ c.split_at.ensures.by_index.0 (search rules)
    (λ e. let h = c.if-are_alike.ensures.1 e in cc)
