use Rattle.std.proofs.Common.{refl}
use Rattle.wf_value.proofs.PassedOn.{passed_on}
use Rattle.matrix_expand.specs.inner.Numbered.{kept_of}
use Rattle.matrix_expand.proofs.Legs.{legs_refused}
use Rattle.matrix_expand.proofs.expansion.legs.Goals as goal

pub returns-in_err-kept : goal.returns-in_err-kept
returns-in_err-kept c =
    let m = c.args.matrix.now in
    passed_on _ _ _ _ c.in_err-kept.field-0.0 c.from_residual-in_err-kept.ensures.1 c.in_err-kept.ensures
    (λ refused. legs_refused m (kept_of m) _ refl refused)
