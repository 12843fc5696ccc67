use Rattle.std.proofs.Common.{◌<◌, length, sym, ◌∙◌, arith}
use Rattle.std.proofs.lemmas.Bool.Decides.{nat_tests}
use Rattle.serde_json.specs.View.{view}
use Rattle.wf_value.proofs.PassedOn.{passed_on}
use Rattle.wf_reader.specs.Strategy.{variable_faults}
use Rattle.wf_reader.proofs.Contents.{same_refusal}
use Rattle.wf_reader.proofs.MatrixParts.{variable_here, variable_made}
use Rattle.wf_reader.proofs.matrix.read_variable.Goals as goal

pub returns-in_err-scalars : goal.returns-in_err-scalars
returns-in_err-scalars c =
    let d = view c.args.value.now in
    let filled : 0 < length c.as_slice.result.now = grind (arith, nat_tests) in
    passed_on _ _ _ _ c.in_err-scalars.field-0.0 c.from_residual.ensures.1 c.in_err-scalars.ensures (λ refused.
    same_refusal (variable_faults (c.args.name.now, d)) _ _ _ (
    sym (variable_here c.args.name.now d c.as_slice.result.now (rw c.as_slice.ensures.value c.in-Some.ensures) filled) ∙ refused))

pub returns : goal.returns
returns c =
    let d = view c.args.value.now in
    let filled : 0 < length c.as_slice.result.now = grind (arith, nat_tests) in
    let read = sym (variable_here c.args.name.now d c.as_slice.result.now (rw c.as_slice.ensures.value c.in-Some.ensures) filled)
    ∙ c.in_ok-scalars.ensures in
    variable_made c.args.name.now _ d _ _ read c.in_ok-from_str.ensures.gives c.new.ensures
