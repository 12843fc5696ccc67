use Rattle.std.proofs.Common.{Ok, ap, codes, ◌∙◌, sym}
use Rattle.serde_json.specs.Find.{get}
use Rattle.serde_json.specs.View.{view}
use Rattle.wf_value.proofs.PassedOn.{passed_on}
use Rattle.wf_reader.specs.Faults.{optional}
use Rattle.wf_reader.specs.Strategy.{patterns_faults, variables_in, variable_faults}
use Rattle.std.specs.List.{flat_map}
use Rattle.wf_reader.proofs.InOrder.{first_decides, skip, same_value}
use Rattle.wf_reader.proofs.MatrixParts.{in_matrix, variables_here, matrix_made}
use Rattle.wf_reader.proofs.matrix.read_matrix.Goals as goal

pub returns-in_err-include : goal.returns-in_err-include
returns-in_err-include c =
    let d = view c.args.value.now in
    passed_on _ _ _ _ c.in_err-include.field-0.0 c.from_residual.ensures.1 c.in_err-include.ensures (λ refused.
    in_matrix d _ _ _ c.in-Some.ensures (first_decides (optional patterns_faults (get (codes "include") d)) _ _ _ _ refused))

pub returns-in_err-exclude : goal.returns-in_err-exclude
returns-in_err-exclude c =
    let d = view c.args.value.now in
    passed_on _ _ _ _ c.in_err-exclude.field-0.0 c.from_residual-in_err-exclude.ensures.1 c.in_err-exclude.ensures (λ refused.
    in_matrix d _ _ _ c.in-Some.ensures (
    skip (optional patterns_faults (get (codes "include") d)) _ _ _ _ _ c.in_ok-include.ensures (
    first_decides (optional patterns_faults (get (codes "exclude") d)) _ _ _ _ refused)))

pub returns-in_err-variables : goal.returns-in_err-variables
returns-in_err-variables c =
    let d = view c.args.value.now in
    passed_on _ _ _ _ c.in_err-variables.field-0.0 c.from_residual-in_err-variables.ensures.1 c.in_err-variables.ensures.gives (λ refused.
    in_matrix d _ _ _ c.in-Some.ensures (
    skip (optional patterns_faults (get (codes "include") d)) _ _ _ _ _ c.in_ok-include.ensures (
    skip (optional patterns_faults (get (codes "exclude") d)) _ _ _ _ _ c.in_ok-exclude.ensures (
    first_decides (flat_map variable_faults (variables_in d)) _ _ _ _ (sym (variables_here d _ c.in-Some.ensures) ∙ refused)))))

pub returns : goal.returns
returns c =
    let d = view c.args.value.now in
    let variables = sym (variables_here d _ c.in-Some.ensures) ∙ c.in_ok-variables.ensures.gives in
    in_matrix d _ _ _ c.in-Some.ensures (
    skip (optional patterns_faults (get (codes "include") d)) _ _ _ _ _ c.in_ok-include.ensures (
    skip (optional patterns_faults (get (codes "exclude") d)) _ _ _ _ _ c.in_ok-exclude.ensures (
    skip (flat_map variable_faults (variables_in d)) _ _ _ _ _ variables (
    ap Ok (matrix_made _ _ _ _ _ _ _ (same_value (flat_map variable_faults (variables_in d)) _ _ variables)
    (same_value (optional patterns_faults (get (codes "include") d)) _ _ c.in_ok-include.ensures)
    (same_value (optional patterns_faults (get (codes "exclude") d)) _ _ c.in_ok-exclude.ensures)
    c.new.ensures.variables c.new.ensures.include c.new.ensures.exclude)))))
