use Rattle.std.proofs.Common.{◌≡◌, ◌∙◌, ◌<◌, Ok, ap, length, sym, arith}
use Rattle.std.proofs.lemmas.Bool.Decides.{nat_tests}
use Rattle.wf_reader.specs.Workflow.{workflow_of}
use Rattle.workflow_lint.specs.InWorkflow.{found_in_text}
use Rattle.workflow_lint.specs.Plans.{plan_found}
use Rattle.workflow_lint.proofs.Texts.{none_in, only_memory, plan_alone, text_alone}
use Rattle.workflow_lint.proofs.workflow.lint.Goals as goal

pub returns-then-not-is_empty : goal.returns-then-not-is_empty
returns-then-not-is_empty c =
    let found = c.in_ok-found.found.items in
    let filled : 0 < length found = grind (arith, nat_tests) in
    ap Ok (text_alone found (found_in_text c.args.bytes.now) (plan_found (workflow_of c.args.bytes.now).jobs) c.in_ok-found.ensures filled)

pub returns-in_err-workflow : goal.returns-in_err-workflow
returns-in_err-workflow c =
    let found = c.in_ok-found.found.items in
    let empty : length found ≡ 0 = grind (arith, nat_tests) in
    only_memory (λ v. v.items) c.from_residual-in_err-workflow.result c.args.bytes.now c.in_err-workflow.field-0.0
    c.from_residual-in_err-workflow.ensures.1 (none_in found (found_in_text c.args.bytes.now) c.in_ok-found.ensures empty)
    c.in_err-workflow.ensures.gives

pub returns : goal.returns
returns c =
    let found = c.in_ok-found.found.items in
    let empty : length found ≡ 0 = grind (arith, nat_tests) in
    ap Ok (plan_alone c.args.bytes.now c.in_ok-workflow.workflow
    (none_in found (found_in_text c.args.bytes.now) c.in_ok-found.ensures empty) c.in_ok-workflow.ensures.gives
    ∙ ap plan_found (sym c.as_slice.ensures.jobs) ∙ sym c.in_ok-plan_found.ensures)
