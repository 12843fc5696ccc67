use Rattle.std.proofs.Common.{[], codes, unwrap_or}
use Rattle.serde_json.specs.Find.{get}
use Rattle.serde_json.specs.View.{view}
use Rattle.wf_value.proofs.PassedOn.{passed_on}
use Rattle.wf_reader.specs.Job.{group_text, flag_faults, template_faults}
use Rattle.wf_reader.specs.Faults.{optional}
use Rattle.wf_reader.proofs.ConcurrencyParts.{of_its_kind}
use Rattle.wf_reader.proofs.InOrder.{first_decides, skip}
use Rattle.wf_reader.proofs.concurrency.concurrency_of.Goals as goal

pub returns-in_err-group : goal.returns-in_err-group
returns-in_err-group c =
    let d = view c.args.value.now in
    passed_on _ _ _ _ c.in_err-group.field-0.0 c.from_residual.ensures.1 c.in_err-group.ensures (λ refused.
    of_its_kind d _ _ _ c.if-not-is_concurrency.ensures (
    first_decides (template_faults c.args.site (unwrap_or (group_text d) [])) _ _ _ _ refused))

pub returns-in_err-cancel_in_progress : goal.returns-in_err-cancel_in_progress
returns-in_err-cancel_in_progress c =
    let d = view c.args.value.now in
    passed_on _ _ _ _ c.in_err-cancel_in_progress.field-0.0 c.from_residual-in_err-cancel_in_progress.ensures.1
    c.in_err-cancel_in_progress.ensures (λ refused.
    of_its_kind d _ _ _ c.if-not-is_concurrency.ensures (
    skip (template_faults c.args.site (unwrap_or (group_text d) [])) _ _ _ _ _ c.in_ok-group.ensures (
    first_decides (optional (flag_faults c.args.site) (get (codes "cancel-in-progress") d)) _ _ _ _ refused)))
