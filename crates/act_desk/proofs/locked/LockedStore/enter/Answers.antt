use Rattle.std.proofs.Common.{rules}
use Rattle.act_desk.specs.Events.{entries_in}
use Rattle.act_desk.proofs.Causes.{passed_causes}
use Rattle.act_desk.proofs.EnteredAt.{gives_reply, in_history}
use Rattle.act_desk.proofs.locked.LockedStore.enter.Goals as goal

pub returns-in_err-receipt-clause-kind : goal.returns-in_err-receipt-clause-kind
returns-in_err-receipt-clause-kind g c =
    passed_causes c.self.inside.store c.args.command c.from_residual.result c.in_err-receipt.field-0.0 c.from_residual.ensures.1 c.in_err-receipt.ensures.cause

pub invariant_of-result : goal.invariant_of-result
invariant_of-result g c = (
  gives_reply c.self.inside.store c.of-asked.result.value c.in_ok-receipt.receipt (search rules),
  in_history c.self.inside.store c.apply.new.self c.of-asked.result.value c.number-number.result c.in_ok-receipt.receipt (entries_in c.so_far.result)
      (search rules) (search rules) (search rules),
)
