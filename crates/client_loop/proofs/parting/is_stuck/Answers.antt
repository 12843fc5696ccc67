use Rattle.std.proofs.Common.{◌≡◌, [], drop}
use Rattle.client_loop.specs.Entering.{part_of}
use Rattle.client_loop.proofs.Machine.{turns_none}
use Rattle.client_loop.proofs.PendingPart.{is_pending}
use Rattle.client_loop.proofs.QuietSteps.{failed_refusal}
use Rattle.client_loop.proofs.parting.is_stuck.Goals as goal

pub returns-in-Err-Numbered-FailedEarlier-clause-failed : goal.returns-in-Err-Numbered-FailedEarlier-clause-failed
returns-in-Err-Numbered-FailedEarlier-clause-failed g c = λ so.
    failed_refusal c.args.store.now (rw (c.in-Err-Numbered-FailedEarlier.field-0-is, c.in-Err-Numbered-FailedEarlier.field-0-0-is) at c.in-Err-Numbered-FailedEarlier.ensures.cause)

pub returns-in-Err-Numbered-FailedEarlier-clause-pending : goal.returns-in-Err-Numbered-FailedEarlier-clause-pending
returns-in-Err-Numbered-FailedEarlier-clause-pending g c = λ so.
    let s = c.args.store.now in
    is_pending c.none_pending.result (part_of c.args.number (drop s.covered s.history) ≡ []) c.if-none_pending.false c.none_pending.ensures

pub returns-clause-same : goal.returns-clause-same
returns-clause-same g c =
    let s = c.args.store.now in
    let k = c.turn_over.ensures in
    turns_none s c.turn_over.new.self c.args.number c.turn_over.result c.covered-covered.ensures.within
    (is_pending c.none_pending.result (part_of c.args.number (drop s.covered s.history) ≡ []) c.if-none_pending.false c.none_pending.ensures)
    k.refused k.unchanged
