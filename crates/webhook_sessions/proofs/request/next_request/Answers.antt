use Rattle.std.proofs.Common.{◌+◌, arith, length}
use Rattle.act_sessions.proofs.Waiting.{waits_until_more}
use Rattle.webhook_sessions.specs.Hooks.{hooks}
use Rattle.webhook_sessions.proofs.HeadLines.{waits_by_lines}
use Rattle.webhook_sessions.proofs.request.next_request.Goals as goal

pub returns-then-is_unfinished-clause-found : goal.returns-then-is_unfinished-clause-found
returns-then-is_unfinished-clause-found c =
    let bytes = c.args.bytes.now in
    let short = c.if-bytes-lt-MAX_HEAD.true in
    let waits = waits_by_lines bytes c.args.progress (c.is_unfinished.ensures c.if-is_unfinished.true) short in
    rw c.waits_for_a_byte.ensures (waits, omega arith, omega arith, waits_until_more hooks bytes (length bytes + 1) waits (omega arith))

pub returns-then-is_unfinished-clause-kept : goal.returns-then-is_unfinished-clause-kept
returns-then-is_unfinished-clause-kept c = rw c.waits_for_a_byte.ensures c.read_on.ensures
