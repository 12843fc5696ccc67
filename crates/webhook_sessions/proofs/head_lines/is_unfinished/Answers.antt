use Rattle.std.proofs.Common.{⊎_elim, drop, arith}
use Rattle.httparse.specs.Grammar.{HasNoSection, MayBecomeSection}
use Rattle.webhook_sessions.proofs.head_lines.is_unfinished.Goals as goal

pub returns-in-Ok-Partial : goal.returns-in-Ok-Partial
returns-in-Ok-Partial c so =
    let rest = drop c.args.progress.read c.args.bytes.now in
    let none : HasNoSection rest = rw c.in-Ok-Partial.field-0-is at c.in-Ok-Partial.ensures.partial in
    let may : MayBecomeSection rest = rw c.in-Ok-Partial.field-0-is at c.in-Ok-Partial.ensures.unfinished in
    ⊎_elim (λ unread. absurd (omega (arith, unread, c.if-progress-eq0.false))) (λ lines. (lines, (none, may))) c.requires

pub parse_headers_from-requires : goal.parse_headers_from-requires
parse_headers_from-requires c = ⊎_elim (λ unread. absurd (omega (arith, unread, c.if-progress-eq0.false))) (λ lines. lines.0) c.requires
