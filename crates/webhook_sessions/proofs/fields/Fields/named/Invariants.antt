use Rattle.webhook_sessions.specs.Fields.{OccursAs}
use Rattle.webhook_sessions.proofs.NamedValues.{values_before}
use Rattle.webhook_sessions.proofs.fields.Fields.named.Given as goal

-- the value is right for the fields so far
abbrev pub invariant-loop-span : goal.invariant-loop-span
invariant-loop-span l = OccursAs (values_before l.name l.self-inside.prefix.now l.self-inside.spans.now l.span-index) l.found
