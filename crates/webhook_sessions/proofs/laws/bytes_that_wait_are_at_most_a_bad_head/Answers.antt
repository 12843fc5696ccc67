use Rattle.webhook_sessions.specs.inner.Laws.{hooks_may_do_both, hooks_wait}
use Rattle.webhook_sessions.proofs.laws.bytes_that_wait_are_at_most_a_bad_head.Goals as goal

pub returns-clause-only : goal.returns-clause-only
returns-clause-only c = hooks_wait

pub returns-clause-both : goal.returns-clause-both
returns-clause-both c = hooks_may_do_both
