use Rattle.act_store.proofs.Refused.{finish_refused}
use Rattle.act_store.proofs.playing.take_finish.Goals as goal

pub returns-in-Err-clause-takes : goal.returns-in-Err-clause-takes
returns-in-Err-clause-takes g c =
    finish_refused c.args.store.now c.check_finish.new.self c.check_finish.result c.in-Err.refusal c.in-Err.is
    c.check_finish.ensures.refused c.in-Err.ensures.cause c.check_finish.ensures.broken c.check_finish.ensures.dropped
    c.in-Err.ensures.unchanged
