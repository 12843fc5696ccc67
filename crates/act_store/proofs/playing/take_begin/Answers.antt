use Rattle.act_store.proofs.Refused.{begin_refused}
use Rattle.act_store.proofs.playing.take_begin.Goals as goal

pub returns-in-Err-clause-takes : goal.returns-in-Err-clause-takes
returns-in-Err-clause-takes g c =
    begin_refused c.args.store.now c.check_begin.new.self c.check_begin.result c.in-Err.refusal c.in-Err.is c.check_begin.ensures.refused
    c.in-Err.ensures.cause c.check_begin.ensures.broken c.in-Err.ensures.unchanged
