use Rattle.act_store.proofs.Refused.{slice_refused}
use Rattle.act_store.proofs.playing.take_slice.Goals as goal

pub returns-in-Err-clause-takes : goal.returns-in-Err-clause-takes
returns-in-Err-clause-takes g c =
    slice_refused c.args.store.now c.check_slice.new.self c.check_slice.result c.in-Err.refusal c.in-Err.is c.check_slice.ensures.refused
    c.in-Err.ensures.cause c.check_slice.ensures.broken
