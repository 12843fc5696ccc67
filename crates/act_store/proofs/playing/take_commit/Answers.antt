use Rattle.act_store.proofs.Refused.{commit_refused}
use Rattle.act_store.proofs.playing.take_commit.Goals as goal

pub returns-in-Err-clause-takes : goal.returns-in-Err-clause-takes
returns-in-Err-clause-takes g c =
    commit_refused c.args.store.now c.commit.new.self c.commit.result c.in-Err.refusal c.in-Err.is c.commit.ensures.failed
    c.in-Err.ensures.refused c.in-Err.ensures.pending c.in-Err.ensures.broken
