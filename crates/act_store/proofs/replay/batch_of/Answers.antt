use Rattle.std.proofs.Common.{rules}
use Rattle.act_store.proofs.Replaying.{left_over}
use Rattle.act_store.proofs.replay.batch_of.Goals as goal

pub returns-then-rest-gt0-clause-batch : goal.returns-then-rest-gt0-clause-batch
returns-then-rest-gt0-clause-batch c =
    left_over c.args.layout c.args.body.now c.in-Some.rest.now c.in-Some.commands.items (search rules) c.if-rest-gt0.true
