use Rattle.std.proofs.Common.{ap, arith, length}
use Rattle.act_store.specs.PendingBatch.{BatchState}
use Rattle.act_store.proofs.Records.{length_with}
use Rattle.act_store.proofs.pending_batch.PendingBatch.batch_length_with.Goals as goal

pub returns-clause-length : goal.returns-clause-length
returns-clause-length c = λ commands is.
    omega (
      arith,
      c.encoded_len.ensures.length,
      ap (λ (w : BatchState). length w.encoded) is,
      c.command_length.ensures.length,
      length_with commands c.args.command.now,
    )
