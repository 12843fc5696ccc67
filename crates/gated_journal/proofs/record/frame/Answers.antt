use Rattle.std.proofs.Common.{◌-◌, length, arith}
use Rattle.gated_journal.specs.Lengths.{frame_length}
use Rattle.gated_journal.proofs.Recording.{framed_over}
use Rattle.gated_journal.proofs.record.frame.Goals as goal

pub returns : goal.returns
returns c =
    framed_over c.args.bytes.now c.to_be_bytes-number.result (length c.args.bytes.now - frame_length) (omega (arith, c.requires.long))
    c.to_be_bytes-number.ensures
