use Rattle.std.proofs.Common.{◌++◌, take, arith, length-append, length-take}
use Rattle.std.proofs.KnownBytes.{Consumes-trans}
use Rattle.program_commands.proofs.input.read_at_most.Goals as goal

pub returns-in_err-extend_from_slice-clause-limit : goal.returns-in_err-extend_from_slice-clause-limit
returns-in_err-extend_from_slice-clause-limit g c =
    let before = c.loop-buffer.bytes.items in
    let more = take c.in_ok-count.count c.read_some.new.buffer in
    let room = simp length-take at c.read_some.auto.buffer in (
      before ++ more,
      Consumes-trans _ _ _ before more c.loop-buffer.invariant.1 c.in_ok-count.ensures.bytes,
      simp (length-append, length-take) (omega arith),
    )
