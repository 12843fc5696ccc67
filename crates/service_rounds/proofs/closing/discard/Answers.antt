use Rattle.std.proofs.Common.{◌++◌, take, arith, length-append, length-take}
use Rattle.std.proofs.KnownBytes.{Consumes-trans}
use Rattle.service_rounds.proofs.closing.discard.Goals as goal

pub loop-preserved : goal.loop-preserved
loop-preserved g c =
    let before = c.loop.invariant in
    let more = take c.in-Ok.count c.read_some.new.buffer in (
      before.0 ++ more,
      Consumes-trans _ _ _ before.0 more before.1 c.in-Ok.ensures.bytes,
      simp (length-append, length-take) (omega arith),
    )
