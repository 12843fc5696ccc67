use Rattle.std.proofs.Common.{arith, subst, sym}
use Rattle.command_encodings.proofs.Known.{all_get, all_more, bytes_more}
use Rattle.command_encodings.proofs.list_writer.push_list.Goals as goal

pub push_to-requires : goal.push_to-requires
push_to-requires g c =
    let can = g.T.Push.can_push in
    subst can (sym c.value-item.is) (all_get can c.args.list.now c.loop-value.value-index _ c.loop-value-test.true c.requires)

pub loop-value-preserved : goal.loop-value-preserved
loop-value-preserved g c = record {
  each = all_more g.T.Push.takes c.args.list.now c.loop-value.value-index _ c.loop-value-test.true c.loop-value.invariant.each
      (subst g.T.Push.takes c.value-item.is c.in_ok-push_to.ensures.takes);
  bytes = bytes_more g.T.Push.encoding _ _ _ c.args.list.now c.loop-value.value-index _ _ c.loop-value-test.true c.value-item.is
      c.loop-value.invariant.bytes c.in_ok-push_to.ensures.bytes;
  room = omega (arith, c.loop-value.invariant.room, c.push_to.ensures.room);
}
