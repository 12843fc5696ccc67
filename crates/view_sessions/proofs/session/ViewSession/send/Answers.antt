use Rattle.std.proofs.Common.{◌+◌, arith}
use Rattle.std.proofs.lemmas.Bool.Decides.{nat_tests}
use Rattle.view_sessions.proofs.Sending.{sent_both}
use Rattle.view_sessions.proofs.session.ViewSession.send.Goals as goal

pub loop-write-preserved : goal.loop-write-preserved
loop-write-preserved g c =
    let before = c.loop-write.invariant in
    record {
      count = before.count + c.in-Ok.field-0;
      sends = sent_both (g.W.Write.contents c.args.writer.now) (g.W.Write.contents c.loop-write.writer) (g.W.Write.contents c.write_once.new.writer)
          c.args.self.now c.loop-write.self c.write_once.new.self before.count c.in-Ok.field-0 before.sends c.in-Ok.ensures;
      moved = grind (arith, nat_tests, c.in-Ok.field-0-test);
    }
