use Rattle.gated_journal.proofs.Composed.{both_ok}
use Rattle.gated_journal.proofs.Moves.{close_moments, close_done}
use Rattle.gated_journal.proofs.area_pair.AreaPair.close_other.Goals as goal

pub returns-clause-any_moment : goal.returns-clause-any_moment
returns-clause-any_moment g c = λ head bodies honest each.
    let disk = g.D.Disk in
    close_moments c.args.self.now.len c.args.self.now.side head bodies disk.moment disk.images_since disk.images c.args.disk.now
    c.args.gate c.close_gate.new.disk c.other_area.result.start c.other_area.ensures.start (λ is. (c.close_gate.ensures.same is).0)
    (λ is. c.close_gate.ensures.any_moment is honest) (g.met.D.Disk.only_now c.args.disk.now honest) each

pub returns-clause-closed : goal.returns-clause-closed
returns-clause-closed g c =
    let disk = g.D.Disk in
    both_ok c.close_gate.result c.close_gate.ensures.stable c.close_gate.ensures.closed (λ stable closed head bodies honest each.
    close_done c.args.self.now.len c.args.self.now.side head bodies disk.moment disk.images_since disk.images c.args.disk.now
    c.args.gate c.close_gate.new.disk c.other_area.result.start (disk.seen c.args.disk.now) (disk.seen c.close_gate.new.disk)
    c.other_area.ensures.start (λ is. (c.close_gate.ensures.same is).0) (λ is. stable is honest) (λ is. closed is honest)
    (g.met.D.Disk.seen_is_image c.args.disk.now honest) each)
