use Rattle.gated_journal.proofs.Composed.{on_ok}
use Rattle.gated_journal.proofs.Gates.{gate_moments, gate_shut}
use Rattle.gated_journal.proofs.area.Area.close_gate.Goals as goal

pub returns-in-Open-clause-reads : goal.returns-in-Open-clause-reads
returns-in-Open-clause-reads g c = λ head bodies is honest would.
    let disk = g.D.Disk in
    gate_moments disk.moment disk.images_since (disk.images c.args.disk.now) c.args.disk.now c.write_synced.new.disk
    c.args.self.now.start c.args.self.now.len head bodies (c.write_synced.ensures.any_moment honest) would

pub returns-in-Open-clause-shut : goal.returns-in-Open-clause-shut
returns-in-Open-clause-shut g c =
    let disk = g.D.Disk in
    on_ok c.write_synced.result c.write_synced.ensures.written (λ written head bodies is honest would.
    let w = written honest in
    gate_shut c.args.self.now.start c.args.self.now.len head bodies (disk.seen c.args.disk.now) (disk.seen c.write_synced.new.disk)
    would w.torn w.held)
