use Rattle.gated_journal.proofs.Composed.{on_ok}
use Rattle.gated_journal.proofs.Gates.{gate_moments, gate_opened}
use Rattle.gated_journal.proofs.area.Area.open_gate.Goals as goal

pub returns-clause-reads : goal.returns-clause-reads
returns-clause-reads g c = λ head bodies honest would.
    let disk = g.D.Disk in
    gate_moments disk.moment disk.images_since (disk.images c.args.disk.now) c.args.disk.now c.write_synced.new.disk
    c.args.self.now.start c.args.self.now.len head bodies (c.write_synced.ensures.any_moment honest) would

pub returns-clause-opened : goal.returns-clause-opened
returns-clause-opened g c =
    let disk = g.D.Disk in
    on_ok c.write_synced.result c.write_synced.ensures.written (λ written head bodies honest would.
    let w = written honest in
    gate_opened c.args.self.now.start c.args.self.now.len head bodies (disk.seen c.args.disk.now) (disk.seen c.write_synced.new.disk)
    would w.torn w.held)
