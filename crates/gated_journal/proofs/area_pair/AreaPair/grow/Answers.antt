use Rattle.gated_journal.proofs.Composed.{on_ok, three_ok}
use Rattle.gated_journal.proofs.Whole.{grow_moments, grow_done, whole_beside}
use Rattle.gated_journal.proofs.area_pair.AreaPair.grow.Goals as goal

pub returns-clause-any_moment : goal.returns-clause-any_moment
returns-clause-any_moment g c = λ gate head bodies body honest each place is short.
    let disk = g.D.Disk in
    grow_moments c.args.self.now.len c.args.self.now.side head bodies gate c.start.result c.args.at c.args.bytes.now body
    c.start.ensures.offset place is short c.requires.fits disk.moment disk.images_since disk.images c.args.disk.now
    c.append_after.new.disk each (c.append_after.ensures.any_moment honest)

pub returns-clause-grown : goal.returns-clause-grown
returns-clause-grown g c =
    let disk = g.D.Disk in
    let d0 = c.args.disk.now in
    let d1 = c.append_after.new.disk in
    let called = c.append_after.ensures in
    three_ok c.append_after.result called.whole called.gate called.stable
    (λ whole holds only gate head bodies body honest each place is short.
    grow_done c.args.self.now.len c.args.self.now.side head bodies gate c.start.result c.args.at c.args.bytes.now body
    c.start.ensures.offset place is short c.requires.fits (disk.images d1) (disk.seen d0) (disk.seen d1)
    (each (disk.seen d0) (g.met.D.Disk.seen_is_image d0 honest)) (only honest) (whole honest) (holds honest))

pub returns-clause-beside : goal.returns-clause-beside
returns-clause-beside g c =
    let disk = g.D.Disk in
    on_ok c.append_after.result c.append_after.ensures.whole (λ whole from put honest long below held.
    whole_beside c.args.self.now.len c.args.self.now.side c.start.result c.args.at from c.args.bytes.now put
    (disk.seen c.args.disk.now) (disk.seen c.append_after.new.disk) c.start.ensures.offset long below c.requires.fits (whole honest) held)
