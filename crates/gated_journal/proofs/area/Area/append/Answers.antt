use Rattle.std.proofs.Common.{◌+◌}
use Rattle.definitions.specs.Disk.{From}
use Rattle.act_disk.proofs.Moments.{weakened}
use Rattle.gated_journal.specs.Appends.{Appends}
use Rattle.gated_journal.specs.OnDisk.{MayHaveGrown}
use Rattle.gated_journal.proofs.Areas.{may_have_grown, has_grown}
use Rattle.gated_journal.proofs.Composed.{both_ok}
use Rattle.gated_journal.proofs.area.Area.append.Goals as goal

pub returns-clause-reads : goal.returns-clause-reads
returns-clause-reads g c = λ head bodies body honest awaits.
    let disk = g.D.Disk in
    let start = c.args.self.now.start in
    let len = c.args.self.now.len in
    let images = disk.images c.args.disk.now in
    weakened disk.moment disk.images_since c.args.disk.now c.append_after.new.disk
    (From (Appends (start + c.args.at) c.args.bytes.now) images) (MayHaveGrown start len head bodies body)
    (c.append_after.ensures.any_moment honest)
    (may_have_grown start len c.args.at c.args.bytes.now images head bodies body c.requires.fits awaits)

pub returns-clause-grown : goal.returns-clause-grown
returns-clause-grown g c =
    let disk = g.D.Disk in
    let start = c.args.self.now.start in
    let len = c.args.self.now.len in
    let d0 = c.args.disk.now in
    both_ok c.append_after.result c.append_after.ensures.whole c.append_after.ensures.gate (λ whole gate head bodies body honest awaits.
    has_grown start len c.args.at c.args.bytes.now (disk.images d0) head bodies body c.requires.fits awaits
    (disk.seen d0) (disk.seen c.append_after.new.disk) (g.met.D.Disk.seen_is_image d0 honest) (whole honest) (gate honest))
