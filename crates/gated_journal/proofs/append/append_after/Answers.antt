use Rattle.gated_journal.proofs.Composed.{written_after, opened_after, composed, on_ok}
use Rattle.gated_journal.proofs.append.append_after.Goals as goal

pub returns-in_err-write_synced-clause-any_moment : goal.returns-in_err-write_synced-clause-any_moment
returns-in_err-write_synced-clause-any_moment g c = λ honest.
    let disk = g.D.Disk in
    written_after disk.moment disk.images_since disk.images c.args.gate c.args.bytes.now c.args.disk.now c.write_synced.new.disk
    (c.write_synced.ensures.any_moment honest)

pub returns-clause-any_moment : goal.returns-clause-any_moment
returns-clause-any_moment g c = λ honest.
    let disk = g.D.Disk in
    let d0 = c.args.disk.now in
    let d1 = c.write_synced.new.disk in
    let one = c.write_synced.ensures in
    opened_after disk.moment disk.images_since disk.images c.args.gate c.args.bytes.now d0 d1 c.write_synced-2.new.disk (disk.seen d0)
    (disk.seen d1)
    (one.any_moment honest) (c.write_synced-2.ensures.any_moment (one.honest.1 honest)) (g.met.D.Disk.seen_is_image d0 honest)
    (c.in_ok-write_synced.ensures.written honest) (c.in_ok-write_synced.ensures.stable honest)

pub returns-clause-whole : goal.returns-clause-whole
returns-clause-whole g c =
    let disk = g.D.Disk in
    let one = c.write_synced.ensures in
    on_ok c.write_synced-2.result c.write_synced-2.ensures.written (λ written honest.
    composed c.args.gate c.args.bytes.now (disk.seen c.args.disk.now) (disk.seen c.write_synced.new.disk)
    (disk.seen c.write_synced-2.new.disk)
    (c.in_ok-write_synced.ensures.written honest) (written (one.honest.1 honest)).torn)
