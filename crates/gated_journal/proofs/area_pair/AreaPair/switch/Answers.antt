use Rattle.std.proofs.Common.{length}
use Rattle.gated_journal.proofs.Composed.{both_ok}
use Rattle.gated_journal.proofs.Moves.{switch_begins, switch_moments, switch_done}
use Rattle.gated_journal.proofs.area_pair.AreaPair.switch.Goals as goal

pub returns-in_err-write_synced-clause-any_moment : goal.returns-in_err-write_synced-clause-any_moment
returns-in_err-write_synced-clause-any_moment g c = λ head next bodies others honest each completes.
    let disk = g.D.Disk in
    switch_begins c.args.self.now.len c.args.self.now.side head bodies disk.moment disk.images_since disk.images c.args.disk.now next others
    c.other_area-start.result.start c.args.at c.other_area-start.ensures.start c.requires.after_gate c.write_synced.new.disk
    (length c.args.bytes.now) c.requires.fits (c.write_synced.ensures.any_moment honest) each

pub returns-clause-any_moment : goal.returns-clause-any_moment
returns-clause-any_moment g c = λ head next bodies others honest each completes.
    let disk = g.D.Disk in
    let d0 = c.args.disk.now in
    let d1 = c.write_synced.new.disk in
    let first = c.write_synced.ensures in
    switch_moments c.args.self.now.len c.args.self.now.side head bodies disk.moment disk.images_since disk.images d0 next others
    c.other_area-start.result.start c.args.at c.other_area-start.ensures.start c.requires.after_gate c.args.bytes.now (disk.seen d0)
    (disk.seen d1) c.requires.fits (g.met.D.Disk.seen_is_image d0 honest) (c.in_ok-write_synced.ensures.written honest) each completes
    d1 c.write_synced-2.new.disk (first.any_moment honest) (c.write_synced-2.ensures.any_moment (first.honest.1 honest))
    (c.in_ok-write_synced.ensures.stable honest)

pub returns-clause-switched : goal.returns-clause-switched
returns-clause-switched g c =
    let disk = g.D.Disk in
    let d0 = c.args.disk.now in
    let d1 = c.write_synced.new.disk in
    let d2 = c.write_synced-2.new.disk in
    let still = c.write_synced.ensures.honest.1 in
    both_ok c.write_synced-2.result c.write_synced-2.ensures.written c.write_synced-2.ensures.stable
    (λ written stable head next bodies others honest each completes.
    switch_done c.args.self.now.len c.args.self.now.side head bodies disk.moment disk.images_since disk.images d0 next others
    c.other_area-start.result.start c.args.at c.other_area-start.ensures.start c.requires.after_gate c.args.bytes.now (disk.seen d0)
    (disk.seen d1) c.requires.fits (g.met.D.Disk.seen_is_image d0 honest) (c.in_ok-write_synced.ensures.written honest) each completes
    (disk.seen d2) (disk.images d2) (written (still honest)) (stable (still honest)))
