use Rattle.std.proofs.Common.{◌+◌, length, subst, arith}
use Rattle.definitions.specs.Disk.{IsWritten}
use Rattle.gated_journal.specs.TwoAreas.{start_of, other}
use Rattle.gated_journal.proofs.Composed.{on_ok}
use Rattle.gated_journal.proofs.Filled.{holds_more}
use Rattle.gated_journal.proofs.Moves.{put_moments}
use Rattle.gated_journal.proofs.TwoAreas.{within}
use Rattle.gated_journal.proofs.area_pair.AreaPair.put.Goals as goal

pub returns-clause-any_moment : goal.returns-clause-any_moment
returns-clause-any_moment g c = λ head bodies honest each.
    let disk = g.D.Disk in
    let len = c.args.self.now.len in
    put_moments len c.args.self.now.side head bodies disk.moment disk.images_since disk.images c.args.disk.now
    c.put.new.disk c.other_area.result.start c.args.at (length c.args.bytes.now) c.other_area.ensures.start c.requires.after_gate
    c.requires.fits (c.put.ensures.any_moment honest) each

pub returns-clause-grown : goal.returns-clause-grown
returns-clause-grown g c =
    let disk = g.D.Disk in
    let len = c.args.self.now.len in
    let side = c.args.self.now.side in
    let old = disk.seen c.args.disk.now in
    let new = disk.seen c.put.new.disk in
    on_ok c.put.result c.put.ensures.written (λ written prefix honest place long held.
    holds_more (start_of len (other side)) c.args.at prefix c.args.bytes.now old new place
    (omega (arith, within len (other side) old long, c.requires.fits)) held
    (subst (λ k. IsWritten (k + c.args.at) c.args.bytes.now old new) c.other_area.ensures.start (written honest)))
