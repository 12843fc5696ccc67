use Rattle.std.proofs.Common.{◌∙◌}
use Rattle.gated_journal.proofs.Composed.{both_ok}
use Rattle.gated_journal.proofs.Laying.{each_made, laid}
use Rattle.gated_journal.proofs.made.make_areas.Goals as goal

pub returns-clause-made : goal.returns-clause-made
returns-clause-made g c =
    let disk = g.D.Disk in
    let len = c.args.len in
    let prefix = c.args.prefix.now in
    let d0 = c.args.disk.now in
    let d1 = c.write_at.new.self in
    let d2 = c.write_at-2.new.self in
    let d3 = c.write_synced.new.disk in
    let d4 = c.write_synced-2.new.disk in
    let opened = c.write_synced-2.ensures in
    both_ok c.write_synced-2.result opened.written opened.stable (λ written only head bodies honest is all.
    let honest1 = c.write_at.ensures.honest.1 honest in
    let honest2 = c.write_at-2.ensures.honest.1 honest1 in
    let honest3 = c.write_synced.ensures.honest.1 honest2 in
    each_made len prefix c.requires.long c.requires.fits c.requires.some (disk.seen d3) (disk.seen d4) (disk.images d4) head bodies
    (only honest3) is all
    (laid len prefix c.requires.long c.requires.fits c.requires.some (disk.seen d0) (disk.seen d1) (disk.seen d2) (disk.seen d3)
    (g.met.D.Disk.seen_length d0 honest ∙ c.requires.empty) (c.in_ok-write_at.ensures.written honest)
    (c.in_ok-write_at-2.ensures.written honest1) (c.in_ok-write_synced.ensures.written honest2))
    (written honest3))
