use Rattle.act_disk.proofs.SyncLemmas.{both_at_ok, synced_only, sync_passed}
use Rattle.act_disk.proofs.file.FileDiskDisk.sync.Goals as goal

pub returns-clause-stable : goal.returns-clause-stable
returns-clause-stable g c =
    let file = g.F.SystemFile in
    let old = file.calls c.args.self.now.file in
    let new = file.calls c.sync_whole-outcome.new.file in
    both_at_ok c.sync_whole-outcome.result c.counted.result c.counted.ensures.same c.sync_whole-outcome.ensures.ok
    c.sync_whole-outcome.ensures.live
    (λ noted live _. synced_only file.left file.held g.met.F.SystemFile.held_is_left old new noted (c.args.self.now.sound live))

pub returns-clause-time : goal.returns-clause-time
returns-clause-time g c =
    let file = g.F.SystemFile in
    λ _. sync_passed file.left file.held c.sync_whole-outcome.result (file.calls c.args.self.now.file)
    (file.calls c.sync_whole-outcome.new.file) c.sync_whole-outcome.ensures.ok c.sync_whole-outcome.ensures.err
