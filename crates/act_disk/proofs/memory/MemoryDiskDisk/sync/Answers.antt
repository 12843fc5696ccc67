use Rattle.std.proofs.Common.{refl, subst, length}
use Rattle.definitions.specs.Disk.{Elapses}
use Rattle.act_disk.specs.Record.{Record, MayLeave, MayHaveLeft}
use Rattle.act_disk.specs.declared.call.Call.TheVariants.{Sync}
use Rattle.act_disk.proofs.RecordLemmas.{elapses}
use Rattle.act_disk.proofs.memory.MemoryDiskDisk.sync.Goals as goal

pub returns-clause-time : goal.returns-clause-time
returns-clause-time c =
    let old : Record =
    record {
      first = c.self.inside.first.items;
      calls = c.self.inside.calls.items;
      faults = c.self.inside.faults;
      made = c.self.inside.tally;
    } in
    let new : Record =
    record {
      first = c.self.inside.first.items;
      calls = c.note-outcome.new.calls.items;
      faults = c.counted.new.faults;
      made = c.count.new.self;
    } in
    subst (λ (m : Record). Elapses (length m.calls) (length new.calls) (MayHaveLeft m) (MayHaveLeft new) (MayLeave new)) c.self.view_is
    (elapses old new refl c.note-outcome.result Sync c.note-outcome.ensures.ok c.note-outcome.ensures.err)
