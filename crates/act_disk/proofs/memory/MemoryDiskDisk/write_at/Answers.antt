use Rattle.std.proofs.Common.{refl, subst, length}
use Rattle.definitions.specs.Disk.{Torn, IsWritten, Follows, LeavesAny, Elapses}
use Rattle.act_disk.specs.Record.{Record, bytes_of, MayLeave, MayHaveLeft}
use Rattle.act_disk.specs.declared.call.Call.TheVariants.{Write}
use Rattle.act_disk.proofs.RecordLemmas.{carried, written, any, follows, elapses}
use Rattle.act_disk.proofs.memory.MemoryDiskDisk.write_at.Goals as goal

abbrev old : goal.After-counted → Record
old c = record {
  first = c.self.inside.first.items;
  calls = c.self.inside.calls.items;
  faults = c.self.inside.faults;
  made = c.self.inside.tally;
}

abbrev new : goal.After-counted → Record
new c = record {
  first = c.self.inside.first.items;
  calls = c.write_noted-outcome.new.calls.items;
  faults = c.counted.new.faults;
  made = c.count.new.self;
}

pub returns-clause-written : goal.returns-clause-written
returns-clause-written c =
    carried c.write_noted-outcome.result c.counted.result c.counted.ensures.same c.write_noted-outcome.ensures.calls
    (λ grown. subst (λ (m : Record). IsWritten c.args.at c.args.bytes.now (bytes_of m) (bytes_of (new c))) c.self.view_is
    (written (old c) (new c) refl c.args.at c.args.bytes.now grown))

pub returns-clause-images : goal.returns-clause-images
returns-clause-images c =
    subst (λ (m : Record). Follows (Torn c.args.at (length c.args.bytes.now)) (MayLeave m) (MayLeave (new c))) c.self.view_is
    (follows (old c)
    (new c) refl c.write_noted-outcome.result c.args.at c.args.bytes.now c.write_noted-outcome.ensures.calls
    c.write_noted-outcome.ensures.same_calls)

pub returns-clause-any : goal.returns-clause-any
returns-clause-any c =
    carried c.write_noted-outcome.result c.counted.result c.counted.ensures.same c.write_noted-outcome.ensures.calls
    (λ grown. subst (λ (m : Record). LeavesAny (Torn c.args.at (length c.args.bytes.now)) (MayLeave m) (MayLeave (new c))) c.self.view_is
    (any (old c) (new c) refl c.args.at c.args.bytes.now grown))

pub returns-clause-time : goal.returns-clause-time
returns-clause-time c =
    subst (λ (m : Record). Elapses (length m.calls) (length (new c).calls) (MayHaveLeft m) (MayHaveLeft (new c))
    (MayLeave (new c))) c.self.view_is
    (elapses (old c) (new c) refl c.write_noted-outcome.result
    (Write c.args.at c.args.bytes.now) c.write_noted-outcome.ensures.calls c.write_noted-outcome.ensures.same_calls)
