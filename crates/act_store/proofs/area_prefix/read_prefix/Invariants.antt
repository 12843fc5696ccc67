use Rattle.std.proofs.Common.{◌≡◌, ◌-◌, ◌≤◌, vec_len}
use Rattle.definitions.specs.Disk.{SameImages}
use Rattle.gated_journal.specs.Reading.{OnlyRead}
use Rattle.act_store.specs.AreaPrefix.{IsPrefixOf, IsShort}
use Rattle.act_store.proofs.area_prefix.read_prefix.Given as goal

abbrev pub invariant-loop-area : goal.invariant-loop-area
invariant-loop-area g l =
    let disk = g.D.Disk in record {
      prefix : disk.honest l.disk → IsPrefixOf l.area.start l.bytes.items (disk.seen l.fn.disk);
      within : vec_len l.bytes ≤ l.area.len;
      short : IsShort l.bytes.items;
      images : disk.honest l.disk → SameImages (disk.images l.fn.disk) (disk.images l.disk);
      only_read : OnlyRead disk.honest disk.seen disk.size disk.moment disk.images disk.images_since l.fn.disk l.disk;
      faults : disk.fault_count l.disk ≡ disk.fault_count l.fn.disk;
    }

abbrev pub decreases-loop-area : goal.decreases-loop-area
decreases-loop-area g l = l.area.len - vec_len l.bytes
