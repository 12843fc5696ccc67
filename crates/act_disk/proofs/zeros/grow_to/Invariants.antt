use Rattle.std.proofs.Common.{◌≡◌, ◌↔◌, ◌-◌, ◌≤◌, ◌++◌, max, replicate}
use Rattle.act_disk.proofs.ZeroLemmas.{Grows}
use Rattle.act_disk.proofs.zeros.grow_to.Given as goal

abbrev pub invariant-loop-zeros : goal.invariant-loop-zeros
invariant-loop-zeros g l =
    let disk = g.D.Disk in
    let old = l.fn.disk in
    let now = l.disk in record {
      low : disk.size old ≤ disk.size now;
      high : disk.size now ≤ max (disk.size old) l.len;
      faults : disk.fault_count now ≡ disk.fault_count old;
      honest : disk.honest now ↔ disk.honest old;
      grows : disk.honest old → Grows disk.moment disk.images_since disk.images (disk.size old) (l.len - disk.size old) old now;
      zeros : disk.honest old → disk.seen now ≡ disk.seen old ++ replicate (disk.size now - disk.size old) 0;
    }

abbrev pub decreases-loop-zeros : goal.decreases-loop-zeros
decreases-loop-zeros g l = l.len - g.D.Disk.size l.disk
