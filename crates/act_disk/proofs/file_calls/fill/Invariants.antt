use Rattle.std.proofs.Common.{◌≡◌, ◌-◌, ◌≤◌, length, take, drop, IsTrue}
use Rattle.act_disk.specs.inner.FileCalls.{Reads}
use Rattle.act_disk.specs.SystemCalls.{is_sound, contents, IsHonest}
use Rattle.act_disk.proofs.file_calls.fill.Given as goal

abbrev pub invariant-loop-count : goal.invariant-loop-count
invariant-loop-count g l =
    let held = g.F.SystemFile.held in
    let old = g.F.SystemFile.calls l.fn.file in
    let now = g.F.SystemFile.calls l.file in record {
      within : l.count ≤ length l.buf;
      reads : Reads g.F.SystemFile.left held old now;
      bytes : IsTrue (is_sound old) → IsHonest held now → take l.count l.buf ≡ take l.count (drop l.at (contents held old));
    }

abbrev pub decreases-loop-count : goal.decreases-loop-count
decreases-loop-count g l = length l.initial.buf - l.count
