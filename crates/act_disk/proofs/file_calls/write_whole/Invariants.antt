use Rattle.std.proofs.Common.{◌-◌, ◌<◌, ◌≤◌, length}
use Rattle.act_disk.specs.inner.FileCalls.{Puts}
use Rattle.act_disk.proofs.file_calls.write_whole.Given as goal

abbrev pub invariant-loop-count : goal.invariant-loop-count
invariant-loop-count g l = record {
  within : l.count ≤ length l.bytes;
  some : 0 < length l.bytes → 0 < l.count;
  puts : Puts g.F.SystemFile.left g.F.SystemFile.held l.at l.bytes l.count (g.F.SystemFile.calls l.fn.file) (g.F.SystemFile.calls l.file);
}

abbrev pub decreases-loop-count : goal.decreases-loop-count
decreases-loop-count g l = length l.bytes - l.count
