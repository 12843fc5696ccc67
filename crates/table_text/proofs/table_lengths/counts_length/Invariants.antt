use Rattle.std.proofs.Common.{◌≡◌, ◌≤◌, ◌*◌, take}
use Rattle.std.specs.Prelude.{sum_by}
use Rattle.table_text.specs.TableLengths.{count_length}
use Rattle.table_text.proofs.table_lengths.counts_length.Given as goal

-- the counts so far are counted
abbrev pub invariant-loop-count : goal.invariant-loop-count
invariant-loop-count l = record {
  length : l.total ≡ sum_by count_length (take l.count-index l.counts);
  most : l.total ≤ 8589934602 * l.count-index;
}
