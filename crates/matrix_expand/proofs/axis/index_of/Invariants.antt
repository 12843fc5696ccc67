use Rattle.std.proofs.Common.{◌≤◌, ◌-◌, length}
use Rattle.matrix_expand.proofs.Rising.{IsBelow, IsAbove}
use Rattle.matrix_expand.proofs.axis.index_of.Given as goal

-- the name is at no index below low and at none from high on
abbrev pub invariant-loop-low : goal.invariant-loop-low
invariant-loop-low l = record {
  in_order : l.low ≤ l.high;
  within : l.high ≤ length l.axes;
  below : IsBelow l.axes l.name l.low;
  above : IsAbove l.axes l.name l.high;
}

abbrev pub decreases-loop-low : goal.decreases-loop-low
decreases-loop-low l = l.high - l.low
