use Rattle.std.proofs.Common.{arith}
use Rattle.matrix_expand.proofs.Rising.{IsBelow-more, IsAbove-more, found_at, found_nowhere}
use Rattle.matrix_expand.proofs.axis.index_of.Goals as goal

pub loop-low-preserved-in-Less : goal.loop-low-preserved-in-Less
loop-low-preserved-in-Less c = record {
  in_order = omega arith;
  within = omega arith;
  below = IsBelow-more c.args.axes.now c.args.name.now _ c.index-axes-middle.result c.requires (omega arith) c.index-axes-middle.is
      c.in-Less.ensures;
  above = c.loop-low.invariant.above;
}

pub returns-in-Equal-clause-value : goal.returns-in-Equal-clause-value
returns-in-Equal-clause-value c =
    found_at c.args.axes.now c.args.name.now _ c.index-axes-middle.result c.requires (omega arith) c.index-axes-middle.is c.in-Equal.ensures

pub loop-low-preserved : goal.loop-low-preserved
loop-low-preserved c = record {
  in_order = omega arith;
  within = omega arith;
  below = c.loop-low.invariant.below;
  above = IsAbove-more c.args.axes.now c.args.name.now _ c.index-axes-middle.result c.requires (omega arith) c.index-axes-middle.is
      c.in-Greater.ensures;
}

pub returns-clause-value : goal.returns-clause-value
returns-clause-value c =
    found_nowhere c.args.axes.now c.args.name.now c.loop-low.low c.loop-low.high (omega arith) c.loop-low.invariant.below
    c.loop-low.invariant.above
