use Rattle.std.proofs.Common.{arith}
use Rattle.run_marks.proofs.Words.{lowest, lowest_is_small}
use Rattle.run_marks.proofs.word.lowest_bit.Goals as goal

pub returns : goal.returns
returns c = record {
  first = lowest c.args.word (omega arith) (omega (arith, c.requires));
  small = lowest_is_small c.args.word (omega arith) (omega (arith, c.requires));
}
