use Rattle.std.proofs.Common.{arith}
use Rattle.run_marks.proofs.Words.{least_left_is_small, nothing_left, lowest_left}
use Rattle.run_marks.proofs.word.first_bit.Goals as goal

pub returns-then-rest-eq0-clause-first : goal.returns-then-rest-eq0-clause-first
returns-then-rest-eq0-clause-first c = nothing_left c.args.word c.args.from (omega arith) c.requires c.if-rest-eq0.true

pub returns-else-rest-eq0 : goal.returns-else-rest-eq0
returns-else-rest-eq0 c = record {
  first = lowest_left c.args.word c.args.from (omega arith) c.requires (omega (arith, c.if-rest-eq0.false));
  small = least_left_is_small c.args.word c.args.from (omega arith) c.requires (omega (arith, c.if-rest-eq0.false));
}
