use Rattle.std.proofs.Common.{w64}
use Rattle.std.proofs.lemmas.Nat.Bits.{bit_at_set_same, bit_at_set_other}
use Rattle.run_marks.proofs.Words.{has_if, same_if}
use Rattle.run_marks.proofs.word.with_bit.Goals as goal

pub returns : goal.returns
returns c = record {
  set = has_if _ _ (bit_at_set_same w64 c.args.word c.args.k c.requires);
  others = (λ i other. same_if _ _ i (bit_at_set_other w64 c.args.word c.args.k c.requires i other));
}
