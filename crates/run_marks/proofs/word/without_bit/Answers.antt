use Rattle.std.proofs.Common.{w64, ap, bit_and, ◌-◌, ◌*◌, ◌^◌, ◌%◌}
use Rattle.std.proofs.lemmas.Nat.Bits.{bit_at_clear_same, bit_at_clear_other}
use Rattle.run_marks.proofs.Words.{has_not_if, same_if}
use Rattle.run_marks.proofs.word.without_bit.Goals as goal

pub returns : goal.returns
returns c = record {
  clear = has_not_if _ _ (bit_at_clear_same w64 c.args.word c.args.k c.requires);
  zero = (λ none. ap (λ w. bit_and w (18446744073709551615 - 1 * 2 ^ c.args.k % 18446744073709551616)) none);
  others = (λ i within other. same_if _ _ i (bit_at_clear_other w64 c.args.word c.args.k c.requires i within other));
}
