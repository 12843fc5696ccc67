use Rattle.std.proofs.Common.{arith, ap, ◌∙◌, sym}
use Rattle.std.specs.Prelude.{length, slice_index, not, nat_eq}
use Rattle.run_marks.proofs.Rows.{past_row}
use Rattle.run_marks.proofs.marks.RunBitmap.new.Goals as goal

pub invariant_of-result : goal.invariant_of-result
invariant_of-result c =
    let none = ap (length) c.new.ensures.items in
    let no_tops = ap (length) c.new-2.ensures.items in
    record {
      marks = (λ v.
          past_row c.new-2.result.items v (omega (arith, no_tops)) ∙ sym (ap (λ xs. not (nat_eq (slice_index xs v) 0)) c.new.ensures.items));
      places = omega (arith, none);
      few = omega (arith, none);
      few_tops = omega (arith, no_tops);
    }

pub returns : goal.returns
returns c = λ i. let none = ap (length) c.new.ensures.items in past_row c.new.result.items i (omega (arith, none))
