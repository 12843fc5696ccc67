use Rattle.std.proofs.Common.{arith, ap, ◌∙◌}
use Rattle.run_marks.specs.Bits.{row_has}
use Rattle.run_marks.proofs.Rows.{same_rows}
use Rattle.run_marks.proofs.Tops.{tops_grown}
use Rattle.std.specs.Prelude.{refl}
use Rattle.run_marks.proofs.marks.RunBitmap.reserve_up_to.Goals as goal

pub invariant_of-self : goal.invariant_of-self
invariant_of-self c =
    let of = c.self.invariant in
    let g = c.grow.ensures in
    record {
      marks = tops_grown _ _ _ _ of (λ u. refl) g.same;
      places = omega (arith, of.places, g.keeps);
      few = of.few;
      few_tops = omega (arith, of.few_tops, g.most, c.ranges.bound, c.div_ceil-words.ensures, c.div_ceil.ensures);
    }

pub invariant_of-self-2 : goal.invariant_of-self-2
invariant_of-self-2 c =
    let of = c.self.invariant in
    let g = c.grow.ensures in
    let h = c.grow-2.ensures in
    record {
      marks = tops_grown _ _ _ _ of h.same g.same;
      places = omega (arith, of.places, g.keeps, h.most, c.in_ok-grow.ensures.grown, c.div_ceil.ensures);
      few = omega (arith, of.few, h.most, c.ranges.bound, c.div_ceil-words.ensures);
      few_tops = omega (arith, of.few_tops, g.most, c.ranges.bound, c.div_ceil-words.ensures, c.div_ceil.ensures);
    }

pub returns-clause-marks : goal.returns-clause-marks
returns-clause-marks c = λ i.
    same_rows c.self.inside.words.items c.grow-2.new.words.items c.grow-2.ensures.same i
    ∙ ap (λ xs. row_has xs i) c.self.view_is
