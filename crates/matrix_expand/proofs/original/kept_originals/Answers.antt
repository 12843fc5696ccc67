use Rattle.std.proofs.Common.{◌+◌, ◌-◌, not, ◌++◌, ◌∷◌, [], cond, sym, ap, ◌∙◌, arith, length-append}
use Rattle.matrix_expand.specs.inner.Numbered.{kept_from}
use Rattle.matrix_expand.proofs.Steps.{kept_more, pushed}
use Rattle.matrix_expand.proofs.original.kept_originals.Goals as goal
use Rattle.matrix_expand.proofs.original.kept_originals.Goals.{then-not-is_removed+else-len-eq-MAX_LEGS+in_ok-push, else-not-is_removed}

pub loop-number-preserved : goal.loop-number-preserved
loop-number-preserved c =
    let number = c.loop-number.number in
    let rest = kept_from c.args.excludes.now (number + 1) (c.args.count - (number + 1)) in
    let more = kept_more c.args.excludes.now number c.args.count c.loop-number-test.true in
    elim c.if-not-is_removed.branch [
      | then-not-is_removed+else-len-eq-MAX_LEGS+in_ok-push w ↦ record {
        few = rw (w.kept-is, w.in_ok-push.ensures.items)
            (omega (
              arith,
              length-append c.loop-number.kept.items (number ∷ []),
              c.loop-number.invariant.few,
              w.len.ensures,
              w.if-len-eq-MAX_LEGS.false,
            ));
        all = rw w.kept-is (pushed c.loop-number.kept.items w.push.new.self.items _ rest _ number w.in_ok-push.ensures.items
            (more ∙ ap (λ b. cond (not b) (number ∷ rest) rest) (sym w.if-not-is_removed.ensures)) c.loop-number.invariant.all);
      }
      | else-not-is_removed w ↦ record {
        few = rw w.kept-is c.loop-number.invariant.few;
        all = rw w.kept-is
            (ap (λ ks. c.loop-number.kept.items ++ ks)
            (sym (more ∙ ap (λ b. cond (not b) (number ∷ rest) rest) (sym w.if-not-is_removed.ensures))) ∙ c.loop-number.invariant.all);
      }
    ]
