use Rattle.std.proofs.Common.{◌≡◌, ◌+◌, ◌++◌, ◌∷◌, ◌||◌, drop, refl, sym, ap, true, ◌∙◌}
use Rattle.std.proofs.lemmas.Bool.{or_right}
use Rattle.matrix_expand.specs.inner.Numbered.{wanted_of}
use Rattle.matrix_expand.proofs.Steps.{wanted_more, others_more, wanted_skips, others_found, pushed}
use Rattle.matrix_expand.proofs.pattern.Pattern.new.Goals as goal
use Rattle.matrix_expand.proofs.pattern.Pattern.new.Goals.{in-Some+in_ok-push-in-Some, in-None}

pub loop-name-preserved : goal.loop-name-preserved
loop-name-preserved c =
    let axes = c.args.axes.now in
    let items = c.as_slice-name-items.result.now in
    let i = c.loop-name.name-index in
    let item = c.loop-name-item.result in
    elim c.match-index_of.branch [
      | in-Some+in_ok-push-in-Some w ↦
          let more = wanted_more axes items i item c.loop-name-test.true c.loop-name-item.is w.in-Some.index w.index-axes-index.result
          w.in-Some.ensures.found w.index-axes-index.is w.in-Some.ensures.value in
          let others = others_more axes items i item c.loop-name-test.true c.loop-name-item.is w.in-Some.index w.index-axes-index.result
          w.in-Some.ensures.found w.index-axes-index.is w.in-Some.ensures.value in
          let made : w.new.result ≡ (w.index-axes-index.result.1, item.1) = w.new.ensures ∙ rw (w.again.ensures, w.choice.ensures) refl in
          record {
            wanted = rw w.wanted-is
                (pushed c.loop-name.wanted.items w.push.new.self.items _ _ _ w.new.result w.in_ok-push-in-Some.ensures.items
                (more ∙ ap (λ p. p ∷ wanted_of axes (drop (i + 1) items)) (sym made)) c.loop-name.invariant.wanted);
            others = rw w.has_other-is (ap (λ b. c.loop-name.has_other || b) (sym others) ∙ c.loop-name.invariant.others);
          }
      | in-None w ↦
          let skips = wanted_skips axes items i item c.loop-name-test.true c.loop-name-item.is w.in-None.ensures.value in
          let found = others_found axes items i item c.loop-name-test.true c.loop-name-item.is w.in-None.ensures.value in
          record {
            wanted = rw w.wanted-is (ap (λ ws. c.loop-name.wanted.items ++ ws) (sym skips) ∙ c.loop-name.invariant.wanted);
            others = rw w.has_other-is (sym (or_right c.loop-name.has_other true refl) ∙ ap (λ b. c.loop-name.has_other || b) (sym found)
                ∙ c.loop-name.invariant.others);
          }
    ]
