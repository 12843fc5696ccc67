use Rattle.std.proofs.Common.{◌+◌, ◌++◌, ◌∷◌, [], map, cond, drop, sym, ap, ◌∙◌}
use Rattle.std.proofs.lemmas.List.{map_push}
use Rattle.matrix_expand.specs.inner.Numbered.{new_objects}
use Rattle.matrix_expand.proofs.Steps.{pushed, new_more}
use Rattle.matrix_expand.proofs.expansion.new_combinations.Goals as goal
use Rattle.matrix_expand.proofs.expansion.new_combinations.Goals.{then-not-agrees_with_some+in_ok-push, else-not-agrees_with_some}

pub loop-include-preserved : goal.loop-include-preserved
loop-include-preserved c =
    let ps = c.args.includes.now in
    let kept = c.args.kept.now in
    let i = c.loop-include.include-index in
    let p = c.include-item.result in
    let more = new_more ps kept i p c.loop-include-test.true c.include-item.is in
    let rest = new_objects (drop (i + 1) ps) kept in
    elim c.if-not-agrees_with_some.branch [
      | then-not-agrees_with_some+in_ok-push w ↦ rw w.added-is
          (pushed (map (λ c. c.now) c.loop-include.added.items) (map (λ c. c.now) w.push.new.self.items) (new_objects (drop i ps) kept) rest
          (new_objects ps kept) p.0
          (ap (map (λ c. c.now)) w.in_ok-push.ensures.items ∙ map_push (λ c. c.now) c.loop-include.added.items w.object.result
          ∙ ap (λ o. map (λ c. c.now) c.loop-include.added.items ++ o ∷ []) w.object.ensures)
          (more ∙ ap (λ b. cond b rest (p.0 ∷ rest)) (sym w.if-not-agrees_with_some.ensures))
          c.loop-include.invariant)
      | else-not-agrees_with_some w ↦ rw w.added-is
          (ap (λ os. map (λ c. c.now) c.loop-include.added.items ++ os)
          (sym (more ∙ ap (λ b. cond b rest (p.0 ∷ rest)) (sym w.if-not-agrees_with_some.ensures))) ∙ c.loop-include.invariant)
    ]
