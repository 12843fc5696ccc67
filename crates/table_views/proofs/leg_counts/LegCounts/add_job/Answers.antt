use Rattle.std.proofs.Common.{◌≡◌, ◌∙◌, ◌<◌, ◌∷◌, ◌++◌, [], length, map, take, ap, arith, rules}
use Rattle.std.proofs.lemmas.List.{take_all}
use Rattle.table_views.specs.LegCounting.{leg_counts}
use Rattle.table_views.proofs.SoFar.{mapped_more}
use Rattle.table_views.proofs.leg_counts.LegCounts.add_job.Goals as goal

pub loop-leg-preserved : goal.loop-leg-preserved
loop-leg-preserved c = λ legs is.
    let all = c.legs-legs.result.now in
    let i = c.loop-leg.leg-index in
    let leg = c.leg-item.result in
    let below : i < length all = omega (arith, c.loop-leg-test.true) in
    let so_far = legs ++ map (λ l. l.phase) (take i all) in
    let same : c.leg.inside.phase ≡ leg.phase = search rules in
    c.add.ensures so_far (c.loop-leg.invariant legs is)
    ∙ ap (λ phase. leg_counts (so_far ++ phase ∷ [])) same
    ∙ ap leg_counts (mapped_more legs all i leg below c.leg-item.is (λ l. l.phase))

pub returns : goal.returns
returns c = λ legs is.
    let all = c.legs-legs.result.now in
    c.loop-leg.invariant legs is
    ∙ ap (λ ls. leg_counts (legs ++ map (λ l. l.phase) ls)) (take_all c.loop-leg.leg-index all (omega (arith, c.loop-leg-test.false)))
    ∙ ap (λ ls. leg_counts (legs ++ map (λ l. l.phase) ls)) c.legs-legs.ensures
