use Rattle.std.proofs.Common.{rules}
use Rattle.run_table.proofs.JoinedLegs.{all_joined}
use Rattle.table_model.specs.ViewText.{leg_text}
use Rattle.run_table.proofs.view_text.push_leg_words.Goals as goal

pub returns : goal.returns
returns c =
    all_joined (λ l. leg_text l.phase) c.args.legs.now c.in-Some.others.now c.in-Some.first.now c.loop-leg.leg-index _ _ _
    c.in-Some.ensures.cases.0 c.loop-leg-test.false (search rules) c.loop-leg.invariant
