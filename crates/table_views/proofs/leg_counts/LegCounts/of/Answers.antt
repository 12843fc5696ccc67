use Rattle.std.proofs.Common.{◌∙◌, ◌<◌, ◌≤◌, [], List, length, take, ap, arith}
use Rattle.std.proofs.lemmas.List.{take_all}
use Rattle.std.specs.List.{flat_map}
use Rattle.table_model.specs.Runs.{RunState}
use Rattle.table_model.specs.declared.phases.LegPhase.{LegPhase}
use Rattle.table_views.specs.LegCounting.{leg_counts, leg_phases, phases_of}
use Rattle.table_views.proofs.SoFar.{joined_more}
use Rattle.table_views.proofs.leg_counts.LegCounts.of.Goals as goal

pub loop-run-preserved : goal.loop-run-preserved
loop-run-preserved c =
    let all = c.args.runs.now in
    let i = c.loop-run.run-index in
    let below : i < length all = omega (arith, c.loop-run-test.true) in
    let none : List LegPhase = [] in
    c.add_run.ensures (leg_phases (take i all)) c.loop-run.invariant
    ∙ ap leg_counts (joined_more none all i c.run-item.result below c.run-item.is (λ (run : RunState). flat_map phases_of run.jobs))

pub returns : goal.returns
returns c =
    let all = c.args.runs.now in
    let past : length all ≤ c.loop-run.run-index = omega (arith, c.loop-run-test.false) in
    c.loop-run.invariant ∙ ap (λ rs. leg_counts (leg_phases rs)) (take_all c.loop-run.run-index all past)
