use Rattle.std.specs.Prelude.{◌≡◌}
use Rattle.std.proofs.Common.{rules, sym}
use Rattle.table_model.specs.declared.phases.RunPhase.TheVariants as run
use Rattle.table_runs.proofs.FirstRules.{no_run_there, run_ended, run_has_ended, run_may_end, run_may_start, run_started}
use Rattle.table_runs.proofs.OneHolder.{run_ends}
use Rattle.table_runs.proofs.runs.Runs.move_run.Goals as goal

pub start_run-requires-clause-may : goal.start_run-requires-clause-may
start_run-requires-clause-may c =
    let phase : c.in-Some.run'.now.phase ≡ run.Waiting = search rules in
    run_may_start c.args.self.now c.args.r c.in-Some.run'.now c.requires.first (sym c.in-Some.ensures.run) phase

pub end_run-requires : goal.end_run-requires
end_run-requires c =
    let phase : c.in-Some.run'.now.phase ≡ run.Live = search rules in
    run_ends c.args.self.now c.args.r c.in-Some.run'.now c.requires.sound (sym c.in-Some.ensures.run) phase
    (run_may_end c.args.self.now c.args.r c.in-Some.run'.now c.requires.first (sym c.in-Some.ensures.run) phase)

pub returns-in-Waiting : goal.returns-in-Waiting
returns-in-Waiting c =
    let phase : c.in-Some.run'.now.phase ≡ run.Waiting = search rules in
    run_started c.args.self.now c.start_run.new.self c.args.r c.in-Some.run'.now (sym c.in-Some.ensures.run) phase c.start_run.ensures

pub returns-in-Live : goal.returns-in-Live
returns-in-Live c =
    let phase : c.in-Some.run'.now.phase ≡ run.Live = search rules in
    run_ended c.args.self.now c.end_run.new.self c.args.r c.in-Some.run'.now (sym c.in-Some.ensures.run) phase c.end_run.ensures

pub returns-in-Ended : goal.returns-in-Ended
returns-in-Ended c =
    let phase : c.in-Some.run'.now.phase ≡ run.Ended = search rules in
    run_has_ended c.args.self.now c.args.self.now c.args.r c.in-Some.run'.now (sym c.in-Some.ensures.run) phase

pub returns-in_default : goal.returns-in_default
returns-in_default c = no_run_there c.args.self.now c.args.self.now c.args.r (sym c.in_default.ensures.run)
