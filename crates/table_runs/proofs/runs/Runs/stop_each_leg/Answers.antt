use Rattle.std.proofs.Common.{◌≡◌, ◌≤◌, ℕ, List, length, Some, Option, arith, ap, ◌∙◌}
use Rattle.std.specs.Option.{option_map_or}
use Rattle.table_model.specs.Runs.{job_at, with_leg, JobState, RunState}
use Rattle.table_model.specs.Stops.{stopped}
use Rattle.table_runs.proofs.Stopping.{all_the_legs, none_of_the_legs, one_more_leg}
use Rattle.table_runs.proofs.runs.Runs.stop_each_leg.Goals as goal

pub loop-l-init : goal.loop-l-init
loop-l-init c = record { stopped = none_of_the_legs c.args.self.now c.args.r c.args.j; sound = c.requires }

pub loop-l-preserved : goal.loop-l-preserved
loop-l-preserved c = record {
  stopped = c.stop_one.ensures.stopped
      ∙ ap (λ p. with_leg p stopped c.loop-l.self) c.new.ensures
      ∙ ap (with_leg (record { run = c.args.r; job = c.args.j; leg = c.loop-l.l }) stopped) c.loop-l.invariant.stopped
      ∙ one_more_leg c.args.self.now c.args.r c.args.j c.loop-l.l;
  sound = c.stop_one.ensures.sound;
}

count_there : (n : ℕ) (o : Option JobState) (y : JobState) → n ≡ option_map_or (λ (job : JobState). length job.legs) o 0 → o ≡ Some y → length y.legs ≤ n
count_there n o y is at = omega (arith, is, ap (λ o. option_map_or (λ (job : JobState). length job.legs) o 0) at)

pub returns : goal.returns
returns c =
    let runs = c.args.self.now in
    let count : List RunState → ℕ = λ rs. option_map_or (λ (job : JobState). length job.legs) (job_at rs c.args.r c.args.j) 0 in
    let many : c.leg_count-l-end.result ≡ count runs = c.leg_count-l-end.ensures ∙ ap count c.self.view_is in
    let past : (y : JobState) → job_at runs c.args.r c.args.j ≡ Some y → length y.legs ≤ c.loop-l.l =
    λ y at. let n = count_there c.leg_count-l-end.result (job_at runs c.args.r c.args.j) y many at in omega arith in
    record {
      stopped = c.loop-l.invariant.stopped ∙ all_the_legs runs c.args.r c.args.j c.loop-l.l past;
      sound = c.loop-l.invariant.sound;
    }
