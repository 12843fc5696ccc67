use Rattle.std.specs.Prelude.{true, false}
use Rattle.std.proofs.Common.{refl, rules, sym, ◌∙◌}
use Rattle.table_runs.proofs.FirstRules.{opens_where}
use Rattle.table_runs.proofs.JobFinishes.{finishes_nobody, opening_within}
use Rattle.table_runs.proofs.runs.Runs.decide.Goals as goal

pub returns-then-may_run : goal.returns-then-may_run
returns-then-may_run c = c.open_job.ensures ∙ sym (opens_where c.args.self.now c.args.r c.args.j (search rules))

pub settle_job-requires : goal.settle_job-requires
settle_job-requires c = record {
  within = opening_within c.args.self.now c.args.r c.args.j c.requires.sound c.requires.first;
  nobody = finishes_nobody c.args.self.now c.args.r c.args.j true _ c.requires.sound c.requires.first (search rules) (search rules) refl;
}

pub settle_job-requires-else-stopping : goal.settle_job-requires-else-stopping
settle_job-requires-else-stopping c = record {
  within = opening_within c.args.self.now c.args.r c.args.j c.requires.sound c.requires.first;
  nobody = finishes_nobody c.args.self.now c.args.r c.args.j false _ c.requires.sound c.requires.first (search rules) (search rules) refl;
}
