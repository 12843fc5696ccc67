use Rattle.std.specs.Prelude.{filter_map}
use Rattle.std.proofs.Common.{ap, sym, ◌∙◌}
use Rattle.needs_graph.specs.Needs.{gathered}
use Rattle.table_model.specs.Runs.{placed, with_job}
use Rattle.table_model.specs.Settling.{leg_end, finished_as}
use Rattle.table_model.proofs.Transitions.{job_closed}
use Rattle.table_runs.proofs.JobFinishes.{closes_nobody}
use Rattle.table_runs.proofs.runs.Runs.close.Goals as goal

pub returns-in-Some : goal.returns-in-Some
returns-in-Some c =
    job_closed c.args.self.now c.settle_job.new.self c.args.r c.args.j c.in-Some.job.now.state (sym c.in-Some.ensures)
    (c.settle_job.ensures ∙ ap (λ s. with_job c.args.r c.args.j (finished_as s) c.args.self.now)
    (c.result-settled.ensures
    ∙ ap (λ legs. gathered (filter_map (leg_end c.args.self.now c.args.r c.args.j) (placed legs))) c.legs.ensures))

pub settle_job-requires-clause-nobody : goal.settle_job-requires-clause-nobody
settle_job-requires-clause-nobody c =
    closes_nobody c.args.self.now c.args.r c.args.j c.in-Some.job.now.state c.result-settled.result c.requires.sound c.requires.first
    (sym c.in-Some.ensures)
    (sym (c.result-settled.ensures
    ∙ ap (λ legs. gathered (filter_map (leg_end c.args.self.now c.args.r c.args.j) (placed legs))) c.legs.ensures))
