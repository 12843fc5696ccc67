use Rattle.needs_graph.proofs.JobSetSteps.{with_job_it, with_job_others}
use Rattle.needs_graph.proofs.job_set.insert.Goals as goal

pub returns-clause-it : goal.returns-clause-it
returns-clause-it c = with_job_it c.args.words.now c.args.job c.requires

pub returns-clause-others : goal.returns-clause-others
returns-clause-others c = with_job_others c.args.words.now c.args.job c.requires
