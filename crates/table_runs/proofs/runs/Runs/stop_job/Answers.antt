use Rattle.std.proofs.Common.{false, true, ◌∙◌}
use Rattle.table_runs.proofs.Stopping.{job_stays, job_stops, job_told}
use Rattle.table_runs.proofs.runs.Runs.stop_job.Goals as goal

pub returns-then-is_to_stop : goal.returns-then-is_to_stop
returns-then-is_to_stop c = record {
  stopped = c.stop_each_leg.ensures.stopped
      ∙ job_stops c.args.self.now c.args.r c.args.j
      (job_told c.args.self.now c.args.r c.args.j c.is_to_stop.result true c.is_to_stop.ensures c.if-is_to_stop.true);
  sound = c.stop_each_leg.ensures.sound;
}

pub returns-else-is_to_stop : goal.returns-else-is_to_stop
returns-else-is_to_stop c = record {
  stopped = job_stays c.args.self.now c.args.r c.args.j
      (job_told c.args.self.now c.args.r c.args.j c.is_to_stop.result false c.is_to_stop.ensures c.if-is_to_stop.false);
  sound = c.requires;
}
