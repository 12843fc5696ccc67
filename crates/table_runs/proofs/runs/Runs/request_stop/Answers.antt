use Rattle.std.proofs.Common.{List, ap, arith, subst, sym, ◌∙◌}
use Rattle.table_model.specs.Runs.{with_run, RunState}
use Rattle.table_model.specs.Sound.{RunsAreSound}
use Rattle.table_model.specs.Stops.{with_job_stopped}
use Rattle.table_runs.specs.inner.RowsKept.{RowState}
use Rattle.table_runs.proofs.Stopping.{all_stopped, jobs_counted, one_more_stopped, request_nobody, request_sound}
use Rattle.table_runs.proofs.runs.Runs.request_stop.Goals as goal

pub change_within-requires-clause-nobody : goal.change_within-requires-clause-nobody
change_within-requires-clause-nobody c = request_nobody c.args.self.now c.args.r c.requires.sound c.requires.live

pub loop-j-init : goal.loop-j-init
loop-j-init c = record {
  stopped = c.change_within.ensures;
  sound = subst (λ (xs : List RunState). RunsAreSound xs) (sym c.change_within.ensures)
      (request_sound c.args.self.now c.args.r c.requires.sound c.requires.live);
}

pub loop-j-preserved : goal.loop-j-preserved
loop-j-preserved c = record {
  stopped = c.stop_job.ensures.stopped
      ∙ ap (λ (xs : List RunState). with_run c.args.r (with_job_stopped c.loop-j.j) xs) c.loop-j.invariant.stopped
      ∙ one_more_stopped c.args.self.now c.args.r c.loop-j.j;
  sound = c.stop_job.ensures.sound;
}

pub returns : goal.returns
returns c =
    ap (λ (rows : RowState). rows.runs) c.refresh_offers.ensures
    ∙ c.self-2.view_is
    ∙ c.loop-j.invariant.stopped
    ∙ all_stopped c.args.self.now c.args.r c.loop-j.j
    (λ x at.
    jobs_counted c.args.self.now c.change_within.new.self c.self.inside.rows.runs c.args.r c.job_count-j-end.result c.loop-j.j x
    c.change_within.ensures c.self.view_is c.job_count-j-end.ensures (omega arith) at)
