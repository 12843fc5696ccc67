use Rattle.std.proofs.Common.{◌<◌, length, take, arith}
use Rattle.std.specs.List.{flat_map}
use Rattle.table_model.specs.Runs.{placed, leg_sites_of_run}
use Rattle.table_views.specs.TableMetrics.{asked_at}
use Rattle.table_views.proofs.AskedLists.{run_asked}
use Rattle.table_views.proofs.ready_counts.ready_counts.Goals as goal

pub loop-r-preserved : goal.loop-r-preserved
loop-r-preserved c =
    let runs = c.args.runs.now in
    let r = c.loop-r.r in
    let lt : r < length runs = omega (arith, c.loop-r-test.true, c.len-r-end.ensures.len) in
    run_asked runs r c.count_run.new.counts lt
    (c.in_ok-count_run.ensures (asked_at runs (flat_map leg_sites_of_run (placed (take r runs)))) c.loop-r.invariant)
