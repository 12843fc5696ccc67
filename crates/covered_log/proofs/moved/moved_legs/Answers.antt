use Rattle.std.proofs.Common.{◌≡◌, ◌∙◌, ◌<◌, ℕ, List, ◌++◌, length, get_or, ap, sym, arith}
use Rattle.std.proofs.lemmas.List.{get_or-map, length-map}
use Rattle.table_model.specs.Runs.{JobState, LegState}
use Rattle.table_model.specs.inner.Cells.{JobCells, states}
use Rattle.table_views.proofs.Placing.{one_more}
use Rattle.table_views.specs.declared.told_legs.LegNews.{LegNews}
use Rattle.covered_log.specs.Standings.{job_site, moved_of_job}
use Rattle.covered_log.proofs.moved.moved_legs.Goals as goal

pub loop-j-preserved : goal.loop-j-preserved
loop-j-preserved c =
    let jobs = c.jobs-jobs.result.now in
    let j = c.loop-j.j in
    let job = c.index-jobs-j.result in
    let within : j < length jobs = omega (arith, c.loop-j-test.true) in
    let lt : j < length (states jobs) = omega (arith, within, length-map jobs (λ (x : JobCells). x.state)) in
    let is : get_or (states jobs) j job.state ≡ job.state =
    get_or-map (λ (x : JobCells). x.state) jobs j job job.state within ∙ ap (λ (x : JobCells). x.state) (sym c.index-jobs-j.is) in
    let of : List LegState → List LegNews =
    λ legs. moved_of_job c.args.look.now.names.now c.args.look.now.table.now c.args.told.now c.args.run.now (job_site c.args.r j) legs in
    let f : ℕ × JobState → List LegNews =
    λ x. moved_of_job c.args.look.now.names.now c.args.look.now.table.now c.args.told.now c.args.run.now (job_site c.args.r x.0) x.1.legs in
    c.in_ok-push_moved_of_job.ensures
    ∙ ap (λ (legs : List LegState). c.loop-j.moved.items ++ of legs) c.legs-legs.ensures
    ∙ ap (λ (zs : List LegNews). zs ++ f (j, job.state)) c.loop-j.invariant ∙ sym (one_more f j (states jobs) job.state lt is)
