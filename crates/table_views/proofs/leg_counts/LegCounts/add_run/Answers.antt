use Rattle.std.proofs.Common.{◌≡◌, ◌∙◌, ◌<◌, ◌≤◌, ◌∷◌, ◌++◌, [], List, length, take, refl, ap, arith}
use Rattle.std.proofs.lemmas.List.{take_all}
use Rattle.std.specs.List.{flat_map}
use Rattle.table_model.specs.inner.Cells.{JobCells, states}
use Rattle.table_views.specs.LegCounting.{leg_counts, phases_of}
use Rattle.table_views.proofs.SoFar.{joined_more}
use Rattle.table_views.proofs.leg_counts.LegCounts.add_run.Goals as goal

phases_of_states : (jobs : List JobCells) → flat_map (λ (j : JobCells). phases_of j.state) jobs ≡ flat_map phases_of (states jobs)
phases_of_states [] = refl
phases_of_states (j ∷ jobs) = ap (λ zs. phases_of j.state ++ zs) (phases_of_states jobs)

pub loop-job-preserved : goal.loop-job-preserved
loop-job-preserved c = λ legs is.
    let all = c.jobs-jobs.result.now in
    let i = c.loop-job.job-index in
    let below : i < length all = omega (arith, c.loop-job-test.true) in
    c.add_job.ensures (legs ++ flat_map (λ (j : JobCells). phases_of j.state) (take i all)) (c.loop-job.invariant legs is)
    ∙ ap leg_counts (joined_more legs all i c.job-item.result below c.job-item.is (λ (j : JobCells). phases_of j.state))

pub returns : goal.returns
returns c = λ legs is.
    let all = c.jobs-jobs.result.now in
    let past : length all ≤ c.loop-job.job-index = omega (arith, c.loop-job-test.false) in
    c.loop-job.invariant legs is
    ∙ ap (λ js. leg_counts (legs ++ flat_map (λ (j : JobCells). phases_of j.state) js)) (take_all c.loop-job.job-index all past)
    ∙ ap (λ zs. leg_counts (legs ++ zs)) (phases_of_states all ∙ ap (flat_map phases_of) c.jobs-jobs.ensures)
