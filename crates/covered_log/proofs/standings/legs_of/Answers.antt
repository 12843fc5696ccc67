use Rattle.std.proofs.Common.{◌≡◌, ◌∙◌, ◌≤◌, List, [], ◌∷◌, length, map, refl, ap, arith}
use Rattle.std.proofs.lemmas.List.{take_all}
use Rattle.table_model.specs.Runs.{JobState, LegState}
use Rattle.table_model.specs.inner.Cells.{JobCells, states}
use Rattle.covered_log.proofs.standings.legs_of.Goals as goal

legs_of_states : (jobs : List JobCells) → map (λ (x : JobCells). x.state.legs) jobs ≡ map (λ (j : JobState). j.legs) (states jobs)
legs_of_states [] = refl
legs_of_states (x ∷ jobs) = ap (λ (zs : List (List LegState)). x.state.legs ∷ zs) (legs_of_states jobs)

pub returns : goal.returns
returns c =
    let jobs = c.args.jobs.now in
    let past : length jobs ≤ c.loop-job.job-index = omega (arith, c.loop-job-test.false) in
    c.loop-job.invariant ∙ ap (map (λ (x : JobCells). x.state.legs)) (take_all c.loop-job.job-index jobs past) ∙ legs_of_states jobs
