use Rattle.std.specs.Prelude.{◌≡◌, ℕ, List, Some, option_map, length, slice_get, refl}
use Rattle.std.proofs.Common.{arith, ap, sym, ◌∙◌, rules}
use Rattle.std.proofs.lemmas.List.{length-map}
use Rattle.std.proofs.lemmas.Option.{slice_get_read, slice_get-map}
use Rattle.table_model.specs.inner.Cells.{JobCells, states}
use Rattle.table_bindings.specs.inner.LabelNumbers.{job_offers}
use Rattle.table_runs.proofs.OffersList.{none_passes, one_more_fails, one_passes}
use Rattle.table_runs.proofs.rows.offers.offers_in_jobs.Goals as goal

state_there : (jobs : List JobCells) (j : ℕ) (job : JobCells) → slice_get jobs j ≡ Some job → slice_get (states jobs) j ≡ Some job.state
state_there jobs j job at = slice_get-map (λ (y : JobCells). y.state) jobs j ∙ ap (option_map (λ (y : JobCells). y.state)) at

pub returns-then-offers_in_job : goal.returns-then-offers_in_job
returns-then-offers_in_job c =
    let jobs = c.args.jobs.now in
    let j = c.loop-j.j in
    let job = c.index-jobs-j.result in
    sym (one_passes (job_offers c.args.numbers.now c.args.number) (states jobs) j job.state
    (state_there jobs j job (slice_get_read jobs (length jobs) j job refl (omega arith) c.index-jobs-j.is)) (search rules))

pub loop-j-preserved : goal.loop-j-preserved
loop-j-preserved c =
    let jobs = c.args.jobs.now in
    let j = c.loop-j.j in
    let job = c.index-jobs-j.result in
    one_more_fails (job_offers c.args.numbers.now c.args.number) (states jobs) j job.state
    (state_there jobs j job (slice_get_read jobs (length jobs) j job refl (omega arith) c.index-jobs-j.is)) (search rules) c.loop-j.invariant

pub returns : goal.returns
returns c =
    let jobs = c.args.jobs.now in
    sym (none_passes (job_offers c.args.numbers.now c.args.number) (states jobs)
    (λ i x lt at. c.loop-j.invariant i x (omega (arith, lt, length-map jobs (λ (y : JobCells). y.state))) at))
