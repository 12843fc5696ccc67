use Rattle.std.proofs.Common.{◌≡◌, ◌<◌, ◌≤◌, List, arith, length, ◌∙◌, ap, rules}
use Rattle.table_model.specs.inner.Cells.{JobCells}
use Rattle.table_model.specs.Runs.{LegState}
use Rattle.table_runs.proofs.StoredSizes.{as_many_counts, count_at, counts_of, few_room, sized_all, sized_more, sized_none}
use Rattle.table_runs.proofs.rows.sizes.jobs_size.Goals as goal

pub loop-job-init : goal.loop-job-init
loop-job-init c = sized_none (counts_of c.args.jobs.now)

pub loop-job-preserved : goal.loop-job-preserved
loop-job-preserved c =
    let jobs = c.args.jobs.now in
    let i = c.loop-job.job-index in
    let x = c.job-item.result in
    let below : i < length jobs = search rules in
    let count = length c.planned_legs.result.now in
    let legs : count ≡ length x.state.legs = ap (λ (ls : List LegState). length ls) c.planned_legs.ensures.legs in
    let room : x.room ≤ 256 = omega (arith, ap (λ (y : JobCells). y.room) c.job-item.is, few_room jobs i x below c.requires.rooms) in
    sized_more c.loop-job.size count (counts_of jobs) i (omega (arith, below, as_many_counts jobs))
    (legs ∙ ap (λ (y : JobCells). length y.state.legs) c.job-item.is ∙ count_at jobs i x below)
    (omega (arith, c.planned_legs.ensures.most, room)) c.loop-job.invariant

pub returns-clause-size : goal.returns-clause-size
returns-clause-size c =
    let jobs = c.args.jobs.now in
    (sized_all c.loop-job.size (counts_of jobs) c.loop-job.job-index (omega (arith, as_many_counts jobs)) c.loop-job.invariant).0

pub returns-clause-legs : goal.returns-clause-legs
returns-clause-legs c =
    let jobs = c.args.jobs.now in
    (sized_all c.loop-job.size (counts_of jobs) c.loop-job.job-index (omega (arith, as_many_counts jobs)) c.loop-job.invariant).1

pub returns-clause-most : goal.returns-clause-most
returns-clause-most c = omega (arith, c.loop-job.invariant.most, c.requires.few)
