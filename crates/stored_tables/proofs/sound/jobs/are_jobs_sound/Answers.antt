use Rattle.std.proofs.Common.{◌≡◌, ℕ, arith, false, true, rules}
use Rattle.std.proofs.lemmas.Bool.Decides.{Decides-like}
use Rattle.table_model.specs.inner.Cells.{JobCells}
use Rattle.stored_tables.specs.inner.OneByOne.{JobIsSound}
use Rattle.table_model.specs.Runs.{JobState}
use Rattle.table_model.proofs.OneAfterAnother.{each_mapped, each_unmapped, none_yet, one_passed, passed, stopped_at}
use Rattle.stored_tables.proofs.sound.jobs.are_jobs_sound.Goals as goal

pub loop-j-init : goal.loop-j-init
loop-j-init c = none_yet (λ (k : ℕ) (x : JobCells). JobIsSound c.args.runs.now c.args.r k x.state) c.args.jobs.now

pub returns-then-not-is_job_sound : goal.returns-then-not-is_job_sound
returns-then-not-is_job_sound c =
    let sound = λ (k : ℕ) (x : JobState). JobIsSound c.args.runs.now c.args.r k x in
    let fails : c.is_job_sound.result ≡ false = search rules in
    Decides-like false (each_mapped sound (λ (x : JobCells). x.state) c.args.jobs.now)
    (each_unmapped sound (λ (x : JobCells). x.state) c.args.jobs.now)
    (stopped_at (λ (k : ℕ) (x : JobCells). sound k x.state) c.args.jobs.now c.loop-j.j c.index-jobs-j.result c.is_job_sound.result
    (omega arith) c.index-jobs-j.is c.is_job_sound.ensures fails)

pub loop-j-preserved : goal.loop-j-preserved
loop-j-preserved c =
    one_passed (λ (k : ℕ) (x : JobCells). JobIsSound c.args.runs.now c.args.r k x.state) c.args.jobs.now c.loop-j.j
    c.index-jobs-j.result c.loop-j.invariant (omega arith) c.index-jobs-j.is (c.is_job_sound.ensures.0 (search rules))

pub returns : goal.returns
returns c =
    let sound = λ (k : ℕ) (x : JobState). JobIsSound c.args.runs.now c.args.r k x in
    Decides-like true (each_mapped sound (λ (x : JobCells). x.state) c.args.jobs.now)
    (each_unmapped sound (λ (x : JobCells). x.state) c.args.jobs.now)
    (passed (λ (k : ℕ) (x : JobCells). sound k x.state) c.args.jobs.now c.loop-j.j c.loop-j.invariant (omega arith))
