use Rattle.std.proofs.Common.{◌≡◌, List, ℕ, ap, arith, length, sym, subst, ◌∙◌}
use Rattle.std.specs.Prelude.{sum_by}
use Rattle.std.proofs.lemmas.List.{length-map}
use Rattle.run_plan.specs.PlanOf.{faults_of, plan_of}
use Rattle.run_plan.specs.declared.planned.PlannedJob.{PlannedJob}
use Rattle.run_plan.proofs.FewJobs.{few_jobs}
use Rattle.definitions.specs.SmallText.{Admitted}
use Rattle.table_model.specs.inner.Cells.{JobCells, rooms}
use Rattle.table_model.specs.Runs.{JobState}
use Rattle.table_runs.specs.StoredSizes.{job_size, leg_counts, texts_size}
use Rattle.table_runs.proofs.StoredSizes.{AreFew, few_rooms}
use Rattle.table_runs.proofs.rows.sizes.run_size.Goals as goal

pub jobs_size-requires-clause-rooms : goal.jobs_size-requires-clause-rooms
jobs_size-requires-clause-rooms c = subst AreFew (sym c.planned_jobs.ensures.rooms) (few_rooms c.args.run.now.admitted.body)

pub jobs_size-requires-clause-few : goal.jobs_size-requires-clause-few
jobs_size-requires-clause-few c =
    let jobs = c.planned_jobs.result.now in
    let plan = plan_of c.args.run.now.admitted.body in
    let few = few_jobs c.args.run.now.admitted.body (sym (ap (λ (a : Admitted). faults_of a.body) c.prepared.ensures) ∙ c.texts_size.ensures.faultless) in
    omega (
      arith,
      few,
      sym (length-map jobs (λ (x : JobCells). x.room)) ∙ ap (λ (ns : List ℕ). length ns) c.planned_jobs.ensures.rooms
          ∙ length-map plan (λ (p : PlannedJob). length p.legs),
    )

pub returns-clause-size : goal.returns-clause-size
returns-clause-size c =
    let texts : c.texts_size.result ≡ texts_size c.args.run.now.admitted =
    c.texts_size.ensures.size ∙ ap (λ (a : Admitted). texts_size a) c.prepared.ensures in
    let jobs : c.jobs_size.result ≡ sum_by job_size (leg_counts c.args.run.now.jobs) =
    c.jobs_size.ensures.size ∙ ap (λ (js : List JobState). sum_by job_size (leg_counts js)) c.planned_jobs.ensures.jobs in
    omega (arith, texts, jobs)

pub returns-clause-small : goal.returns-clause-small
returns-clause-small c =
    let jobs = c.planned_jobs.result.now in
    let plan = plan_of c.args.run.now.admitted.body in
    let few = few_jobs c.args.run.now.admitted.body (sym (ap (λ (a : Admitted). faults_of a.body) c.prepared.ensures) ∙ c.texts_size.ensures.faultless) in
    record {
      texts = omega (
        arith,
        c.texts_size.ensures.size ∙ ap (λ (a : Admitted). texts_size a) c.prepared.ensures,
        c.texts_size.ensures.most,
      );
      jobs = omega (
        arith,
        few,
        sym (length-map jobs (λ (x : JobCells). x.room)) ∙ ap (λ (ns : List ℕ). length ns) c.planned_jobs.ensures.rooms
            ∙ length-map plan (λ (p : PlannedJob). length p.legs),
        sym (length-map jobs (λ (x : JobCells). x.state)) ∙ ap (λ (js : List JobState). length js) c.planned_jobs.ensures.jobs,
      );
      legs = subst (λ (js : List JobState). AreFew (leg_counts js)) c.planned_jobs.ensures.jobs c.jobs_size.ensures.legs;
    }
