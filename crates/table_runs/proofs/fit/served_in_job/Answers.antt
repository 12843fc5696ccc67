use Rattle.std.specs.List.{AllByRecursion}
use Rattle.std.proofs.Common.{ap, subst, sym, ◌∙◌}
use Rattle.table_model.specs.inner.PlacedLegs.{PlacedLeg}
use Rattle.table_model.specs.Runs.{JobState}
use Rattle.table_model.specs.inner.WithinRun.{served_in_job}
use Rattle.settling_laws.proofs.PlacedLegs.{IsInJob, all_in_job, first_passing, first_passing_in_job}
use Rattle.table_runs.proofs.Sought.{serves}
use Rattle.table_runs.proofs.fit.served_in_job.Goals as goal

pub loop-site-init : goal.loop-site-init
loop-site-init c =
    let labels = c.args.labels.now in
    let runs = c.args.runs.now in
    let job : JobState = c.args.job.now.state in
    let legs = c.planned_legs.result.now in
    let to_come = c.into_iter-site-iterator.ensures.into_iter_gives ∙ c.of_job-site-items.ensures in (
      ap (first_passing (serves labels runs) (λ p. p)) to_come
          ∙ first_passing_in_job (serves labels runs) (λ p. p) c.args.r c.args.j legs
          ∙ ap (λ ls. served_in_job labels runs c.args.r c.args.j (record job { legs = ls })) c.planned_legs.ensures.legs,
      subst (AllByRecursion (λ (x : PlacedLeg). IsInJob c.args.r c.args.j c.args.job.now.room x.site)) (sym to_come)
          (all_in_job c.args.r c.args.j c.args.job.now.room legs c.planned_legs.ensures.most),
    )
