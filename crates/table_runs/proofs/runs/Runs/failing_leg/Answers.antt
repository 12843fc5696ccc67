use Rattle.std.proofs.Common.{ap, ◌∙◌}
use Rattle.table_runs.proofs.JobResult.{fails_at}
use Rattle.settling_laws.proofs.PlacedLegs.{first_passing, first_passing_in_job}
use Rattle.table_runs.proofs.runs.Runs.failing_leg.Goals as goal

pub loop-site-init : goal.loop-site-init
loop-site-init c =
    ap (first_passing (fails_at c.args.self.now) (λ p. p.leg)) (c.into_iter-site-iterator.ensures.into_iter_gives ∙ c.of_job-site-items.ensures)
    ∙ first_passing_in_job (fails_at c.args.self.now) (λ p. p.leg) c.args.r c.args.j c.args.legs.now
