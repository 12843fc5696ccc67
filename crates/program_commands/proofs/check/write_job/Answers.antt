use Rattle.std.proofs.Common.{ap, subst, ◌∙◌}
use Rattle.program_commands.specs.Check.{leg_lines}
use Rattle.program_commands.specs.inner.Writes.{Writes}
use Rattle.program_commands.proofs.Checks.{lines_of_job}
use Rattle.program_commands.proofs.check.write_job.Goals as goal

pub returns : goal.returns
returns g c =
    let legs = c.in_ok-legs.legs in
    subst (λ lines. Writes (g.W.Write.contents c.args.writer.now) (g.W.Write.contents c.write_legs.new.writer) lines c.write_legs.result)
    (ap (λ id. leg_lines id legs) c.as_str.ensures ∙ lines_of_job c.args.job.now legs c.in_ok-legs.ensures) c.write_legs.ensures
