use Rattle.std.proofs.Common.{◌++◌}
use Rattle.std.proofs.KnownBytes.{Appends-trans}
use Rattle.program_commands.specs.Check.{leg_line, leg_lines}
use Rattle.program_commands.proofs.Checks.{leg_after}
use Rattle.program_commands.proofs.Writing.{more_written, past_part, stopped}
use Rattle.program_commands.proofs.check.write_legs.Goals as goal

pub loop-number-preserved : goal.loop-number-preserved
loop-number-preserved g c =
    let so_far = c.loop-number.invariant in
    let line = leg_line c.args.job.now c.loop-number.number c.in_ok-combo.combo in (
      so_far.0 ++ line,
      Appends-trans _ _ _ so_far.0 line so_far.1 c.in_ok-write_leg.ensures,
      past_part so_far.0 line _ _
          (leg_after c.args.job.now so_far.0 c.loop-number.number c.len-number-end.result c.args.legs.now c.in_ok-combo.combo
          c.loop-number-test.true c.len-number-end.ensures c.in_ok-combo.ensures so_far.2),
    )

pub returns-in_err-write_leg : goal.returns-in_err-write_leg
returns-in_err-write_leg g c =
    let so_far = c.loop-number.invariant in
    let e = c.in_err-write_leg.field-0.0 in
    stopped _ _ (leg_lines c.args.job.now c.args.legs.now) _ e c.from_residual-in_err-write_leg.ensures.1 c.in_err-write_leg.ensures.0
    (more_written _ _ _ so_far.0 _ _ _ so_far.1
    (leg_after c.args.job.now so_far.0 c.loop-number.number c.len-number-end.result c.args.legs.now c.in_ok-combo.combo
    c.loop-number-test.true c.len-number-end.ensures c.in_ok-combo.ensures so_far.2) c.in_err-write_leg.ensures.1)
