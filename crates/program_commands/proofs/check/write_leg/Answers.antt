use Rattle.std.proofs.Common.{◌≡◌}
use Rattle.program_commands.specs.Check.{leg_line}
use Rattle.program_commands.proofs.Writing.{memory_alone, none_written, stopped, whole_written}
use Rattle.program_commands.proofs.check.write_leg.Goals as goal

pub returns-in_err-line : goal.returns-in_err-line
returns-in_err-line g c =
    let line = leg_line c.args.job.now c.args.number c.args.combo.now in
    stopped _ _ line _ c.in_err-line.field-0.0 c.from_residual.ensures.1 (memory_alone c.in_err-line.field-0.0 line c.in_err-line.ensures)
    (none_written (g.W.Write.contents c.args.writer.now) line)

pub returns : goal.returns
returns g c =
    let same : c.as_bytes.result.now ≡ leg_line c.args.job.now c.args.number c.args.combo.now =
    cc (c.as_bytes.ensures.value, c.in_ok-line.ensures) in
    whole_written _ _ c.as_bytes.result.now _ c.write_whole.result same c.write_whole.ensures.all c.write_whole.ensures.prefix
    c.write_whole.ensures.err
