use Rattle.std.proofs.Common.{◌≡◌, inr, refl}
use Rattle.workflow_lint.specs.Lines.{finding_lines}
use Rattle.program_commands.proofs.Writing.{none_written, stopped, whole_written}
use Rattle.program_commands.proofs.lint.write_lines.Goals as goal

pub returns-in_err-text : goal.returns-in_err-text
returns-in_err-text g c =
    let lines = finding_lines c.args.found.now in
    stopped _ _ lines _ _ c.from_residual.ensures.1 (inr refl)
    (none_written (g.W.Write.contents c.args.writer.now) lines)

pub returns : goal.returns
returns g c =
    let same : c.as_bytes.result.now ≡ finding_lines c.args.found.now = cc (c.as_bytes.ensures.value, c.in_ok-text.ensures) in
    whole_written _ _ c.as_bytes.result.now _ c.write_whole.result same c.write_whole.ensures.all c.write_whole.ensures.prefix
    c.write_whole.ensures.err
