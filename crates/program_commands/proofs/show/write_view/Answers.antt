use Rattle.std.proofs.Common.{◌≡◌}
use Rattle.table_views.specs.RunLines.{run_line}
use Rattle.program_commands.proofs.Writing.{memory_alone, none_written, stopped, whole_written}
use Rattle.program_commands.proofs.show.write_view.Goals as goal

pub returns-in_err-text : goal.returns-in_err-text
returns-in_err-text g c =
    let line = run_line c.args.form c.args.view.now in
    stopped _ _ line _ c.in_err-text.field-0.0 c.from_residual.ensures.1 (memory_alone c.in_err-text.field-0.0 line c.in_err-text.ensures)
    (none_written (g.W.Write.contents c.args.writer.now) line)

pub returns : goal.returns
returns g c =
    let same : c.as_bytes.result.now ≡ run_line c.args.form c.args.view.now = cc (c.as_bytes.ensures.value, c.in_ok-text.ensures) in
    whole_written _ _ c.as_bytes.result.now _ c.write_whole.result same c.write_whole.ensures.all c.write_whole.ensures.prefix
    c.write_whole.ensures.err
