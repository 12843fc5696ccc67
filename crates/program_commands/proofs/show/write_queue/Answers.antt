use Rattle.std.proofs.Common.{◌≡◌}
use Rattle.table_views.specs.QueueLines.{queue_lines}
use Rattle.program_commands.proofs.Writing.{memory_alone, none_written, stopped, whole_written}
use Rattle.program_commands.proofs.show.write_queue.Goals as goal

pub returns-in_err-text : goal.returns-in_err-text
returns-in_err-text g c =
    let lines = queue_lines c.args.form c.args.table.now in
    stopped _ _ lines _ c.in_err-text.field-0.0 c.from_residual.ensures.1 (memory_alone c.in_err-text.field-0.0 lines c.in_err-text.ensures)
    (none_written (g.W.Write.contents c.args.writer.now) lines)

pub returns : goal.returns
returns g c =
    let same : c.as_bytes.result.now ≡ queue_lines c.args.form c.args.table.now =
    cc (c.as_bytes.ensures.value, c.as_str.ensures, c.in_ok-text.ensures)
    in
    whole_written _ _ c.as_bytes.result.now _ c.write_whole.result same c.write_whole.ensures.all c.write_whole.ensures.prefix
    c.write_whole.ensures.err
