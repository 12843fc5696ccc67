use Rattle.std.specs.Prelude.{is_some}
use Rattle.std.proofs.Common.{ap, sym, ◌∙◌}
use Rattle.table_model.proofs.NeedsSettled.{result_read}
use Rattle.table_model.proofs.run.is_finished_at.Goals as goal

pub returns-in-Some : goal.returns-in-Some
returns-in-Some c =
    let lookup = c.in-Some.ensures.lookup in
    c.is_finished.ensures ∙ sym (ap is_some (result_read c.args.jobs.now c.args.index c.in-Some.job.now lookup.3.0 lookup.1))
