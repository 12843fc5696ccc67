use Rattle.std.proofs.Common.{ap, sym, ◌∙◌}
use Rattle.table_model.specs.Runs.{finished_result}
use Rattle.table_model.proofs.NeedsSettled.{result_read}
use Rattle.table_model.proofs.direct_needs.result_at.Goals as goal

pub returns-in-Some : goal.returns-in-Some
returns-in-Some c =
    let lookup = c.in-Some.ensures.lookup in
    c.result.ensures ∙ ap finished_result c.phase.ensures
    ∙ sym (result_read c.args.jobs.now c.args.index c.in-Some.job.now lookup.3.0 lookup.1)
