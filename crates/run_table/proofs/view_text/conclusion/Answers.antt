use Rattle.std.proofs.Common.{ap, ◌∙◌}
use Rattle.needs_graph.specs.Needs.{conclusion_of}
use Rattle.table_model.proofs.Doors.{results_of_cells}
use Rattle.run_table.proofs.view_text.conclusion.Goals as goal

pub returns : goal.returns
returns c = c.conclude.ensures ∙ ap conclusion_of (results_of_cells c.args.jobs.now)
