use Rattle.std.proofs.Common.{◌∙◌}
use Rattle.run_table.proofs.ClaimedCells.{claimed_cells}
use Rattle.run_table.proofs.view_text.was_claimed.Goals as goal

pub returns : goal.returns
returns c = c.any_claimed.ensures ∙ claimed_cells c.args.jobs.now
