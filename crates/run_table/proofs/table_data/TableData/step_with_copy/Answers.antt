use Rattle.run_table.proofs.Copied.{no_claim}
use Rattle.run_table.proofs.table_data.TableData.step_with_copy.Goals as goal

pub step_then_copy-requires-clause-other : goal.step_then_copy-requires-clause-other
step_then_copy-requires-clause-other c = no_claim c.args.command.now c.in_default.not-Claim
