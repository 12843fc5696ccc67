use Rattle.table_runs.proofs.OneHolder.{run_starts}
use Rattle.table_runs.proofs.runs.Runs.start_run.Goals as goal

pub change_starting-requires : goal.change_starting-requires
change_starting-requires c = run_starts c.args.self.now c.args.r c.requires.sound c.requires.waits c.requires.may
