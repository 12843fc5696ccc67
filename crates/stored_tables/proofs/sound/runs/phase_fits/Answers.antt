use Rattle.std.proofs.Common.{◌≡◌, false, rules}
use Rattle.stored_tables.proofs.PhasesTested.{ended_fits, waiting_fits}
use Rattle.stored_tables.proofs.sound.runs.phase_fits.Goals as goal

pub returns-then-not-is_stopping : goal.returns-then-not-is_stopping
returns-then-not-is_stopping c =
    let x = c.args.run.now in
    let still : x.stopping ≡ false = search rules in
    waiting_fits x.phase x.stopping c.has_blocked_jobs.result x.jobs (search rules) still c.has_blocked_jobs.ensures

pub returns-in-Ended : goal.returns-in-Ended
returns-in-Ended c =
    let x = c.args.run.now in
    ended_fits x.phase x.stopping c.has_finished_jobs.result x.jobs (search rules) c.has_finished_jobs.ensures
