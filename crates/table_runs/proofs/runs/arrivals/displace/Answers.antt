use Rattle.std.proofs.Common.{arith}
use Rattle.table_runs.proofs.HoldersThere.{there_if_waits, within_there}
use Rattle.table_runs.proofs.runs.arrivals.displace.Goals as goal

pub mark-requires : goal.mark-requires
mark-requires c =
    let runs = c.args.rows.now.runs in
    let h = c.in-Some.holder in
    omega (arith, within_there runs h (there_if_waits runs h (c.requires.waits h c.in-Some.is)), c.requires.covers, c.run.ensures)
