use Rattle.std.proofs.Common.{arith}
use Rattle.table_runs.proofs.StoredSizes.{size_kept}
use Rattle.table_runs.proofs.rows.sizes.size_added.Goals as goal

pub returns-in_default : goal.returns-in_default
returns-in_default c =
    let same = size_kept c.args.change.now c.args.run.now c.in_default.not-Open in
    omega (arith, same)
