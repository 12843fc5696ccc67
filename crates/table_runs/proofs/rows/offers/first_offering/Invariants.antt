use Rattle.std.proofs.Common.{◌≤◌, ◌<◌, ◌-◌, ◌^◌, IfSome}
use Rattle.table_runs.proofs.FirstOffering.{PassedUpTo}
use Rattle.table_runs.proofs.rows.offers.first_offering.Given as goal

-- the first run for the lists so far
abbrev pub invariant-loop-n : goal.invariant-loop-n
invariant-loop-n l =
    (l.number < 2 ^ 63) × IfSome l.first (λ s. l.from ≤ s) × PassedUpTo l.lists l.labels l.from l.number l.first

abbrev pub decreases-loop-n : goal.decreases-loop-n
decreases-loop-n l = 2 ^ 63 - l.number
