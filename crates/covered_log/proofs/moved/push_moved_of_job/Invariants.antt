use Rattle.std.proofs.Common.{◌≡◌, ℕ, ◌++◌, take}
use Rattle.std.specs.List.{flat_map}
use Rattle.table_model.specs.Runs.{LegState, leg_site, placed}
use Rattle.covered_log.specs.Standings.{moved_leg}
use Rattle.covered_log.proofs.moved.push_moved_of_job.Given as goal

-- the legs so far have been added, if they have moved
abbrev pub invariant-loop-l : goal.invariant-loop-l
invariant-loop-l l =
    l.moved.items ≡ l.initial.moved.items
    ++ flat_map (λ (x : ℕ × LegState). moved_leg l.look.names.now l.look.table.now l.told l.run (leg_site l.job.run l.job.job x.0) x.1)
    (placed (take l.l l.legs))
