use Rattle.std.proofs.Common.{◌≡◌, ℕ, map, take}
use Rattle.table_model.specs.Runs.{placed, leg_site, LegState}
use Rattle.table_views.specs.RunViews.{leg_row}
use Rattle.table_views.proofs.one_run.leg_rows.Given as goal

-- the rows of the legs so far
abbrev pub invariant-loop-l : goal.invariant-loop-l
invariant-loop-l l = l.rows.items ≡ map (λ (x : ℕ × LegState). leg_row l.names l.table (leg_site l.r l.j x.0) x.1) (placed (take l.l l.legs))
