use Rattle.std.proofs.Common.{◌≡◌, ℕ, ◌++◌, map, take}
use Rattle.std.specs.List.{All}
use Rattle.table_model.specs.Runs.{placed, leg_site, LegState}
use Rattle.table_views.specs.inner.Placed.{IsWithin}
use Rattle.table_views.proofs.sites.push_legs_of_job.Given as goal

-- the legs so far have been added
abbrev pub invariant-loop-l : goal.invariant-loop-l
invariant-loop-l l = record {
  added : l.sites.items
      ≡ l.initial.sites.items ++ map (λ (x : ℕ × LegState). leg_site l.r l.j x.0) (placed (take l.l l.job.state.legs));
  within : All IsWithin l.sites.items;
}
