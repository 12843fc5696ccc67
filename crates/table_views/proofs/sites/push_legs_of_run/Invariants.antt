use Rattle.std.proofs.Common.{◌≡◌, ◌++◌, take}
use Rattle.std.specs.List.{All, flat_map}
use Rattle.table_model.specs.inner.Cells.{states}
use Rattle.table_model.specs.Runs.{placed, leg_sites_of_job}
use Rattle.table_views.specs.inner.Placed.{IsWithin}
use Rattle.table_views.proofs.sites.push_legs_of_run.Given as goal

-- the legs of the jobs so far have been added
abbrev pub invariant-loop-j : goal.invariant-loop-j
invariant-loop-j l = record {
  added : l.sites.items ≡ l.initial.sites.items ++ flat_map (leg_sites_of_job l.r) (placed (take l.j (states l.jobs)));
  within : All IsWithin l.sites.items;
}
