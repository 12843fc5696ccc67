use Rattle.std.proofs.Common.{◌≡◌, take}
use Rattle.std.specs.List.{All, flat_map}
use Rattle.table_model.specs.Runs.{placed, leg_sites_of_run}
use Rattle.table_views.specs.inner.Placed.{IsWithin}
use Rattle.table_views.proofs.sites.leg_sites.Given as goal

-- the legs of the runs so far have been added
abbrev pub invariant-loop-r : goal.invariant-loop-r
invariant-loop-r l = record {
  added : l.sites.items ≡ flat_map leg_sites_of_run (placed (take l.r l.all));
  within : All IsWithin l.sites.items;
}
