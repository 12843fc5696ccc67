-- Bounds on the sites of legs.
use Rattle.std.specs.Prelude.{◌<◌, ◌^◌}
use Rattle.table_model.specs.declared.sites.LegSite.{LegSite}

-- a leg's number is one that a job may have
abbrev pub IsWithin : LegSite → Type 0
IsWithin p = p.leg < 2 ^ 63
