-- Where a stored site is among the runs of a table. Only proofs need it: a kept lease names its run by id.
use Rattle.std.specs.Prelude.{ℕ, ◌-◌}
use Rattle.table_model.specs.Runs.{leg_site}
use Rattle.table_model.specs.declared.sites.LegSite.{LegSite}
use Rattle.stored_tables.specs.declared.parts.StoredSite.{StoredSite}

-- the leg's site in the runs, if the runs with ids through this one are forgotten and its own is not
abbrev pub site_in_runs : ℕ → StoredSite → LegSite
site_in_runs through stored = leg_site (stored.run - through - 1) stored.job stored.leg
