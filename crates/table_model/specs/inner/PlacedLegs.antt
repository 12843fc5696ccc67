-- The legs of a table with their sites, in the order of run, job and leg.
use Rattle.std.specs.Prelude.{ℕ, ◌+◌, ◌<◌, ◌^◌, List, ◌++◌, length, map, flat_map}
use Rattle.std.specs.List.{enumerate_from}
use Rattle.table_model.specs.inner.Cells.{JobCells, states}
use Rattle.table_model.specs.Runs.{placed, leg_site, LegState, JobState, RunState}
use Rattle.table_model.specs.declared.sites.LegSite.{LegSite}

pub record PlacedLeg : Type 0 where
  pub site : LegSite
  pub leg : LegState

abbrev pub placed_leg : ℕ → ℕ → ℕ × LegState → PlacedLeg
placed_leg r j l = record { site = leg_site r j l.0; leg = l.1 }

abbrev pub placed_legs_of_job : ℕ → ℕ × JobState → List PlacedLeg
placed_legs_of_job r j = map (placed_leg r j.0) (placed j.1.legs)

abbrev pub placed_legs_of_run : ℕ × RunState → List PlacedLeg
placed_legs_of_run r = flat_map (placed_legs_of_job r.0) (placed r.1.jobs)

-- all legs of a table
abbrev pub placed_legs : List RunState → List PlacedLeg
placed_legs runs = flat_map placed_legs_of_run (placed runs)

-- ---- from a site on

-- these legs of a job, then the later jobs of its run, then the later runs; `at.leg`, `job` and `run` are the indices of the first of each
abbrev pub to_come : LegSite → List LegState → ℕ → List JobCells → ℕ → List RunState → List PlacedLeg
to_come at legs job jobs run runs =
    map (placed_leg at.run at.job) (enumerate_from at.leg legs)
    ++ (flat_map (placed_legs_of_job at.run) (enumerate_from job (states jobs)) ++ flat_map placed_legs_of_run (enumerate_from run runs))

-- each index is one that a slice can have
abbrev pub Fits : {X : Type 0} → ℕ → List X → Type 0
Fits first xs = first + length xs < 2 ^ 63
