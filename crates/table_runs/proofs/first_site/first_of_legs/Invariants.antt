use Rattle.std.specs.Prelude.{◌≡◌}
use Rattle.std.specs.List.{AllByRecursion}
use Rattle.table_model.specs.inner.WithinRun.{first_of_legs, goes_on}
use Rattle.table_model.specs.declared.sites.RuleSite.TheVariants.{AtLeg}
use Rattle.settling_laws.proofs.PlacedLegs.{first_passing}
use Rattle.table_runs.proofs.LegsThere.{IsThere}
use Rattle.table_runs.proofs.first_site.first_of_legs.Given as goal

-- the first that goes on is still to come
abbrev pub invariant-loop-site : goal.invariant-loop-site
invariant-loop-site l = record {
  to_come : first_passing (goes_on l.runs) AtLeg l.site-iterator ≡ first_of_legs l.runs l.r l.j l.legs;
  there : AllByRecursion (IsThere l.runs) l.site-iterator;
}
