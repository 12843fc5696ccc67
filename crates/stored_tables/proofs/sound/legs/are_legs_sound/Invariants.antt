use Rattle.std.specs.List.{AllByRecursion}
use Rattle.stored_tables.specs.inner.OneByOne.{EachLegIsSound, LegIsSound}
use Rattle.table_model.specs.inner.PlacedLegs.{PlacedLeg}
use Rattle.stored_tables.proofs.sound.legs.are_legs_sound.Given as goal

-- all legs are sound exactly if all remaining legs are
abbrev pub invariant-loop-site : goal.invariant-loop-site
invariant-loop-site l =
    (AllByRecursion (λ (x : PlacedLeg). LegIsSound l.leases x.site x.leg) l.site-iterator → EachLegIsSound l.leases l.runs)
    × (EachLegIsSound l.leases l.runs → AllByRecursion (λ (x : PlacedLeg). LegIsSound l.leases x.site x.leg) l.site-iterator)
