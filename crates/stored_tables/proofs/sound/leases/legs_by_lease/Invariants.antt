use Rattle.std.proofs.Common.{ℕ}
use Rattle.std.specs.BTreeMap.{get}
use Rattle.std.specs.Ordering.{nat_cmp}
use Rattle.std.specs.Prelude.{Option}
use Rattle.stored_tables.specs.inner.ByNumber.{Adds}
use Rattle.stored_tables.proofs.LeasesPut.{HasLease}
use Rattle.table_model.specs.inner.PlacedLegs.{placed_legs}
use Rattle.table_model.specs.declared.sites.LegSite.{LegSite}
use Rattle.stored_tables.proofs.sound.leases.legs_by_lease.Given as goal

-- once the remaining legs are inserted, all legs are
abbrev pub invariant-loop-site : goal.invariant-loop-site
invariant-loop-site l =
    (after : ℕ → Option LegSite) → Adds (get nat_cmp l.legs) after (HasLease l.site-iterator)
    → Adds (get nat_cmp l.initial.legs) after (HasLease (placed_legs l.runs))
