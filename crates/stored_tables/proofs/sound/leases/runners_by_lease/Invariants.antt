use Rattle.std.specs.BTreeMap.{get}
use Rattle.std.specs.Ordering.{nat_cmp}
use Rattle.stored_tables.specs.inner.ByNumber.{Adds}
use Rattle.stored_tables.proofs.LeasesPut.{SoFarOfRunners}
use Rattle.stored_tables.proofs.sound.leases.runners_by_lease.Given as goal

-- the runners so far were inserted
abbrev pub invariant-loop-k : goal.invariant-loop-k
invariant-loop-k l = Adds (get nat_cmp l.initial.held) (get nat_cmp l.held) (SoFarOfRunners l.runners l.k)
