-- The leases that claims are answered with, over many commands. This project defines leases.
use Rattle.std.specs.Prelude.{◌≡◌, ◌+◌}
use Rattle.run_plan.specs.declared.reply.Lease.{Lease as Leased}
use Rattle.table_model.specs.TableState.{TableState}

-- between the two tables the lease after the last one was granted
pub record IsNextLease (t next : TableState) (lease : Leased) : Type 0 where
  pub is_next : lease.lease ≡ t.last_lease + 1
  pub is_last : next.last_lease ≡ lease.lease
