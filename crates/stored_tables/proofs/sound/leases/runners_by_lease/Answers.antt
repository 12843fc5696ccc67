use Rattle.std.proofs.Common.{◌≡◌, ℕ, None, Some, arith, rules}
use Rattle.std.specs.BTreeMap.{get}
use Rattle.std.specs.Ordering.{nat_cmp}
use Rattle.stored_tables.specs.inner.ByLease.{lease_of_runner}
use Rattle.stored_tables.proofs.LeasesPut.{runner_put, runners_put}
use Rattle.table_model.proofs.OneAfterAnother.{read_at}
use Rattle.stored_tables.proofs.ByNumberRead.{all_found, none_added}
use Rattle.stored_tables.proofs.sound.leases.runners_by_lease.Goals as goal

pub loop-k-init : goal.loop-k-init
loop-k-init c = none_added (λ (k : ℕ). k) (λ k n. lease_of_runner c.args.runners.now k ≡ Some n) (get nat_cmp c.new-held.result)

pub loop-k-preserved : goal.loop-k-preserved
loop-k-preserved c =
    let runners = c.args.runners.now in
    let x = c.index-runners-k.result in
    runner_put c.loop-k.k runners x (get nat_cmp c.new-held.result) (get nat_cmp c.loop-k.held) (get nat_cmp c.put_runner.new.held)
    (read_at runners c.loop-k.k x (omega arith) c.index-runners-k.is) c.loop-k.invariant (search rules)

pub returns-clause-found : goal.returns-clause-found
returns-clause-found c =
    let runners = c.args.runners.now in
    let empty : (n : ℕ) → get nat_cmp c.new-held.result n ≡ None = search rules in
    let adds = runners_put c.loop-k.k runners (get nat_cmp c.new-held.result) (get nat_cmp c.loop-k.held) (omega arith)
    c.loop-k.invariant in
    all_found (get nat_cmp c.new-held.result) (get nat_cmp c.loop-k.held) (lease_of_runner runners) empty adds
