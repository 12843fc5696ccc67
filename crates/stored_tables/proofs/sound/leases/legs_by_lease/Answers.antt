use Rattle.std.proofs.Common.{◌≡◌, ℕ, None, rules}
use Rattle.std.specs.BTreeMap.{get}
use Rattle.std.specs.Ordering.{nat_cmp}
use Rattle.stored_tables.specs.inner.ByLease.{lease_of_leg}
use Rattle.stored_tables.proofs.LeasesPut.{all_put, leg_put}
use Rattle.stored_tables.proofs.ByNumberRead.{all_found}
use Rattle.stored_tables.proofs.sound.leases.legs_by_lease.Goals as goal

pub loop-site-preserved : goal.loop-site-preserved
loop-site-preserved c after more =
    c.loop-site.invariant after
    (leg_put c.in-Some.site c.in-Some.leg.now c.next.new.self c.loop-site.site-iterator (get nat_cmp c.loop-site.legs)
    (get nat_cmp c.put_leg.new.legs) after c.in-Some.ensures.steps.0 (search rules) more)

pub returns-clause-found : goal.returns-clause-found
returns-clause-found c =
    let empty : (n : ℕ) → get nat_cmp c.new-legs.result n ≡ None = search rules in
    all_found (get nat_cmp c.new-legs.result) (get nat_cmp c.loop-site.legs) (lease_of_leg c.args.runs.now) empty
    (all_put c.args.runs.now c.loop-site.site-iterator (get nat_cmp c.new-legs.result) (get nat_cmp c.loop-site.legs)
    c.in-None.ensures.steps.0.0 c.loop-site.invariant)
