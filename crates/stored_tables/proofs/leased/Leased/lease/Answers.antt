use Rattle.std.proofs.Common.{arith, subst}
use Rattle.std.specs.Prelude.{IfOk, MatchOption, Option}
use Rattle.run_plan.specs.declared.last_command.KeptLease.{KeptLease}
use Rattle.stored_tables.specs.TableOf.{IsLeaseAs}
use Rattle.stored_tables.specs.declared.parts.StoredSite.{StoredSite}
use Rattle.stored_tables.proofs.leased.Leased.lease.Goals as goal

pub returns-then-get-self-clause-of : goal.returns-then-get-self-clause-of
returns-then-get-self-clause-of c = λ kept is.
    let given = is.is_of_a_leg.given.1 in
    omega (arith, is.lease, given)

pub returns-in-Some-clause-of : goal.returns-in-Some-clause-of
returns-in-Some-clause-of c =
    let last = c.args.self.now.last in
    let runs = c.args.self.now.runs.now in
    subst (λ (o : Option StoredSite). IfOk c.given_at.result (λ found. MatchOption found
    ((kept : KeptLease) → IsLeaseAs last runs (record { lease = c.args.parts.now.lease; place = o }) kept → ⊥)
    (λ kept. IsLeaseAs last runs (record { lease = c.args.parts.now.lease; place = o }) kept)))
    c.in-Some.ensures.value c.given_at.ensures.of

pub returns-in-None-clause-of : goal.returns-in-None-clause-of
returns-in-None-clause-of c =
    let last = c.args.self.now.last in
    let runs = c.args.self.now.runs.now in
    subst (λ (o : Option StoredSite). IfOk c.present.result (λ found. MatchOption found
    ((kept : KeptLease) → IsLeaseAs last runs (record { lease = c.args.parts.now.lease; place = o }) kept → ⊥)
    (λ kept. IsLeaseAs last runs (record { lease = c.args.parts.now.lease; place = o }) kept)))
    c.in-None.ensures.value c.present.ensures.of
