use Rattle.std.proofs.Common.{arith, sym, ◌∙◌, below_more, ◌≡◌, length, true, false, rules}
use Rattle.std.specs.Prelude.{None, is_some}
use Rattle.table_model.specs.inner.ActiveRuns.{is_active}
use Rattle.table_model.specs.inner.Resuming.{apply_at}
use Rattle.table_model.specs.inner.WithinRun.{lease_in_run}
use Rattle.settling_laws.specs.inner.RunFacts.{is_so_at}
use Rattle.settling_laws.proofs.Firsts.{answer_found, answer_passed, none_found}
use Rattle.table_runs.proofs.NoneActive.{no_lease, none_before}
use Rattle.table_runs.proofs.Sought.{site_of_lease_by_run}
use Rattle.table_runs.proofs.fit.site_of_lease.Goals as goal

pub returns-then-is_some-clause-found : goal.returns-then-is_some-clause-found
returns-then-is_some-clause-found c =
    let runs = c.args.runs.now in
    let requested = lease_in_run c.args.lease in
    let some : is_some c.lease_in_run-site.result ≡ true = search rules in
    sym (site_of_lease_by_run runs c.args.lease
    ∙ answer_found requested runs c.in-Some.r c.index-all-r.result c.lease_in_run-site.result
    (none_before (λ k. apply_at requested runs k ≡ None) (λ i. is_so_at is_active runs i ≡ false) c.loop-r.from c.in-Some.r
    (no_lease runs c.args.lease c.requires) c.loop-r.invariant c.in-Some.ensures.between) (search rules) (search rules) c.lease_in_run-site.ensures.found some)

pub loop-r-preserved : goal.loop-r-preserved
loop-r-preserved c =
    let runs = c.args.runs.now in
    let requested = lease_in_run c.args.lease in
    let none : is_some c.lease_in_run-site.result ≡ false = search rules in
    below_more _ _
    (none_before (λ k. apply_at requested runs k ≡ None) (λ i. is_so_at is_active runs i ≡ false) c.loop-r.from c.in-Some.r
    (no_lease runs c.args.lease c.requires) c.loop-r.invariant c.in-Some.ensures.between)
    (answer_passed requested runs c.in-Some.r c.index-all-r.result c.lease_in_run-site.result (search rules) (search rules)
    c.lease_in_run-site.ensures.found none)

pub returns-clause-found : goal.returns-clause-found
returns-clause-found c =
    let runs = c.args.runs.now in
    let requested = lease_in_run c.args.lease in
    sym (site_of_lease_by_run runs c.args.lease
    ∙ none_found requested runs (length runs)
    (none_before (λ k. apply_at requested runs k ≡ None) (λ i. is_so_at is_active runs i ≡ false) c.loop-r.from (length runs)
    (no_lease runs c.args.lease c.requires) c.loop-r.invariant (λ i from to. c.in_default.ensures.none i from)) (omega arith))
