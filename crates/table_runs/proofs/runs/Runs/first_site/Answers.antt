use Rattle.std.proofs.Common.{ap, ◌∙◌, ◌≡◌, true, rules}
use Rattle.std.specs.Prelude.{is_some}
use Rattle.table_model.specs.Settling.{first_site}
use Rattle.table_runs.proofs.DueRuns.{none_left, rest_until, site_found}
use Rattle.table_runs.proofs.runs.Runs.first_site.Goals as goal

pub returns-then-is_some-clause-found : goal.returns-then-is_some-clause-found
returns-then-is_some-clause-found c =
    let runs = c.loop-r.self in
    let some : is_some c.first_site_in_run-site.result ≡ true = search rules in
    site_found runs c.in-Some.r c.first_site_in_run-site.result
    (rest_until runs c.loop-r.run c.in-Some.r c.loop-r.invariant.1 c.in-Some.ensures.between) c.first_site_in_run-site.ensures.found some
    ∙ ap first_site c.loop-r.invariant.0

pub returns-clause-found : goal.returns-clause-found
returns-clause-found c =
    none_left c.loop-r.self c.loop-r.run c.loop-r.invariant.1 (λ i from. c.in_default.ensures.none i from)
    ∙ ap first_site c.loop-r.invariant.0
