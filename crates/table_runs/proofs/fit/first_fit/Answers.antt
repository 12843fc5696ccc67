use Rattle.std.proofs.Common.{arith, sym, ◌∙◌, below_more, ◌≡◌, length, refl, true, false, rules}
use Rattle.std.specs.Prelude.{is_some}
use Rattle.table_model.specs.inner.WithinRun.{fit_in_run}
use Rattle.settling_laws.proofs.Firsts.{answer_found, answer_passed, none_found}
use Rattle.table_runs.proofs.NoneOffered.{none_before}
use Rattle.table_runs.proofs.ReadThere.{read_there}
use Rattle.table_runs.proofs.Sought.{first_fit_by_run}
use Rattle.table_runs.proofs.fit.first_fit.Goals as goal

pub returns-then-is_some-clause-found : goal.returns-then-is_some-clause-found
returns-then-is_some-clause-found c =
    let labels = c.args.labels.now in
    let runs = c.args.runs.now in
    let some : is_some c.fit_in_run-site.result ≡ true = search rules in
    sym (first_fit_by_run labels runs
    ∙ answer_found (fit_in_run labels runs) runs c.in-Some.r c.index-all-r.result c.fit_in_run-site.result
    (none_before labels runs c.loop-r.from c.in-Some.r c.loop-r.invariant c.in-Some.ensures.between) (search rules) (search rules)
    c.fit_in_run-site.ensures.found some)

pub loop-r-preserved : goal.loop-r-preserved
loop-r-preserved c =
    let labels = c.args.labels.now in
    let runs = c.args.runs.now in
    let none : is_some c.fit_in_run-site.result ≡ false = search rules in
    below_more _ _ (none_before labels runs c.loop-r.from c.in-Some.r c.loop-r.invariant c.in-Some.ensures.between)
    (answer_passed (fit_in_run labels runs) runs c.in-Some.r c.index-all-r.result c.fit_in_run-site.result (search rules) (search rules)
    c.fit_in_run-site.ensures.found none)

pub returns-clause-found : goal.returns-clause-found
returns-clause-found c =
    let labels = c.args.labels.now in
    let runs = c.args.runs.now in
    sym (first_fit_by_run labels runs
    ∙ none_found (fit_in_run labels runs) runs (length runs)
    (none_before labels runs c.loop-r.from (length runs) c.loop-r.invariant (λ i from to. c.in_default.ensures.none i from)) (omega arith))

pub fit_in_run-site-requires : goal.fit_in_run-site-requires
fit_in_run-site-requires c =
    read_there c.args.runs.now c.as_slice-all.result.now c.in-Some.r c.in-Some.r c.index-all-r.result refl c.as_slice-all.ensures.runs
    (search rules) c.index-all-r.is
