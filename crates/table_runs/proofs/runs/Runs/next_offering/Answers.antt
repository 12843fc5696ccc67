use Rattle.std.specs.Prelude.{◌≡◌, ◌≤◌, ◌<◌, ℕ, List, IfNone, IfSome, None, length}
use Rattle.std.proofs.Common.{ap, subst, sym, ◌∙◌}
use Rattle.table_model.specs.inner.Resuming.{apply_at}
use Rattle.table_model.specs.Runs.{RunState}
use Rattle.table_model.specs.inner.WithinRun.{fit_in_run}
use Rattle.table_runs.specs.declared.runs.Runs.TheInside.{Inside}
use Rattle.table_runs.proofs.NoneOffered.{next_between, next_from, next_none}
use Rattle.table_runs.proofs.runs.Runs.next_offering.Goals as goal

pub returns-clause-from : goal.returns-clause-from
returns-clause-from c =
    next_from c.args.from c.first_offering-found.result c.below.result c.below.ensures.same c.first_offering-found.ensures.from

pub returns-clause-between : goal.returns-clause-between
returns-clause-between c =
    let labels = c.args.labels.now in
    let rows = c.self-inside.inside.0.0 in
    let Between = λ (xs : List RunState). IfSome c.below.result
    (λ r. (i : ℕ) → c.args.from ≤ i → i < r → apply_at (fit_in_run labels xs) xs i ≡ None) in
    subst Between c.self.view_is
    (subst (λ (w : Inside). Between w.rows.runs) c.self-inside.view_is
    (next_between labels rows.runs.items rows.bindings.items rows.index.lists c.self-inside.invariant.0.bound
    c.self-inside.invariant.0.offered c.args.from c.first_offering-found.result c.first_offering-found.ensures.passed c.below.result
    c.below.ensures.same))

pub returns-clause-none : goal.returns-clause-none
returns-clause-none c =
    let labels = c.args.labels.now in
    let rows = c.self-inside.inside.0.0 in
    let None_left = λ (xs : List RunState). IfNone c.below.result ((i : ℕ) → c.args.from ≤ i → apply_at (fit_in_run labels xs) xs i ≡ None) in
    subst None_left c.self.view_is
    (subst (λ (w : Inside). None_left w.rows.runs) c.self-inside.view_is
    (next_none labels rows.runs.items rows.bindings.items rows.index.lists c.self-inside.invariant.0.bound
    c.self-inside.invariant.0.offered c.args.from c.first_offering-found.result c.first_offering-found.ensures.passed c.len.result
    (c.len.ensures.len ∙ ap length (sym c.self.view_is) ∙ sym (ap (λ (w : Inside). length w.rows.runs) c.self-inside.view_is)) c.below.result
    c.below.ensures.none))
