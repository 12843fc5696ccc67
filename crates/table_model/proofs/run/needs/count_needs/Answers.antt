use Rattle.std.specs.Prelude.{[], slice_set}
use Rattle.std.proofs.Common.{◌≡◌, ◌<◌, ap, arith, below_more, get_or, length, rules, sym, ◌∙◌, ⊎_elim, ℕ}
use Rattle.std.proofs.lemmas.Bool.{cases_lt}
use Rattle.std.proofs.lemmas.List.{get_or_past, length-map}
use Rattle.needs_graph.specs.Needs.{needs_at}
use Rattle.table_model.specs.inner.Cells.{JobCells, states}
use Rattle.table_model.specs.Runs.{results_so_far}
use Rattle.table_model.specs.inner.NeedsLeft.{needs_left_at, unfinished}
use Rattle.table_model.proofs.NeedsLeft.{left_elsewhere, left_there, none_past, written_same}
use Rattle.table_model.proofs.run.needs.count_needs.Goals as goal

pub loop-j-preserved : goal.loop-j-preserved
loop-j-preserved c =
    let xs = c.loop-j.jobs.items in
    let j = c.loop-j.j in
    let x = c.index_mut-job.result.now in
    let y = c.set_needs_left.new.self in
    let graph = c.args.graph.now in
    let before = states c.args.jobs.now.items in
    let within : j < length xs = search rules in
    let is : x ≡ get_or xs j x = search rules in
    let state : y.state ≡ x.state = search rules in
    let room : y.room ≡ x.room = search rules in
    let lent : c.as_slice.result.now ≡ xs = search rules in
    let count : y.needs_left ≡ unfinished (results_so_far before) (needs_at graph j) =
    ap (λ (v : JobCells). v.needs_left) c.set_needs_left.ensures
    ∙ c.count_unfinished-left.ensures
    ∙ ap (λ js. unfinished (results_so_far (states js)) c.needs.result.now) lent
    ∙ ap (λ ss. unfinished (results_so_far ss) c.needs.result.now) c.loop-j.invariant.0
    ∙ ap (unfinished (results_so_far before)) c.needs.ensures in (
      written_same (λ (v : JobCells). v.state) xs j x y is state ∙ c.loop-j.invariant.0,
      written_same (λ (v : JobCells). v.room) xs j x y is room ∙ c.loop-j.invariant.1,
      below_more (λ k. needs_left_at (slice_set xs j y) k ≡ unfinished (results_so_far before) (needs_at graph k)) j
          (λ k lt. left_elsewhere xs j k y (λ e. omega (arith, e, lt)) ∙ c.loop-j.invariant.2 k lt) (left_there xs j y within ∙ count),
    )

pub returns-clause-left : goal.returns-clause-left
returns-clause-left c = λ k.
    let xs = c.loop-j.jobs.items in
    let room : JobCells → ℕ = λ x. x.room in
    let as_many : length xs ≡ length c.args.jobs.now.items =
    sym (length-map xs room) ∙ ap length c.loop-j.invariant.1 ∙ length-map c.args.jobs.now.items room in
    ⊎_elim
    (λ below.
    c.loop-j.invariant.2 k below
    ∙ ap (λ ss. unfinished (results_so_far ss) (needs_at c.args.graph.now k)) (sym c.loop-j.invariant.0))
    (λ past.
    none_past xs k (omega (arith, past, as_many))
    ∙ sym (ap (unfinished (results_so_far (states xs))) (get_or_past c.args.graph.now k [] (omega (arith, past, c.requires)))))
    (cases_lt k c.loop-j.j)
