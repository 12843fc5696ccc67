use Rattle.std.proofs.Common.{◌≡◌, ◌-◌, ◌<◌, ◌≤◌, ap, arith, false, true, get_or, length, rules, sym, ◌∙◌}
use Rattle.std.proofs.lemmas.List.{length-map}
use Rattle.std.specs.Prelude.{count_by, is_none, is_some, nat_eq}
use Rattle.std.specs.List.{slice_index_or}
use Rattle.table_model.specs.inner.Cells.{JobCells, states}
use Rattle.table_model.specs.Runs.{finished_result}
use Rattle.table_model.specs.inner.NeedsLeft.{needs_left_at}
use Rattle.table_model.specs.Settling.{finished_as}
use Rattle.table_model.proofs.Doors.{changed_past}
use Rattle.table_model.proofs.NeedsLeft.{left_kept, left_settled, none_where, unsettled_read, written_changed, written_same}
use Rattle.table_model.proofs.run.needs.settle_among.Goals as goal

pub returns-then-not-had_finished-clause-states : goal.returns-then-not-had_finished-clause-states
returns-then-not-had_finished-clause-states c =
    c.lower_needs.ensures.states
    ∙ written_changed (finished_as c.args.settled) c.args.jobs.now.items c.args.j c.index_mut-job.result.now c.settle.new.self
    (search rules) (search rules) (search rules)

pub returns-then-not-had_finished-clause-rooms : goal.returns-then-not-had_finished-clause-rooms
returns-then-not-had_finished-clause-rooms c =
    c.lower_needs.ensures.rooms
    ∙ written_same (λ (x : JobCells). x.room) c.args.jobs.now.items c.args.j c.index_mut-job.result.now c.settle.new.self (search rules)
    (search rules)

pub returns-then-not-had_finished-clause-left : goal.returns-then-not-had_finished-clause-left
returns-then-not-had_finished-clause-left c =
    let xs = c.args.jobs.now.items in
    let j = c.args.j in
    let x = c.index_mut-job.result.now in
    let y = c.settle.new.self in
    let graph = c.args.graph.now in
    let within : j < length xs = search rules in
    let is : x ≡ get_or xs j x = search rules in
    let state : y.state ≡ finished_as c.args.settled x.state = search rules in
    let count : y.needs_left ≡ x.needs_left = search rules in
    let not_yet : is_some (finished_result x.state.phase) ≡ false = search rules in
    left_settled graph xs c.lower_needs.new.jobs.items j c.args.settled c.requires.once c.requires.left within
    (unsettled_read xs j x within is ∙ none_where (finished_result x.state.phase) false not_yet)
    (c.lower_needs.ensures.states ∙ written_changed (finished_as c.args.settled) xs j x y within is state)
    (λ d.
    c.lower_needs.ensures.left d
    ∙ ap (λ ns. slice_index_or ns d 0 - count_by (nat_eq d) c.dependents.result.now)
    (written_same (λ (v : JobCells). v.needs_left) xs j x y is count)
    ∙ ap (λ ds. needs_left_at xs d - count_by (nat_eq d) ds) c.dependents.ensures)

pub returns-else-not-had_finished-clause-states : goal.returns-else-not-had_finished-clause-states
returns-else-not-had_finished-clause-states c =
    written_changed (finished_as c.args.settled) c.args.jobs.now.items c.args.j c.index_mut-job.result.now c.settle.new.self (search rules)
    (search rules) (search rules)

pub returns-else-not-had_finished-clause-rooms : goal.returns-else-not-had_finished-clause-rooms
returns-else-not-had_finished-clause-rooms c =
    written_same (λ (x : JobCells). x.room) c.args.jobs.now.items c.args.j c.index_mut-job.result.now c.settle.new.self (search rules)
    (search rules)

pub returns-else-not-had_finished-clause-left : goal.returns-else-not-had_finished-clause-left
returns-else-not-had_finished-clause-left c =
    let x = c.index_mut-job.result.now in
    let y = c.settle.new.self in
    let state : y.state ≡ finished_as c.args.settled x.state = search rules in
    let already : is_some (finished_result x.state.phase) ≡ true = search rules in
    left_kept c.args.graph.now c.args.jobs.now.items c.args.j x y c.requires.left (search rules) (search rules)
    (ap (λ s. is_none (finished_result s.phase)) state ∙ sym (none_where (finished_result x.state.phase) true already))

pub returns-else-j-len-clause-states : goal.returns-else-j-len-clause-states
returns-else-j-len-clause-states c =
    let xs = c.args.jobs.now.items in
    let past : length xs ≤ c.args.j = search rules in
    changed_past (finished_as c.args.settled) (states xs) c.args.j (omega (arith, past, length-map xs (λ (x : JobCells). x.state)))
