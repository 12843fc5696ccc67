use Rattle.std.proofs.Common.{◌≡◌, ◌-◌, ◌<◌, ap, get_or, length, rules, sym, ◌∙◌}
use Rattle.table_model.specs.inner.Cells.{JobCells}
use Rattle.table_model.proofs.NeedsLeft.{left_elsewhere, left_read, left_there, written_same}
use Rattle.table_model.proofs.run.needs.lower_needs_at.Goals as goal

pub returns-then-index-len-clause-states : goal.returns-then-index-len-clause-states
returns-then-index-len-clause-states c =
    written_same (λ (x : JobCells). x.state) c.args.jobs.now.items c.args.index c.index_mut-job.result.now c.set_needs_left.new.self
    (search rules) (search rules)

pub returns-then-index-len-clause-rooms : goal.returns-then-index-len-clause-rooms
returns-then-index-len-clause-rooms c =
    written_same (λ (x : JobCells). x.room) c.args.jobs.now.items c.args.index c.index_mut-job.result.now c.set_needs_left.new.self
    (search rules) (search rules)

pub returns-then-index-len-clause-there : goal.returns-then-index-len-clause-there
returns-then-index-len-clause-there c =
    let xs = c.args.jobs.now.items in
    let x = c.index_mut-job.result.now in
    let within : c.args.index < length xs = search rules in
    let is : x ≡ get_or xs c.args.index x = search rules in
    let lowered : c.set_needs_left.new.self.needs_left ≡ x.needs_left - 1 = search rules in
    left_there xs c.args.index c.set_needs_left.new.self within
    ∙ lowered ∙ ap (λ n. n - 1) (sym (left_read xs c.args.index x within is))

pub returns-then-index-len-clause-elsewhere : goal.returns-then-index-len-clause-elsewhere
returns-then-index-len-clause-elsewhere c = λ j differ. left_elsewhere c.args.jobs.now.items c.args.index j c.set_needs_left.new.self differ
