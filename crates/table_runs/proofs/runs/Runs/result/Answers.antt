use Rattle.std.specs.Prelude.{◌≡◌, true, false, is_some}
use Rattle.std.proofs.Common.{rules, sym, ◌∙◌}
use Rattle.table_runs.proofs.JobResult.{failure_is, other_result_is}
use Rattle.table_runs.proofs.runs.Runs.result.Goals as goal

pub returns-then-is_some : goal.returns-then-is_some
returns-then-is_some c =
    let some : is_some c.failing_leg.result ≡ true = search rules in
    failure_is c.args.self.now c.args.r c.args.j c.args.legs.now c.failing_leg.result c.failing_leg.ensures some

pub returns-then-any_was_cancelled : goal.returns-then-any_was_cancelled
returns-then-any_was_cancelled c =
    let none : is_some c.failing_leg.result ≡ false = search rules in
    other_result_is c.args.self.now c.args.r c.args.j c.args.legs.now c.failing_leg.result true c.failing_leg.ensures none
    (sym c.if-any_was_cancelled.true ∙ c.any_was_cancelled.ensures)

pub returns-else-any_was_cancelled : goal.returns-else-any_was_cancelled
returns-else-any_was_cancelled c =
    let none : is_some c.failing_leg.result ≡ false = search rules in
    other_result_is c.args.self.now c.args.r c.args.j c.args.legs.now c.failing_leg.result false c.failing_leg.ensures none
    (sym c.if-any_was_cancelled.false ∙ c.any_was_cancelled.ensures)
