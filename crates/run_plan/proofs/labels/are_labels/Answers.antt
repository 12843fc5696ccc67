use Rattle.std.proofs.Common.{sym, ◌∙◌}
use Rattle.run_plan.proofs.Parts.{of_few}
use Rattle.run_plan.proofs.labels.are_labels.Goals as goal

pub returns-then-are_few : goal.returns-then-are_few
returns-then-are_few c = c.each_is_label.ensures ∙ of_few c.args.text.now (sym c.are_few.ensures ∙ c.if-are_few.true)
