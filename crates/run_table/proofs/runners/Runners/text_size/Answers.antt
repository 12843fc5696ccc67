use Rattle.std.proofs.Common.{List, ap, ◌∙◌, ◌*◌, ◌≤◌, length, subst}
use Rattle.std.specs.Prelude.{sum_by}
use Rattle.run_table.specs.inner.RunnerSizes.{runner_size, max_runner_size}
use Rattle.table_model.specs.TableState.{RunnerState}
use Rattle.run_table.proofs.RunnerSizes.{size_most}
use Rattle.run_table.proofs.runners.Runners.text_size.Goals as goal

pub returns-clause-size : goal.returns-clause-size
returns-clause-size c = c.self.invariant.1.is ∙ ap (λ (rs : List RunnerState). sum_by runner_size rs) c.self.view_is

pub returns-clause-most : goal.returns-clause-most
returns-clause-most c =
    subst (λ (rs : List RunnerState). c.self.inside.text ≤ length rs * max_runner_size) c.self.view_is
    (size_most c.self.inside.runners.items c.self.inside.text c.self.invariant.1)
