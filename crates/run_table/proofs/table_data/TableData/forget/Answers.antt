use Rattle.std.proofs.Common.{List, ap, drop, subst, sym}
use Rattle.table_model.specs.Groups.{HasOneEach}
use Rattle.table_model.specs.Runs.{RunState}
use Rattle.table_model.specs.TableState.{TableState}
use Rattle.run_table.proofs.Forgetting.{one_each_without}
use Rattle.run_table.proofs.table_data.TableData.forget.Goals as goal

pub without_first-requires-clause-one : goal.without_first-requires-clause-one
without_first-requires-clause-one c =
    subst (λ (runs : List RunState). HasOneEach (drop c.forgettable-count.result runs)) (sym (ap (λ (t : TableState). t.runs) c.self.view_is))
    (one_each_without c.args.self.now c.forgettable-count.result c.requires)
