-- The body of a run, as it was admitted.
use Rattle.std.specs.Prelude.{ℕ, List, Option, option_map}
use Rattle.table_model.specs.Step.{seen}
use Rattle.table_model.specs.TableState.{TableState}

abbrev pub run_body : TableState → ℕ → Option (List ℕ)
run_body t id = option_map (λ view. view.run.admitted.body) (seen t id)
