-- The index of the runner with a name among those of a table, or the index where it would be inserted.
use Rattle.std.specs.Prelude.{ℕ, List, filter, length}
use Rattle.table_model.specs.TableState.{RunnerState, is_below}

abbrev pub index_named : List RunnerState → List ℕ → ℕ
index_named runners name = length (filter (is_below name) runners)
