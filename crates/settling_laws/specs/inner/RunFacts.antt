-- Properties of the runs of a table.
use Rattle.std.specs.Prelude.{ℕ, List, Bool, false, slice_get}
use Rattle.std.specs.Option.{option_map_or}
use Rattle.table_model.specs.Runs.{RunState}

-- whether run `r` has the property
abbrev pub is_so_at : (RunState → Bool) → List RunState → ℕ → Bool
is_so_at fact runs r = option_map_or fact (slice_get runs r) false
