-- Since when the first run that is not forgotten has been the first.
use Rattle.std.specs.Prelude.{ℕ, ◌==◌, if◌then◌else◌}
use Rattle.std.specs.declared.time.Instant.{Instant}
use Rattle.table_model.specs.TableState.{TableState}

-- through which id runs were forgotten at the last look, and when that was first seen
pub record FirstState : Type 0 where
  pub through : ℕ
  pub since : Instant

-- of a table that is looked at for the first time
abbrev pub first_run_of : TableState → Instant → FirstState
first_run_of t now = record { through = t.forgotten.through; since = now }

-- of a table that is looked at again: as before, unless more runs are forgotten
abbrev pub first_run_after : TableState → Instant → FirstState → FirstState
first_run_after t now first = if first.through == t.forgotten.through then first else first_run_of t now
