-- Marks of runs, which let commands and settling skip the runs that have nothing for them. Marks may be stale, never missing: each run with
-- the property is marked, and other runs may be.
use Rattle.std.specs.Prelude.{◌≡◌, ℕ, List, length, Bool, true, slice_get, Some, is_some}
use Rattle.run_marks.specs.Marked.{Covers, is_marked}
use Rattle.table_model.specs.Runs.{RunState}
use Rattle.table_model.specs.inner.WithinRun.{first_in_run}

-- whether a rule applies in the run
abbrev pub is_due : List RunState → ℕ → RunState → Bool
is_due runs r run = is_some (first_in_run runs r run)

pub record AreMarked (fact : ℕ → RunState → Bool) (runs : List RunState) (marks : List ℕ) : Type 0 where
  pub covers : Covers marks (length runs)
  pub marked : (r : ℕ) (x : RunState) → slice_get runs r ≡ Some x → fact r x ≡ true → is_marked marks r ≡ true
