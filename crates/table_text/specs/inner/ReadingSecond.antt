-- Reading of a table in the second layout as a function, where it differs from the third layout.
use Rattle.std.specs.Prelude.{ℕ, List, Some}
use Rattle.stored_tables.specs.Stored.{RunnerParts, TableParts}
use Rattle.table_model.specs.Forgotten.{ForgottenRuns, none_forgotten}
use Rattle.table_model.specs.Parts.{RunParts}
use Rattle.command_encodings.specs.inner.Reading.{Reader, pair_at, parts_at}
use Rattle.table_text.specs.inner.ReadingTables.{last_lease_at, runners_at, runs_at}

-- what is not encoded
abbrev pub unencoded_at : {A : Type 0} → A → Reader A
unencoded_at x bytes = Some (x, bytes)

unfoldable pub second_table_at : Reader TableParts
second_table_at bytes =
    parts_at (λ (p : ℕ × (ForgottenRuns × (List RunParts × List RunnerParts))). record
    { last_lease = p.0; forgotten = p.1.0; runs = p.1.1.0; runners = p.1.1.1 })
    (pair_at last_lease_at (pair_at (unencoded_at none_forgotten) (pair_at runs_at runners_at))) bytes
