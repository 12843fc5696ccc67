-- Whole tables of the second layout are encoded as their stored parts, which distinguish sound ones; and a batch of it is a batch of the third
-- layout.
use Rattle.std.proofs.Common.{◌≡◌, List, ℕ, ◌++◌, refl, sym, ◌∙◌, ap, subst}
use Rattle.std.specs.Prelude.{true, false, None}
use Rattle.std.specs.List.{list_all}
use Rattle.run_plan.specs.declared.command.Command.{Command}
use Rattle.stored_tables.specs.Stored.{RunnerParts, TableParts, stored_table}
use Rattle.stored_tables.specs.TableOf.{IsNoTable, IsStoredAs}
use Rattle.table_model.specs.Forgotten.{ForgottenRuns, none_forgotten}
use Rattle.table_model.specs.Parts.{RunParts}
use Rattle.table_model.specs.TableState.{TableState}
use Rattle.stored_tables.proofs.StoredParts.{is_stored, stored_again}
use Rattle.command_encodings.specs.Commands.{batch}
use Rattle.command_encodings.specs.inner.Reading.{pair_at}
use Rattle.command_encodings.specs.inner.ReadingCommands.{batch_at}
use Rattle.definitions.specs.Format.{NoneBeginsAnother, OpensWith, ReadsPrefix, only, pair, word}
use Rattle.table_text.specs.SecondLayout.{is_in_second_layout, second_batch, second_table, unencoded, whole_second_table}
use Rattle.table_text.specs.Tables.{is_last_lease, runs_and_runners}
use Rattle.table_text.specs.inner.ReadingSecond.{second_table_at, unencoded_at}
use Rattle.table_text.specs.inner.ReadingTables.{last_lease_at, runners_at, runs_at}
use Rattle.command_encodings.proofs.CommandReaders.{batch_reads}
use Rattle.command_encodings.proofs.Readers.{Reads, none_begins, pair_reads, parts_reads}
use Rattle.table_text.proofs.FirstReaders.{unencoded_reads}
use Rattle.table_text.proofs.TableReaders.{last_lease_reads, runs_and_runners_reads}
use Rattle.table_text.proofs.WholeTables.{have_places, one_stored}

-- ---- reading finds exactly what is encoded

pub second_table_reads : Reads second_table second_table_at
unfolding second_table_at
second_table_reads =
    parts_reads (λ (t : TableParts). (t.last_lease, (t.forgotten, (t.runs, t.runners))))
    (λ (p : ℕ × (ForgottenRuns × (List RunParts × List RunnerParts))). record
    { last_lease = p.0; forgotten = p.1.0; runs = p.1.1.0; runners = p.1.1.1 })
    (pair (only is_last_lease word) (pair (unencoded none_forgotten) runs_and_runners))
    (pair_at last_lease_at (pair_at (unencoded_at none_forgotten) (pair_at runs_at runners_at))) (λ _. refl) (λ _. refl)
    (pair_reads (only is_last_lease word) (pair (unencoded none_forgotten) runs_and_runners) last_lease_at
    (pair_at (unencoded_at none_forgotten) (pair_at runs_at runners_at))
    last_lease_reads
    (pair_reads (unencoded none_forgotten) runs_and_runners (unencoded_at none_forgotten) (pair_at runs_at runners_at)
    (unencoded_reads none_forgotten) runs_and_runners_reads))

-- ---- one table

pub second_begins_none : NoneBeginsAnother whole_second_table
second_begins_none a b more other x y one two same =
    let stored = none_begins second_table second_table_at second_table_reads a b more other (stored_table x) (stored_table y)
    (one.0.1, one.1)
    (two.0.1, two.1) same in
    (stored.0, one_stored x y one.0.0 two.0.0 stored.1)

-- ---- from the parts at the front of bytes

pub none_without_second_parts : (bytes : List ℕ) → ReadsPrefix second_table bytes None → ReadsPrefix whole_second_table bytes None
none_without_second_parts bytes none t rest opens = none (stored_table t) rest (opens.0.1, opens.1)

pub none_of_second_parts : (bytes rest : List ℕ) (parts : TableParts) → OpensWith second_table bytes parts rest → IsNoTable parts
    → ReadsPrefix whole_second_table bytes None
none_of_second_parts bytes rest parts opens none t other again =
    let same : second_table.encoding (stored_table t) ++ other ≡ second_table.encoding parts ++ rest = sym again.1 ∙ opens.1 in
    let one = none_begins second_table second_table_at second_table_reads (second_table.encoding (stored_table t))
    (second_table.encoding parts) other rest (stored_table t) parts
    (again.0.1, refl) (opens.0, refl) same in
    none t (subst (λ (s : TableParts). IsStoredAs s t) one.1 (is_stored t again.0.0))

pub one_of_second_parts : (bytes rest : List ℕ) (parts : TableParts) (t : TableState) → OpensWith second_table bytes parts rest
    → IsStoredAs parts t → OpensWith whole_second_table bytes t rest
one_of_second_parts bytes rest parts t opens is =
    let same : stored_table t ≡ parts = stored_again parts t (have_places parts.runners opens.0.1.1.1.0.2) is in (
      (is.is_sound, subst second_table.Takes (sym same) opens.0),
      opens.1 ∙ ap (λ (s : TableParts). second_table.encoding s ++ rest) (sym same),
    )

-- ---- batches

pub none_without_second_batch : (bytes : List ℕ) → ReadsPrefix batch bytes None → ReadsPrefix second_batch bytes None
none_without_second_batch bytes none commands rest opens = none commands rest (opens.0.0, opens.1)

pub none_of_second_batch : (bytes rest : List ℕ) (commands : List Command) → OpensWith batch bytes commands rest
    → list_all is_in_second_layout commands ≡ false → ReadsPrefix second_batch bytes None
none_of_second_batch bytes rest commands opens not others suffix again =
    let same : batch.encoding others ++ suffix ≡ batch.encoding commands ++ rest = sym again.1 ∙ opens.1 in
    let one = none_begins batch batch_at batch_reads (batch.encoding others) (batch.encoding commands) suffix rest others commands
    (again.0.0, refl) (opens.0, refl) same in
    let is : list_all is_in_second_layout others ≡ true = again.0.1 in
    let no : list_all is_in_second_layout others ≡ false = ap (λ cs. list_all is_in_second_layout cs) one.1 ∙ not in
    cc

pub one_of_second_batch : (bytes rest : List ℕ) (commands : List Command) → OpensWith batch bytes commands rest
    → list_all is_in_second_layout commands ≡ true → OpensWith second_batch bytes commands rest
one_of_second_batch bytes rest commands opens all = ((opens.0, all), opens.1)

pub second_batch_begins_none : NoneBeginsAnother second_batch
second_batch_begins_none a b more other x y one two same =
    none_begins batch batch_at batch_reads a b more other x y (one.0.0, one.1) (two.0.0, two.1) same
