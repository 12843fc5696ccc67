-- Whole tables are encoded as their stored parts, which distinguish sound ones.
use Rattle.std.proofs.Common.{◌≡◌, List, ℕ, ◌++◌, refl, sym, ◌∙◌, ap, subst}
use Rattle.std.specs.Prelude.{true, is_some, Option, None, Some}
use Rattle.std.specs.List.{AllByRecursion}
use Rattle.table_model.specs.Sound.{IsSound}
use Rattle.stored_tables.specs.Stored.{RunnerParts, TableParts, stored_table}
use Rattle.stored_tables.specs.TableOf.{IsNoTable, IsStoredAs}
use Rattle.table_model.specs.TableState.{TableState}
use Rattle.stored_tables.specs.declared.parts.LastParts.{LastParts}
use Rattle.stored_tables.specs.declared.parts.LastParts.TheVariants as last
use Rattle.stored_tables.specs.declared.parts.StoredSite.{StoredSite}
use Rattle.table_model.proofs.Found.{each_at}
use Rattle.stored_tables.proofs.StoredOnce.{same_table}
use Rattle.stored_tables.proofs.StoredParts.{HasPlace, HavePlaces, is_stored, stored_again}
use Rattle.definitions.specs.Format.{NoneBeginsAnother, OpensWith, ReadsPrefix, present}
use Rattle.table_text.specs.inner.ReadingTables.{table_at}
use Rattle.table_text.specs.Tables.{last_command, place, runner, table, whole_table}
use Rattle.command_encodings.proofs.Readers.{none_begins}
use Rattle.table_text.proofs.TableReaders.{table_reads}

-- sound tables with the same stored parts are equal
pub one_stored : (one two : TableState) → IsSound one → IsSound two → stored_table one ≡ stored_table two → one ≡ two
one_stored one two first second same =
    same_table (stored_table one) one two (is_stored one first)
    (subst (λ (s : TableParts). IsStoredAs s two) (sym same) (is_stored two second))

pub whole_begins_none : NoneBeginsAnother whole_table
whole_begins_none a b more other x y one two same =
    let stored = none_begins table table_at table_reads a b more other (stored_table x) (stored_table y) (one.0.1, one.1)
    (two.0.1, two.1) same in
    (stored.0, one_stored x y one.0.0 two.0.0 stored.1)

-- ---- from the parts at the front of bytes

pub none_without_parts : (bytes : List ℕ) → ReadsPrefix table bytes None → ReadsPrefix whole_table bytes None
none_without_parts bytes none t rest opens = none (stored_table t) rest (opens.0.1, opens.1)

pub none_of_parts : (bytes rest : List ℕ) (parts : TableParts) → OpensWith table bytes parts rest → IsNoTable parts
    → ReadsPrefix whole_table bytes None
none_of_parts bytes rest parts opens none t other again =
    let same : table.encoding (stored_table t) ++ other ≡ table.encoding parts ++ rest = sym again.1 ∙ opens.1 in
    let one = none_begins table table_at table_reads (table.encoding (stored_table t)) (table.encoding parts) other rest
    (stored_table t) parts
    (again.0.1, refl) (opens.0, refl) same in
    none t (subst (λ (s : TableParts). IsStoredAs s t) one.1 (is_stored t again.0.0))

-- and the table of the parts is the one that is encoded there: every kept lease has its place
has_place : (o : Option StoredSite) → (present place).Takes o → is_some o ≡ true
has_place None takes = absurd takes
has_place (Some p) takes = refl

last_has_place : (l : LastParts) → last_command.Takes l → HasPlace l
last_has_place (last.Claim claim None) takes = tt
last_has_place (last.Claim claim (Some l)) takes = has_place l.place takes.1.1
last_has_place (last.Done report) takes = tt

pub have_places : (runners : List RunnerParts) → AllByRecursion runner.Takes runners → HavePlaces runners
have_places runners takes k part at = last_has_place part.last (each_at runner.Takes runners k part takes at).1.1.0

pub one_of_parts : (bytes rest : List ℕ) (parts : TableParts) (t : TableState) → OpensWith table bytes parts rest → IsStoredAs parts t
    → OpensWith whole_table bytes t rest
one_of_parts bytes rest parts t opens is =
    let same : stored_table t ≡ parts = stored_again parts t (have_places parts.runners opens.0.1.1.1.0.2) is in (
      (is.is_sound, subst table.Takes (sym same) opens.0),
      opens.1 ∙ ap (λ (s : TableParts). table.encoding s ++ rest) (sym same),
    )
