-- A sound table is encoded by its text.
use Rattle.std.proofs.Common.{refl}
use Rattle.table_model.specs.Sound.{IsSound}
use Rattle.table_model.specs.TableState.{TableState}
use Rattle.stored_tables.specs.Stored.{stored_table}
use Rattle.table_text.specs.Tables.{table, whole_table}
use Rattle.act_store.specs.Layouts.{EncodesTable}
use Rattle.act_store.specs.declared.layout.Layout.TheVariants as layouts

pub table_encodes : (t : TableState) → IsSound t → table.Takes (stored_table t) → EncodesTable layouts.Third t (whole_table.encoding t)
unfolding EncodesTable
table_encodes t sound takes = ((sound, takes), refl)
