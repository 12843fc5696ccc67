-- What is encoded in a layout.
use Rattle.std.proofs.Common.{◌≡◌, List, [], ◌∷◌, refl, sym, ◌∙◌, ap}
use Rattle.std.specs.Prelude.{◌&&◌, Bool, IsTrue, Some, true}
use Rattle.std.specs.List.{AllByRecursion, list_all}
use Rattle.std.proofs.lemmas.Option.{same_Some}
use Rattle.definitions.specs.Area.{Head}
use Rattle.run_plan.specs.declared.command.Command.{Command}
use Rattle.table_model.specs.Sound.{IsSound}
use Rattle.table_model.specs.TableState.{TableState}
use Rattle.command_encodings.specs.Commands.{batch}
use Rattle.table_text.specs.FirstLayout.{is_in_first_layout}
use Rattle.table_text.specs.SecondLayout.{is_in_second_layout}
use Rattle.definitions.specs.Format.{NoneBeginsAnother}
use Rattle.command_encodings.specs.inner.ReadingCommands.{batch_at}
use Rattle.command_encodings.proofs.CommandReaders.{batch_reads}
use Rattle.command_encodings.proofs.Readers.{none_begins}
use Rattle.table_text.proofs.WholeFirstTables.{first_batch_begins_none, first_begins_none}
use Rattle.table_text.proofs.WholeSecondTables.{second_batch_begins_none, second_begins_none}
use Rattle.table_text.proofs.WholeTables.{whole_begins_none}
use Rattle.act_store.specs.Layouts.{HasCommand, batch_format, layout_of, table_format}
use Rattle.act_store.specs.declared.layout.Layout.{Layout}
use Rattle.act_store.specs.declared.layout.Layout.TheVariants as layouts

-- a head names one layout
pub one_layout : (head : Head) (a b : Layout) → layout_of head.version ≡ Some a → layout_of head.version ≡ Some b → a ≡ b
one_layout head a b first second = same_Some a b (sym first ∙ second)

-- ---- tables

pub tables_begin_none : (layout : Layout) → NoneBeginsAnother (table_format layout)
tables_begin_none layouts.First = first_begins_none
tables_begin_none layouts.Second = second_begins_none
tables_begin_none layouts.Third = whole_begins_none

pub takes_sound : (layout : Layout) (t : TableState) → (table_format layout).Takes t → IsSound t
takes_sound layouts.First t takes = takes.0
takes_sound layouts.Second t takes = takes.0
takes_sound layouts.Third t takes = takes.0

-- ---- batches

pub batches_begin_none : (layout : Layout) → NoneBeginsAnother (batch_format layout)
batches_begin_none layouts.First = first_batch_begins_none
batches_begin_none layouts.Second = second_batch_begins_none
batches_begin_none layouts.Third = none_begins batch batch_at batch_reads

-- each layout encodes a batch as the same bytes
pub same_encoding : (layout : Layout) (commands : List Command) → (batch_format layout).encoding commands ≡ batch.encoding commands
same_encoding layouts.First commands = refl
same_encoding layouts.Second commands = refl
same_encoding layouts.Third commands = refl

listed : (test : Command → Bool) (commands : List Command) → AllByRecursion (λ c. IsTrue (test c)) commands → list_all test commands ≡ true
listed test [] all = refl
listed test (c ∷ cs) all = ap (λ b. b && list_all test cs) all.0 ∙ listed test cs all.1

-- provided that it has the commands
pub takes_batch : (layout : Layout) (commands : List Command) → batch.Takes commands → AllByRecursion (HasCommand layout) commands
    → (batch_format layout).Takes commands
takes_batch layouts.First commands takes all = (takes, listed is_in_first_layout commands all)
takes_batch layouts.Second commands takes all = (takes, listed is_in_second_layout commands all)
takes_batch layouts.Third commands takes all = takes
