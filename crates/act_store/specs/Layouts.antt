-- The layouts of a store's texts.
use Rattle.std.specs.Prelude.{ℕ, ◌==◌, Bool, true, IsTrue, List, Option, Some, None, if◌then◌else◌}
use Rattle.run_plan.specs.declared.command.Command.{Command}
use Rattle.table_model.specs.TableState.{TableState}
use Rattle.command_encodings.specs.Commands.{batch}
use Rattle.table_text.specs.FirstLayout.{first_batch, is_in_first_layout, whole_first_table}
use Rattle.table_text.specs.SecondLayout.{is_in_second_layout, second_batch, whole_second_table}
use Rattle.definitions.specs.Format.{Format, Encodes}
use Rattle.table_text.specs.Tables.{whole_table}
use Rattle.act_store.specs.declared.layout.Layout.{Layout}
use Rattle.act_store.specs.declared.layout.Layout.TheVariants as layouts

-- ---- the layouts of an area: the bytes that name them, and what each encodes. The second layout has the attempts of runs, and the third has
-- what is kept of forgotten runs and is the one written. The others are read and appended to, but never created.

abbrev pub layout_byte : Layout → ℕ
layout_byte layouts.First = 1
layout_byte layouts.Second = 2
layout_byte layouts.Third = 4

abbrev pub layout_of : ℕ → Option Layout
layout_of byte =
    if byte == 1 then Some layouts.First else (if byte == 2 then Some layouts.Second else (if byte == 4 then Some layouts.Third else None))

-- the version in which areas are written
abbrev pub current_version : ℕ
current_version = layout_byte layouts.Third

-- ---- what is encoded

abbrev pub table_format : Layout → Format TableState
table_format layouts.First = whole_first_table
table_format layouts.Second = whole_second_table
table_format layouts.Third = whole_table

abbrev pub batch_format : Layout → Format (List Command)
batch_format layouts.First = first_batch
batch_format layouts.Second = second_batch
batch_format layouts.Third = batch

-- whether a layout has a command: only the third has those that forget runs or a runner, and the first has none that asks for an attempt
abbrev pub has_command : Layout → Command → Bool
has_command layouts.First command = is_in_first_layout command
has_command layouts.Second command = is_in_second_layout command
has_command layouts.Third command = true

abbrev pub HasCommand : Layout → Command → Type 0
HasCommand layout command = IsTrue (has_command layout command)

-- ---- which bytes are the text of a table in a layout: exactly its encoding. An area begins with such a text, and the commands that follow in
-- it start from that table.

unfoldable pub EncodesTable : Layout → TableState → List ℕ → Type 0
EncodesTable layout table text = Encodes (table_format layout) text table
