-- The bytes of a store file that has a table and no record.
use Rattle.std.specs.Prelude.{ℕ, ◌-◌, List, ◌∷◌, ◌++◌, length, nat_le, replicate, Bool, ◌&&◌}
use Rattle.definitions.specs.Limits.{max_area, min_area}
use Rattle.definitions.specs.Area.{Head, head_bytes}
use Rattle.table_model.specs.TableState.{TableState}
use Rattle.table_text.specs.Tables.{whole_table}
use Rattle.act_store.specs.Layouts.{current_version}
use Rattle.view_sessions.specs.declared.file_bytes.FileBytes.{FileBytes}

-- the head of the active area, of the first generation
abbrev pub copy_head : List ℕ → Head
copy_head text = record { version = current_version; generation = 1; text = text }

-- an open gate, and the head with the text of the table
abbrev pub copy_front : List ℕ → List ℕ
copy_front text = 0xA5 ∷ head_bytes (copy_head text)

-- the bytes of a copy of a table, after which zeros follow: an open gate, and the head with its text in the third layout
abbrev pub copy_bytes : TableState → List ℕ
copy_bytes t = copy_front (whole_table.encoding t)

-- whether there is such a file of two areas of this length: the text leaves room for a head, its gate, and the gate of the first record
abbrev pub fits : ℕ → TableState → Bool
fits area t =
    nat_le (length t.runners) 4294967295
    && (nat_le min_area area && (nat_le area max_area && nat_le (length (whole_table.encoding t)) (area - 19)))

-- the whole file
abbrev pub file_of : FileBytes → List ℕ
file_of copy = copy.bytes.items ++ replicate copy.zeros 0
