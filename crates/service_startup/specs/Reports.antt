-- What a service reports on its output. The format is defined by this project.
use Rattle.std.specs.Prelude.{ℕ, List, ◌++◌, length, codes}
use Rattle.std.specs.Fmt.{decimal}
use Rattle.std.specs.List.{flat_map}
use Rattle.act_store.specs.declared.entry.Entry.{Entry}

-- both ports accept clients
abbrev pub ready_line : List ℕ
ready_line = codes "ready\n"

-- a history with this number of entries is reconciled
abbrev pub settled_line : ℕ → List ℕ
settled_line entries = (codes "settled " ++ decimal entries) ++ codes "\n"

abbrev pub line_of_history : List Entry → List ℕ
line_of_history history = settled_line (length history)

-- the lines of a service whose rounds made these histories
abbrev pub service_lines : List (List Entry) → List ℕ
service_lines histories = ready_line ++ flat_map line_of_history histories
