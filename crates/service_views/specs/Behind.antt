-- What a reader of the changes of a service gets.
use Rattle.std.specs.Prelude.{◌≡◌, ℕ, ◌+◌, ◌-◌, ◌<◌, List, ◌++◌, codes, drop, length, min, string_bytes, take, true, false}
use Rattle.std.specs.List.{flat_map}
use Rattle.definitions.specs.Limits.{page_lines}
use Rattle.covered_log.specs.Lines.{lines_of}
use Rattle.covered_log.specs.LogState.{LogState, is_known}
use Rattle.view_sessions.specs.Cursors.{cursor_from, cursor_text}
use Rattle.view_sessions.specs.declared.cursor.Cursor.{Cursor}
use Rattle.service_views.specs.declared.behind.Found.{Found}
use Rattle.service_views.specs.declared.behind.Found.TheVariants as found

-- the line of the cursor that stands behind so many lines
abbrev pub cursor_line : LogState → ℕ → List ℕ
cursor_line log line = codes "{\"cursor\":\"" ++ cursor_text (cursor_from log.process line) ++ codes "\"}\n"

-- the lines behind so many, at most as many as an answer has, and the cursor to go on from
abbrev pub lines_behind : LogState → ℕ → List ℕ
lines_behind log line =
    flat_map (λ text. text) (take page_lines (drop line (lines_of log.changes)))
    ++ cursor_line log (line + min page_lines (length log.changes - line))

abbrev pub IsKnown : LogState → Cursor → Type 0
IsKnown log cursor = is_known log cursor.process cursor.line ≡ true

-- what there is behind a cursor: lines, nothing yet, or nobody knows
abbrev pub IsBehind : LogState → Cursor → Found → Type 0
IsBehind log cursor (found.Lines text) =
    IsKnown log cursor × (cursor.line < length log.changes) × (string_bytes text ≡ lines_behind log cursor.line)
IsBehind log cursor found.None = IsKnown log cursor × (cursor.line ≡ length log.changes)
IsBehind log cursor found.Unknown = is_known log cursor.process cursor.line ≡ false
