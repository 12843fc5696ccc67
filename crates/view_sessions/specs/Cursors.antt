-- The text of a cursor: two numbers with a hyphen between, each as its high and its low part below 10^9, with a dot between. The form is defined by
-- this project.
use Rattle.std.specs.Prelude.{ℕ, ◌+◌, ◌*◌, ◌/◌, ◌%◌, ◌^◌, List, ◌++◌, codes, decimal, length, nat_lt, slice_index, ◌==◌, ◌&&◌, Option, Some, None, option_map, option_and_then, if◌then◌else◌}
use Rattle.definitions.specs.SmallText.{decimal_of}
use Rattle.view_sessions.specs.Values.{after_byte, before_byte}
use Rattle.view_sessions.specs.declared.cursor.Cursor.{Cursor}

-- one to nine digits, without leading zeros
abbrev pub short_number : List ℕ → Option ℕ
short_number text = if nat_lt 1 (length text) && (slice_index text 0 == 48) then None else decimal_of text

abbrev pub fitting : ℕ → Option ℕ
fitting n = if nat_lt n (2 ^ 64) then Some n else None

abbrev pub joined : ℕ → ℕ → Option ℕ
joined high low = fitting (high * 1000000000 + low)

-- a high and a low part
abbrev pub long_number : List ℕ → Option ℕ
long_number text =
    option_and_then (λ high. option_and_then (joined high) (option_and_then short_number (after_byte 46 text))) (short_number (before_byte 46 text))

abbrev pub cursor_from : ℕ → ℕ → Cursor
cursor_from process line = record { process = process; line = line }

abbrev pub cursor_of : List ℕ → Option Cursor
cursor_of text =
    option_and_then (λ process. option_map (cursor_from process) (option_and_then long_number (after_byte 45 text))) (long_number (before_byte 45 text))

-- ---- as it is printed

abbrev pub long_text : ℕ → List ℕ
long_text n = decimal (n / 1000000000) ++ codes "." ++ decimal (n % 1000000000)

abbrev pub cursor_text : Cursor → List ℕ
cursor_text cursor = long_text cursor.process ++ codes "-" ++ long_text cursor.line
