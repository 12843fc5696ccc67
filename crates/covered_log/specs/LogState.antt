-- A log of changes, as its callers see it.
use Rattle.std.specs.Prelude.{◌≡◌, ℕ, ◌+◌, ◌-◌, ◌<◌, ◌^◌, ◌==◌, ◌&&◌, List, [], ◌∷◌, ◌++◌, Bool, drop, length, min, nat_le, string_bytes, take}
use Rattle.std.specs.List.{flat_map}
use Rattle.covered_log.specs.KeptState.{KeptState, end_of, first_after}
use Rattle.definitions.specs.Limits.{page_lines}
use Rattle.covered_log.specs.Lines.{Change, entries_of, lines_of}
use Rattle.covered_log.specs.declared.page.Page.{Page}

-- the number of the process, all changes since the service began, and of how many of the first the lines are not kept
pub record LogState : Type 0 where
  pub process : ℕ
  pub changes : List Change
  pub first : ℕ

abbrev pub new_log : ℕ → LogState
new_log process = record { process = process; changes = []; first = 0 }

-- how many entries there were
abbrev pub place_of : LogState → ℕ
place_of s = length (entries_of s.changes)

-- there may be one more change
abbrev pub HasRoom : LogState → Type 0
HasRoom s = length s.changes + 1 < 2 ^ 64

-- one more change, whose line is kept
abbrev pub with_change : LogState → Change → LogState
with_change s c = record { process = s.process; changes = s.changes ++ c ∷ []; first = first_after s.first (length s.changes - s.first) }

-- one more change, whose line is lost for lack of memory, and with it all that were kept
abbrev pub losing_line : LogState → Change → LogState
losing_line s c = record { process = s.process; changes = s.changes ++ c ∷ []; first = length s.changes + 1 }

-- A cursor names a process, and says how many lines come before it. It is known if it is of this process, and all lines behind it are kept.
abbrev pub is_known : LogState → ℕ → ℕ → Bool
is_known s process line = process == s.process && (nat_le s.first line && nat_le line (length s.changes))

-- the lines behind a cursor, at most `page_lines`, and the cursor to go on from
pub record IsPage (s : LogState) (line : ℕ) (page : Page) : Type 0 where
  pub text : string_bytes page.text ≡ flat_map (λ text. text) (take page_lines (drop line (lines_of s.changes)))
  pub next : page.next ≡ line + min page_lines (length s.changes - line)

-- the lines that are kept are the last ones, and all are counted
pub record IsLog (kept : KeptState) (entries : ℕ) (changes : List Change) : Type 0 where
  pub lines : kept.lines ≡ drop kept.first (lines_of changes)
  pub ends : end_of kept ≡ length changes
  pub counted : entries ≡ length (entries_of changes)
