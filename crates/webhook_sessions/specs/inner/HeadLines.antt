-- How far an incomplete head was read: to the end of its last complete line.
use Rattle.std.specs.Prelude.{◌≡◌, ◌⊎◌, ℕ, ◌+◌, ◌≤◌, List, length, drop}
use Rattle.httparse.specs.Grammar.{Field, LineEnd, HasNoSection, MayBecomeSection}
use Rattle.httparse.specs.Pieces.{FieldLines, RequestStart}
use Rattle.act_sessions.specs.declared.request.Progress.{Progress}

-- the empty lines, the method, the target, the minor version and the line end
abbrev pub Start : Type 0
Start = List LineEnd × (List ℕ × (List ℕ × (ℕ × LineEnd)))

-- The bytes are a start line and these field lines, `lines` lines in all, and a rest.
pub record BeginsLines (bytes rest : List ℕ) (lines : ℕ) : Type 0 where
  pub start : Start
  pub fields : List Field
  pub middle : List ℕ
  pub first : RequestStart start bytes middle
  pub others : FieldLines fields middle rest
  pub count : lines ≡ length fields + 1

-- less than the field lines and the empty line after them
abbrev pub AreUnfinished : List ℕ → Type 0
AreUnfinished rest = HasNoSection rest × MayBecomeSection rest

-- so many of the bytes are so many complete lines of a head
abbrev pub AreLines : List ℕ → Progress → Type 0
AreLines bytes p = (p.read ≤ length bytes) × (p.lines ≤ p.read) × BeginsLines bytes (drop p.read bytes) p.lines

-- and the head is incomplete
abbrev pub AreUnfinishedLines : List ℕ → Progress → Type 0
AreUnfinishedLines bytes p = AreLines bytes p × AreUnfinished (drop p.read bytes)

-- nothing is known, or that
abbrev pub HeadKnown : List ℕ → Progress → Type 0
HeadKnown bytes p = (p.lines ≡ 0) ⊎ AreLines bytes p
