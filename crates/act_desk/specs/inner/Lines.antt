-- The book of a desk. It is ghost data. Any party may write into it, but each note needs the token of its key, and each token writes one
-- note. So the notes that follow one another from a first key, each under the key that the last one names, are a line that has one writer.
use Rattle.std.specs.Prelude.{ℕ, ◌≡◌, ◌≢◌, ◌<◌, ◌==◌, true, List, [], ◌∷◌, ◌++◌, length, if◌then◌else◌, ⊤}
use mathlib.Core.List.{IsPrefix}
use Rattle.logbook.specs.Pages.{Cell, Step, View, Book, Named, cell, may_make}
use Rattle.act_desk.specs.declared.event.Event.{Event}
use Rattle.act_desk.specs.declared.event.Note.{Note}

-- the events of the line that begins at a key
abbrev pub line : ℕ → List Note → List Event
line key [] = []
line key (note ∷ log) = if note.from == key then note.event ∷ line note.to log else line key log

-- the key of its next note
abbrev pub next_of : ℕ → List Note → ℕ
next_of key [] = key
next_of key (note ∷ log) = if note.from == key then next_of note.to log else next_of key log

-- no note has this key
abbrev pub IsUnused : ℕ → List Note → Type 0
IsUnused key [] = ⊤
IsUnused key (note ∷ log) = (note.from ≢ key) × IsUnused key log

-- each token of a note is used up
abbrev pub AreUsed : List Cell → List Note → Type 0
AreUsed cells [] = ⊤
AreUsed cells (note ∷ log) = ((cell cells note.from).1 ≡ true) × AreUsed cells log

-- The first word of the book is shared by all steps.
pub record IsKept (cells : List Cell) (log : List Note) : Type 0 where
  pub some : 0 < length cells
  pub head : (cell cells 0).1 ≡ true
  pub used : AreUsed cells log

abbrev pub head_of : Book → Named
head_of book = record { tracked = true; key = 0; book = book }

-- A token was made, whose key has no note.
abbrev pub Reserves : Step Note → View Note ℕ → ℕ → View Note ℕ → Type 0
Reserves step old found new = (new.1.0.right ≡ may_make) × IsUnused new.1.0.key new.0

-- The whole book was seen, and no note has the key of the token.
abbrev pub Looks : Step Note → View Note ℕ → ℕ → View Note ℕ → Type 0
Looks step old found new = (new.1.0 ≡ old.1.0) × IsUnused old.1.0.key new.0

-- The whole book was seen, and the event was noted after it, with the key of the token.
pub record Adds (step : Step Note) (old : View Note ℕ) (found : ℕ) (new : View Note ℕ) : Type 0 where
  pub log : List Note
  pub seen : IsPrefix old.0 log
  pub unused : IsUnused old.1.0.key log
  pub noted : new.0 ≡ log ++ record { from = old.1.0.key; to = step.ask.to; event = step.ask.event } ∷ []
