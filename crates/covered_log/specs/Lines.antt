-- The changes since a service began, and their lines.
use Rattle.std.specs.Prelude.{ℕ, ◌+◌, ◌^◌, List, [], ◌∷◌, ◌++◌, length, nat_lt, if◌then◌else◌}
use Rattle.std.specs.List.{flat_map}
use Rattle.run_plan.specs.declared.command.Command.{Command}
use Rattle.run_plan.specs.declared.reply.Reply.{Reply}
use Rattle.table_model.specs.Runs.{RunState}
use Rattle.table_model.specs.TableState.{TableState}
use Rattle.table_model.specs.ViewText.{Seen}
use Rattle.table_views.specs.ChangeLines.{entry_line, forgotten_line, leg_change_line, attempt_line, run_change_line}
use Rattle.table_views.specs.declared.told_legs.LegNews.{LegNews}
use Rattle.covered_log.specs.Displaced.{displaced_line}

-- What a line tells, and the time of its commit: an entry; a run of a table that begins an attempt; a run with its id, or a leg, as it stands
-- after the entries before; the run at an index of these that made way for a newcomer of its group; that the runs with ids through one are
-- forgotten. A missed change is one of runs and legs that there was no memory to tell: it has no line, and is counted as one.
pub data Change : Type 0 where
  Entered : ℕ → Command → Reply → Change
  Begins : ℕ → TableState → Seen → Change
  Stands : ℕ → ℕ → RunState → Change
  LegStands : ℕ → LegNews → Change
  Displaced : ℕ → List RunState → ℕ → RunState → Change
  Forgets : ℕ → ℕ → Change
  Missed : Change

-- the entries among changes, in order
abbrev pub entries_in : Change → List (Command × Reply)
entries_in (Entered at command reply) = (command, reply) ∷ []
entries_in (Begins at t seen) = []
entries_in (Stands at id run) = []
entries_in (LegStands at news) = []
entries_in (Displaced at runs r run) = []
entries_in (Forgets at through) = []
entries_in Missed = []

abbrev pub entries_of : List Change → List (Command × Reply)
entries_of changes = flat_map entries_in changes

-- The line of a change after so many entries: the place of an entry counts from 1.
abbrev pub line_of : ℕ → Change → List ℕ
line_of place (Entered at command reply) = entry_line (place + 1) at command reply
line_of place (Begins at t seen) = attempt_line place at t seen
line_of place (Stands at id run) = run_change_line place at id run
line_of place (LegStands at news) = leg_change_line place at news
line_of place (Displaced at runs r run) = displaced_line place at runs r run
line_of place (Forgets at through) = forgotten_line place at through
line_of place Missed = []

-- the lines of changes after so many entries
abbrev pub lines_after : ℕ → List Change → List (List ℕ)
lines_after place [] = []
lines_after place (c ∷ cs) = line_of place c ∷ lines_after (place + length (entries_in c)) cs

-- the lines of all changes
abbrev pub lines_of : List Change → List (List ℕ)
lines_of changes = lines_after 0 changes

-- one more change, if there is room for it: there are fewer than 2^64
abbrev pub with_more : List Change → Change → List Change
with_more changes c = if nat_lt (length changes + 1) (2 ^ 64) then changes ++ c ∷ [] else changes

-- more changes, as many as there is room for
abbrev pub with_all : List Change → List Change → List Change
with_all changes [] = changes
with_all changes (c ∷ cs) = with_all (with_more changes c) cs
