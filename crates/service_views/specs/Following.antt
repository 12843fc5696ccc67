-- How the changes of a service follow the history and the table of its store.
use Rattle.std.specs.Prelude.{◌≡◌, ◌⊎◌, ℕ, ◌+◌, ◌<◌, ◌^◌, List, ◌++◌, filter_map, length, map, Option, None, Some}
use Rattle.run_plan.specs.declared.command.Command.{Command}
use Rattle.run_plan.specs.declared.command.Command.TheVariants as command
use Rattle.run_plan.specs.declared.reply.Reply.{Reply}
use Rattle.run_plan.specs.declared.reply.Reply.TheVariants as reply
use Rattle.act_store.specs.declared.entry.Entry.{Entry}
use Rattle.table_model.specs.TableState.{TableState}
use Rattle.covered_log.specs.Lines.{Change, Entered, entries_of, with_all}
use Rattle.covered_log.specs.LogState.{LogState}
use Rattle.covered_log.specs.Standings.{Standings, table_news, told_after}
use Rattle.service_views.specs.declared.changes.Changes.{Changes}

-- an entry as the changes have it
abbrev pub told_of : Entry → Command × Reply
told_of e = (e.command, e.reply)

-- with the time of its commit
abbrev pub entered : ℕ → Entry → Change
entered at e = Entered at e.command e.reply

-- Beside runs and legs, the changes gain exactly these entries, in order, each once, if there is room for so many.
abbrev pub TakesUp : List Entry → LogState → LogState → Type 0
TakesUp entries old new =
    length old.changes + length entries < 2 ^ 64 → entries_of new.changes ≡ entries_of old.changes ++ map told_of entries

-- the run that an entry has cancelled, if it has
abbrev pub cancelled_by : Command → Reply → Option ℕ
cancelled_by (command.Cancel run) reply.Ok = Some run
cancelled_by _ _ = None

abbrev pub cancelled_in : List Entry → List ℕ
cancelled_in entries = filter_map (λ e. cancelled_by e.command e.reply) entries

-- After changes, what a table gives is told to those that knew how its runs stood; so they know how these stand now. Commands have cancelled
-- these runs since.
pub record TellsTable (at : ℕ) (cancelled : List ℕ) (t : TableState) (changes : List Change) (old new : Changes) : Type 0 where
  pub known : Standings
  pub were : old.standings ≡ Some known
  pub are : new.standings ≡ Some (told_after new.leases.names t known)
  pub told : new.log.changes ≡ with_all changes (table_news at cancelled new.leases.names t known)

-- No line is kept: every reader has to list again.
abbrev pub KeepsNoLine : Changes → Type 0
KeepsNoLine k = length k.log.changes + 1 < 2 ^ 64 → k.log.first ≡ length k.log.changes

-- The table is told, or there was no memory for it.
abbrev pub TellsOrForgets : ℕ → List ℕ → TableState → List Change → Changes → Changes → Type 0
TellsOrForgets at cancelled t changes old new = TellsTable at cancelled t changes old new ⊎ KeepsNoLine new

-- The entries are told with the time of their commit, and then the table; or there was no memory for it.
abbrev pub Tells : ℕ → TableState → List Entry → Changes → Changes → Type 0
Tells at t entries old new = TellsOrForgets at (cancelled_in entries) t (with_all old.log.changes (map (entered at) entries)) old new
