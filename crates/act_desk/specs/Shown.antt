-- What contracts see of the desk: the value under its lock, a seat, and an entered command with its withheld reply.
use Rattle.std.specs.Prelude.{◌≡◌, ℕ, ◌-◌, List, Some, slice_get}
use Rattle.run_plan.specs.declared.command.Command.{Command}
use Rattle.run_plan.specs.declared.reply.Reply.{Reply}
use Rattle.table_model.specs.Step.{stepped}
use Rattle.table_model.specs.TableState.{TableState}
use Rattle.act_sessions.specs.Exchange.{Exchange}
use Rattle.act_store.specs.StoreState.{StoreState}
use Rattle.act_store.specs.declared.entry.Entry.{Entry}
use Rattle.act_desk.specs.Events.{covered_in, entries_in, told_in}
use Rattle.act_desk.specs.declared.event.Event.{Event}

-- The value under the lock.
pub record Shown (D : Type 0) : Type 0 where
  pub store : StoreState D
  -- the sum of all seats' shares of entries, including seats that were given back
  pub entered : ℕ
  -- the same sum for the released replies
  pub answered : ℕ
  -- the number of released replies
  pub released : ℕ

-- A seat: its number, its two shares, and what it has seen of the history.
pub record SeatView : Type 0 where
  pub number : ℕ
  pub entered : ℕ
  pub released : ℕ
  pub seen : List Event

-- A seat that a session uses, and the commands submitted from it.
pub record Seated : Type 0 where
  pub seat : SeatView
  -- the commands submitted so far, each with its answer
  pub asked : List Exchange

-- An entered command: the seat that submitted it, the command, and the position of its entry, counted from 1, in what was seen of the
-- history at that time. The reply is hidden.
pub record Awaited : Type 0 where
  pub seat : ℕ
  pub command : Command
  pub place : ℕ
  pub seen : List Event

-- The events show this store as it is: its entries, how many of them are covered, and how many replies are released.
abbrev pub Shows : {D : Type 0} → List Event → StoreState D → ℕ → Type 0
Shows events store released = (entries_in events ≡ store.history) × (covered_in events ≡ store.covered) × (told_in events ≡ released)

-- The reply is the one of the command's step, from some table.
abbrev pub IsReplyTo : Command → Reply → Type 0
IsReplyTo command reply = (table : TableState) × (reply ≡ (stepped table command).reply)

-- The entry with this reply is in the history, at its position.
abbrev pub IsAnsweredBy : List Entry → Awaited → Reply → Type 0
IsAnsweredBy history pending reply =
    slice_get history (pending.place - 1) ≡ Some (record { seat = pending.seat; command = pending.command; reply = reply })
