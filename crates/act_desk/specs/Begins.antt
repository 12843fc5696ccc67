-- The entries in a list of entries or events.
use Rattle.std.specs.Prelude.{◌≡◌, ℕ, ◌<◌, ◌≤◌, List, length, slice_get, Some}
use Rattle.act_store.specs.declared.entry.Entry.{Entry}
use Rattle.act_desk.specs.Events.{covered_in, entries_in}
use Rattle.act_desk.specs.declared.event.Event.{Event}

-- The entry is in what was seen, after every entry that had been seen before, and it is covered.
pub record IsCoveredAfter (before seen : List Event) (entry : Entry) : Type 0 where
  pub place : ℕ
  pub at : slice_get (entries_in seen) place ≡ Some entry
  pub later : length (entries_in before) ≤ place
  pub covers : place < covered_in seen
