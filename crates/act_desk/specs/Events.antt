-- What happens at a desk, in order: an entry is made, more entries are covered, or a reply is released.
use Rattle.std.specs.Prelude.{ℕ, List, [], ◌∷◌, flat_map, sum_by}
use Rattle.act_store.specs.declared.entry.Entry.{Entry}
use Rattle.act_desk.specs.declared.event.Event.{Event}
use Rattle.act_desk.specs.declared.event.Event.TheVariants.{Covered, Entered, Told}

abbrev pub entry_of_event : Event → List Entry
entry_of_event (Entered entry) = entry.value ∷ []
entry_of_event (Covered more) = []
entry_of_event Told = []

abbrev pub covered_by : Event → ℕ
covered_by (Entered entry) = 0
covered_by (Covered more) = more
covered_by Told = 0

abbrev pub told_by : Event → ℕ
told_by (Entered entry) = 0
told_by (Covered more) = 0
told_by Told = 1

-- the entries, in order
abbrev pub entries_in : List Event → List Entry
entries_in events = flat_map entry_of_event events

-- how many entries are covered
abbrev pub covered_in : List Event → ℕ
covered_in events = sum_by covered_by events

-- how many replies are released
abbrev pub told_in : List Event → ℕ
told_in events = sum_by told_by events
