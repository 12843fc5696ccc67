-- The runs that have legs with one list of labels, in increasing order, with a mark for each by its index. A run that may have a
-- ready leg with these labels is marked. This is defined by this project.
use Rattle.std.specs.Prelude.{ℕ, List, Bool, false, nat_eq, is_some, Option}
use Rattle.std.specs.List.{position}
use Rattle.std.specs.Option.{option_map_or}
use Rattle.run_marks.specs.Marked.{is_marked}

pub record RequestingState : Type 0 where
  pub runs : List ℕ
  pub marks : List ℕ

-- the index of a run
abbrev pub index_of : List ℕ → ℕ → Option ℕ
index_of runs run = position (nat_eq run) runs

-- whether the run is in the list
abbrev pub requests_in : RequestingState → ℕ → Bool
requests_in requesting run = is_some (index_of requesting.runs run)

-- whether the run may have a ready leg with these labels
abbrev pub may_offer_in : RequestingState → ℕ → Bool
may_offer_in requesting run = option_map_or (is_marked requesting.marks) (index_of requesting.runs run) false
