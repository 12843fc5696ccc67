-- The runs that have legs with one list of labels, in increasing order, with a mark for each by its index. A run that may have a
-- ready leg with these labels is marked. This is defined by this project.
use Rattle.std.specs.Prelude.{◌≡◌, ◌<◌, ◌≤◌, ℕ, List, length, Bool, true, false, nat_eq, slice_index, if◌then◌else◌}
use Rattle.label_lists.specs.Requesting.{RequestingState, requests_in, may_offer_in}
use Rattle.run_marks.specs.Marked.{Covers, is_marked}

-- a later run has legs with the list, and this run has none, given a test for the runs that have
pub record IsPassed (requests : ℕ → Bool) (run : ℕ) : Type 0 where
  pub not_yet : requests run ≡ false
  pub later : ℕ
  pub suffix : run < later
  pub already : requests later ≡ true

-- the runs increase, each can be marked, and no other index is marked
pub record IsOrdered (runs marks : List ℕ) : Type 0 where
  pub rises : (i j : ℕ) → i < j → j < length runs → slice_index runs i < slice_index runs j
  pub covers : Covers marks (length runs)
  pub none_after : (i : ℕ) → length runs ≤ i → is_marked marks i ≡ false

-- from is the index of the first run that is not less than the given one
pub record Begins (runs : List ℕ) (run from : ℕ) : Type 0 where
  pub before : (k : ℕ) → k < from → k < length runs → slice_index runs k < run
  pub suffix : (k : ℕ) → from ≤ k → k < length runs → run ≤ slice_index runs k

-- ---- changes

-- both have the same runs
abbrev pub SameRequesting : RequestingState → RequestingState → Type 0
SameRequesting old new = (run : ℕ) → requests_in new run ≡ requests_in old run

-- the same runs may have a ready leg
abbrev pub SameOffers : RequestingState → RequestingState → Type 0
SameOffers old new = (run : ℕ) → may_offer_in new run ≡ may_offer_in old run

-- the mark of one run has the given value; all others are unchanged
abbrev pub PutsRun : Bool → ℕ → RequestingState → RequestingState → Type 0
PutsRun to run old new = (r : ℕ) → may_offer_in new r ≡ (if nat_eq r run then to else may_offer_in old r)
