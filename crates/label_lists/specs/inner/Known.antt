-- Lists of labels by number, each with the runs that have legs with these labels. This is defined by this project.
use Rattle.std.specs.Prelude.{◌≡◌, ◌≤◌, ◌&&◌, ℕ, List, length, Bool, true, false, nat_eq, Some, slice_get, if◌then◌else◌}
use Rattle.label_lists.specs.Known.{requests_at, offers_at}
use Rattle.run_marks.specs.Marked.{Covers, is_marked}
use Rattle.label_lists.specs.Requesting.{RequestingState}
use Rattle.label_lists.specs.inner.Requesting.{IsPassed}

-- the lists in the order of their numbers, and the runs of each
pub record KnownState : Type 0 where
  pub lists : List (List (List ℕ))
  pub requesting : List RequestingState

-- no list has two numbers
abbrev pub HasEachOnce : List (List (List ℕ)) → Type 0
HasEachOnce lists = (m n : ℕ) (labels : List (List ℕ)) → slice_get lists m ≡ Some labels → slice_get lists n ≡ Some labels → m ≡ n

-- the list has a number, under which a later run is entered already and this run is not
pub record IsPassedFor (known : KnownState) (labels : List (List ℕ)) (run : ℕ) : Type 0 where
  pub number : ℕ
  pub has_number : slice_get known.lists number ≡ Some labels
  pub passed : IsPassed (requests_at known.requesting number) run

-- each list for which some run may have a ready leg is marked, and only lists are marked
pub record AreMarked (requesting : List RequestingState) (offering : List ℕ) : Type 0 where
  pub covers : Covers offering (length requesting)
  pub marked : (number run : ℕ) → offers_at requesting number run ≡ true → is_marked offering number ≡ true
  pub none_after : (number : ℕ) → length requesting ≤ number → is_marked offering number ≡ false

-- ---- changes

-- all lists keep their numbers and their runs, and the same runs may have ready legs
pub record OnlyEnters (old new : KnownState) : Type 0 where
  pub lists : (number : ℕ) (labels : List (List ℕ)) → slice_get old.lists number ≡ Some labels → slice_get new.lists number ≡ Some labels
  pub requests : (number run : ℕ) → requests_at old.requesting number run ≡ true → requests_at new.requesting number run ≡ true
  pub offers : (number run : ℕ) → offers_at new.requesting number run ≡ offers_at old.requesting number run

-- the mark of one run in one list has the given value; all others are unchanged
abbrev pub PutsAt : Bool → ℕ → ℕ → List RequestingState → List RequestingState → Type 0
PutsAt to number run old new = (n r : ℕ) → offers_at new n r ≡ (if nat_eq n number && nat_eq r run then to else offers_at old n r)

-- the lists have the same runs
abbrev pub SameRequested : List RequestingState → List RequestingState → Type 0
SameRequested old new = (n r : ℕ) → requests_at new n r ≡ requests_at old n r
