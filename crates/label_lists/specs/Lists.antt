-- Lists of the labels of legs, by number, and the runs that may have a ready leg for each. Number 0 is for legs whose labels have
-- no known list. This is defined by this project.
use Rattle.std.specs.Prelude.{◌≡◌, ◌<◌, ◌&&◌, ◌+◌, ℕ, zero, suc, List, Bool, true, nat_eq, Option, None, Some, slice_get, if◌then◌else◌}
use Rattle.run_marks.specs.Marked.{Covers, is_marked}
use Rattle.label_lists.specs.Requesting.{RequestingState}
use Rattle.label_lists.specs.Known.{requests_at, offers_at}

-- the lists from number 1 on, with the runs of each, and the marks of number 0 by run
pub record ListsState : Type 0 where
  pub lists : List (List (List ℕ))
  pub requesting : List RequestingState
  pub unknown : List ℕ

-- the labels of a number
abbrev pub labels_of : ListsState → ℕ → Option (List (List ℕ))
labels_of l zero = None
labels_of l (suc k) = slice_get l.lists k

-- the run can be marked under a number
abbrev pub HasPlace : ListsState → ℕ → ℕ → Type 0
HasPlace l zero run = Covers l.unknown (run + 1)
HasPlace l (suc k) run = requests_at l.requesting k run ≡ true

-- the labels have a number, under which a later run can be marked already and this run cannot
pub record IsPassedUnder (l : ListsState) (labels : List (List ℕ)) (run : ℕ) : Type 0 where
  pub number : ℕ
  pub has_number : labels_of l number ≡ Some labels
  pub not_yet : HasPlace l number run → ⊥
  pub later : ℕ
  pub suffix : run < later
  pub already : HasPlace l number later

-- whether the run may have a ready leg for the number
abbrev pub may_offer : ListsState → ℕ → ℕ → Bool
may_offer l zero run = is_marked l.unknown run
may_offer l (suc k) run = offers_at l.requesting k run

-- no list has two numbers
abbrev pub IsOnceEach : ListsState → Type 0
IsOnceEach l = (m n : ℕ) (labels : List (List ℕ)) → labels_of l m ≡ Some labels → labels_of l n ≡ Some labels → m ≡ n

-- ---- changes

-- all numbers keep their labels and their runs, and the same runs may have ready legs
pub record OnlyGrows (old new : ListsState) : Type 0 where
  pub labels : (number : ℕ) (labels : List (List ℕ)) → labels_of old number ≡ Some labels → labels_of new number ≡ Some labels
  pub places : (number run : ℕ) → HasPlace old number run → HasPlace new number run
  pub offers : (number run : ℕ) → may_offer new number run ≡ may_offer old number run

-- the mark of one run for one number has the given value; everything else is unchanged
pub record PutsOffer (to : Bool) (number run : ℕ) (old new : ListsState) : Type 0 where
  pub labels : (n : ℕ) → labels_of new n ≡ labels_of old n
  pub places : (n r : ℕ) → HasPlace old n r → HasPlace new n r
  pub offers : (n r : ℕ) → may_offer new n r ≡ (if nat_eq n number && nat_eq r run then to else may_offer old n r)
