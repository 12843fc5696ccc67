-- What is bound of the jobs of a run in one pass: what their legs ask, and beside it the memory for the keys of their groups and the numbers
-- of their lists of labels.
use Rattle.std.specs.Prelude.{◌≡◌, ◌++◌, ◌∷◌, ℕ, List, [], length}
use Rattle.label_lists.specs.Lists.{ListsState}
use Rattle.table_bindings.specs.GroupKeys.{AllAreLater}
use Rattle.table_bindings.specs.LabelNumbers.{AreListsOf, IsListOf, number_in, texts_in}
use Rattle.table_bindings.specs.declared.bindings.JobBindings.{JobBindings}
use Rattle.table_bindings.specs.declared.group_keys.HolderKey.{HolderKey}
use Rattle.table_bindings.specs.declared.label_numbers.ListNumbers.{ListNumbers}

-- one item comes behind the others, of which this is known
abbrev pub AddsOne : {X : Type 0} → (X → Type 0) → List X → List X → Type 0
AddsOne {X} Is old new = (x : X) × (new ≡ old ++ x ∷ []) × Is x

-- the numbers of the lists of labels of a job's legs
abbrev pub AreNumbersOf : ListsState → ℕ → JobBindings → ListNumbers → Type 0
AreNumbersOf lists r job numbers = (l : ℕ) → IsListOf lists r (texts_in job l) (number_in numbers l)

-- beside each job stand the memory for its keys and the numbers of its lists
pub record AreBeside (lists : ListsState) (r : ℕ) (jobs : List JobBindings) (keys : List (List HolderKey)) (numbers : List ListNumbers) : Type 0
  where
    pub as_many : length keys ≡ length jobs
    pub numbered : length numbers ≡ length jobs
    pub later : AllAreLater jobs keys
    pub listed : AreListsOf lists r jobs numbers
