-- The numbers of the lists of labels that the legs of a run ask for, if these do not depend on the results of its jobs, and which runs are
-- marked for a list: each run with a ready leg that asks for it. Other runs may be marked too.
use Rattle.std.specs.Prelude.{◌≡◌, ◌⊎◌, ℕ, List, MatchOption, Option, Some, None, option_and_then, slice_get, unwrap_or}
use Rattle.std.specs.Option.{option_map_or}
use Rattle.label_lists.specs.Lists.{HasPlace, ListsState, labels_of}
use Rattle.table_bindings.specs.declared.bindings.JobBindings.{JobBindings}
use Rattle.table_bindings.specs.declared.label_numbers.ListNumbers.{ListNumbers}
use Rattle.table_bindings.specs.declared.resolved_labels.ResolvedLabels.{ResolvedLabels}
use Rattle.table_bindings.specs.declared.resolved_labels.ResolvedLabels.TheVariants as wanted

abbrev pub kept_texts : ResolvedLabels → Option (List (List ℕ))
kept_texts (wanted.Known texts) = Some texts
kept_texts (wanted.ByResults labels) = None

-- the labels kept for a leg, or else those that its job's labels have in every context
abbrev pub texts_in : JobBindings → ℕ → Option (List (List ℕ))
texts_in job l = option_map_or kept_texts (slice_get job.labels l) job.plain

-- the labels of a leg, if they are known
abbrev pub texts_of : List JobBindings → ℕ → ℕ → Option (List (List ℕ))
texts_of jobs j l = option_and_then (λ job. texts_in job l) (slice_get jobs j)

-- of a leg of a job: its own number, or the one for all legs of its job
abbrev pub number_in : ListNumbers → ℕ → ℕ
number_in job l = unwrap_or (slice_get job.legs l) job.whole

-- of a leg of a run: 0 if it has none
abbrev pub list_number : List ListNumbers → ℕ → ℕ → ℕ
list_number jobs j l = option_map_or (λ job. number_in job l) (slice_get jobs j) 0

-- the run can be marked under the number, which is 0 or that of a list with these texts
pub record IsListOf (lists : ListsState) (r : ℕ) (texts : Option (List (List ℕ))) (n : ℕ) : Type 0 where
  pub place : HasPlace lists n r
  pub says : (n ≡ 0) ⊎ MatchOption texts ⊥ (λ labels. labels_of lists n ≡ Some labels)

abbrev pub AreListsOf : ListsState → ℕ → List JobBindings → List ListNumbers → Type 0
AreListsOf lists r jobs numbers = (j l : ℕ) → IsListOf lists r (texts_of jobs j l) (list_number numbers j l)
