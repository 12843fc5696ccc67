-- The numbers of the lists of labels that the legs of a run ask for, if these do not depend on the results of its jobs, and which runs are
-- marked for a list: each run with a ready leg that asks for it. Other runs may be marked too.
use Rattle.std.specs.Prelude.{◌≡◌, ◌⊎◌, ℕ, List, Bool, true, false, Some, slice_get}
use Rattle.std.specs.Prelude.{◌&&◌, nat_eq}
use Rattle.std.specs.List.{list_any}
use Rattle.std.specs.Option.{option_map_or}
use Rattle.table_bindings.specs.LabelNumbers.{list_number, AreListsOf}
use Rattle.label_lists.specs.Lists.{HasPlace, ListsState, labels_of, may_offer}
use Rattle.table_model.specs.Runs.{placed, leg_at, JobState, LegState, RunState}
use Rattle.table_model.specs.Fitting.{has_labels, is_ready}
use Rattle.table_model.specs.declared.sites.LegSite.{LegSite}
use Rattle.table_bindings.specs.KnownLabels.{AreAlike}
use Rattle.table_bindings.specs.declared.bindings.RunBindings.{RunBindings}
use Rattle.table_bindings.specs.declared.label_numbers.ListNumbers.{ListNumbers}

-- ---- the ready legs of a run

-- whether leg `l` of these is ready, and whether leg `l` of job `j` of these is
abbrev pub is_ready_leg : List LegState → ℕ → Bool
is_ready_leg legs l = option_map_or (λ leg. is_ready leg.phase) (slice_get legs l) false

abbrev pub is_ready_in : List JobState → ℕ → ℕ → Bool
is_ready_in jobs j l = option_map_or (λ job. is_ready_leg job.legs l) (slice_get jobs j) false

-- whether a leg of a job is ready and has the number
abbrev pub leg_offers : List ListNumbers → ℕ → ℕ → ℕ × LegState → Bool
leg_offers numbers number j leg = is_ready leg.1.phase && nat_eq (list_number numbers j leg.0) number

-- whether the job has such a leg
abbrev pub job_offers : List ListNumbers → ℕ → ℕ × JobState → Bool
job_offers numbers number job = list_any (leg_offers numbers number job.0) (placed job.1.legs)

-- whether the run has such a leg
abbrev pub offers_list : RunState → List ListNumbers → ℕ → Bool
offers_list run numbers number = list_any (job_offers numbers number) (placed run.jobs)

-- ---- which runs are marked

-- the leg there is ready
abbrev pub IsReadyAt : List RunState → LegSite → Type 0
IsReadyAt runs p = option_map_or (λ l. is_ready l.phase) (leg_at runs p) false ≡ true

-- the run is marked for the list of the leg
abbrev pub IsOffered : ListsState → RunBindings → LegSite → Type 0
IsOffered lists kept p = may_offer lists (list_number kept.lists p.job p.leg) p.run ≡ true

-- the run is marked for the lists of the ready legs of a job, and of all its jobs
abbrev pub LegsOffer : ListsState → List ListNumbers → ℕ → ℕ → List LegState → Type 0
LegsOffer lists numbers r j legs = (l : ℕ) → is_ready_leg legs l ≡ true → may_offer lists (list_number numbers j l) r ≡ true

abbrev pub JobsOffer : ListsState → List ListNumbers → ℕ → List JobState → Type 0
JobsOffer lists numbers r jobs = (j l : ℕ) → is_ready_in jobs j l ≡ true → may_offer lists (list_number numbers j l) r ≡ true

pub record LegsAreOffered (runs : List RunState) (bindings : List RunBindings) (lists : ListsState) : Type 0 where
  pub numbers : (r : ℕ) (kept : RunBindings) → slice_get bindings r ≡ Some kept → AreListsOf lists r kept.jobs kept.lists
  pub offered : (p : LegSite) (kept : RunBindings) → IsReadyAt runs p → slice_get bindings p.run ≡ Some kept → IsOffered lists kept p

-- ---- what a runner may be offered

-- the runner has all labels of some list for which the list of the number is kept
pub record ServesList (lists : ListsState) (labels : List (List ℕ)) (n : ℕ) : Type 0 where
  pub kept : List (List ℕ)
  pub listed : labels_of lists n ≡ Some kept
  pub whole : List (List ℕ)
  pub alike : AreAlike whole kept
  pub served : has_labels labels whole ≡ true

-- legs with this number may fit the runner: it is 0, which says nothing about their labels, or the number of such a list
abbrev pub MayServe : ListsState → List (List ℕ) → ℕ → Type 0
MayServe lists labels n = (n ≡ 0) ⊎ ServesList lists labels n

-- ---- what changes

-- lists keep their labels, and runs keep their places and their marks
pub record OnlyMarks (old new : ListsState) : Type 0 where
  pub labels : (n : ℕ) → labels_of new n ≡ labels_of old n
  pub places : (n r : ℕ) → HasPlace old n r → HasPlace new n r
  pub offers : (n r : ℕ) → may_offer old n r ≡ true → may_offer new n r ≡ true

-- lists keep their labels, runs keep their places, and only marks of run `r` change, to `to`
pub record OnlyPuts (r : ℕ) (to : Bool) (old new : ListsState) : Type 0 where
  pub labels : (n : ℕ) → labels_of new n ≡ labels_of old n
  pub places : (n s : ℕ) → HasPlace old n s → HasPlace new n s
  pub stays : (n : ℕ) → may_offer old n r ≡ to → may_offer new n r ≡ to
  pub others : (n s : ℕ) → (s ≡ r → ⊥) → may_offer new n s ≡ may_offer old n s
