-- The runs that a table has forgotten, and what it keeps of them: ids and numbers of runs go on from theirs, and a delivery of one of the last
-- of them makes no second run. GitHub Docs, "Contexts reference", github.run_id and github.run_number; "Webhook events and payloads"
-- (X-GitHub-Delivery). This project defines that a workflow is identified by its repository and its path, that ids count from 1, and for how
-- long the delivery of a forgotten run is known.
use Rattle.std.specs.Prelude.{ℕ, ◌+◌, ◌-◌, ◌&&◌, List, [], ◌∷◌, ◌++◌, map, filter, find, length, drop, Bool, true}
use Rattle.std.specs.Cmp.Lexicographic.{slice_cmp}
use Rattle.std.specs.Option.{option_map_or}
use Rattle.std.specs.Ordering.{is_lt, nat_cmp, ordering_then}
use Rattle.std.specs.Str.{bytes_eq}
use Rattle.std.specs.declared.cmp.Ordering.{Ordering}
use Rattle.wf_reader.specs.Event.{event_of}
use Rattle.definitions.specs.SmallText.{Admitted}
use Rattle.table_model.specs.LegContext.{runs_of_workflow}
use Rattle.table_model.specs.Runs.{RunState, new_run}

-- a workflow, by its repository and its path, with how many of its runs are forgotten
pub record WorkflowCount : Type 0 where
  pub repo : List ℕ
  pub path : List ℕ
  pub runs : ℕ

-- The runs with the ids 1 through this one are forgotten. Each workflow that had one of them has its count. The deliveries of the last of them
-- are kept, the oldest first.
pub record ForgottenRuns : Type 0 where
  pub through : ℕ
  pub counts : List WorkflowCount
  pub deliveries : List (List ℕ)

abbrev pub none_forgotten : ForgottenRuns
none_forgotten = record { through = 0; counts = []; deliveries = [] }

-- of how many forgotten runs the deliveries are kept
abbrev pub max_kept_deliveries : ℕ
max_kept_deliveries = 10000

-- ---- lists in an order

-- the elements strictly increase
abbrev pub increases : {X : Type 0} → (X → X → Ordering) → List X → Bool
increases order [] = true
increases order (x ∷ []) = true
increases order (x ∷ y ∷ ys) = is_lt (order x y) && increases order (y ∷ ys)

-- the elements before it, the element in place of any that is equal to it, and the elements after it
abbrev pub put_in_order : {X : Type 0} → (X → X → Ordering) → List X → X → List X
put_in_order order xs x = filter (λ y. is_lt (order y x)) xs ++ x ∷ filter (λ y. is_lt (order x y)) xs

-- ---- the counts of workflows, in byte order: by the repository, then by the path

abbrev pub workflow_order : WorkflowCount → WorkflowCount → Ordering
workflow_order a b = ordering_then (slice_cmp nat_cmp a.repo b.repo) (slice_cmp nat_cmp a.path b.path)

-- whether it is the count of the workflow of an event
abbrev pub counts_workflow : Admitted → WorkflowCount → Bool
counts_workflow event count = bytes_eq (event_of event.body).repo count.repo && bytes_eq (event_of event.body).path count.path

-- how many runs of the workflow of an event are forgotten
abbrev pub forgotten_of : List WorkflowCount → Admitted → ℕ
forgotten_of counts event = option_map_or (λ count. count.runs) (find (counts_workflow event) counts) 0

-- the count of the workflow of an event with one run more
abbrev pub next_count : List WorkflowCount → Admitted → WorkflowCount
next_count counts event = record {
  repo = (event_of event.body).repo;
  path = (event_of event.body).path;
  runs = forgotten_of counts event + 1;
}

-- each of these runs is counted
abbrev pub counted : List WorkflowCount → List RunState → List WorkflowCount
counted counts [] = counts
counted counts (run ∷ runs) = counted (put_in_order workflow_order counts (next_count counts run.admitted)) runs

-- ---- runs that are forgotten too

-- the last so many elements
abbrev pub last_of : {X : Type 0} → ℕ → List X → List X
last_of n xs = drop (length xs - n) xs

abbrev pub deliveries_of : List RunState → List (List ℕ)
deliveries_of runs = map (λ run. run.admitted.delivery) runs

-- the runs that come next are forgotten too
abbrev pub with_forgotten : ForgottenRuns → List RunState → ForgottenRuns
with_forgotten forgotten runs = record {
  through = forgotten.through + length runs;
  counts = counted forgotten.counts runs;
  deliveries = last_of max_kept_deliveries (forgotten.deliveries ++ deliveries_of runs);
}

-- ---- the id and the number of the run that comes after the forgotten runs and these: the next id, and how many runs of its workflow there
-- have been with it

abbrev pub number_of_next : ForgottenRuns → List RunState → Admitted → ℕ
number_of_next forgotten runs event = forgotten_of forgotten.counts event + runs_of_workflow event runs + 1

-- the run that an event makes then
abbrev pub next_run : ForgottenRuns → List RunState → Admitted → RunState
next_run forgotten runs event = new_run (forgotten.through + length runs + 1) (number_of_next forgotten runs event) event
