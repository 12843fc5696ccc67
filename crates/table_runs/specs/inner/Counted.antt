-- How many runs there are of each workflow. A workflow is identified by its repository and its path.
use Rattle.std.specs.Prelude.{◌≡◌, ◌+◌, ◌++◌, ℕ, List, count_by}
use Rattle.std.specs.Hash as fed
use Rattle.std.specs.Option.{option_map_or}
use Rattle.indexmap.specs.IndexMap.{IndexMap, get}
use Rattle.wf_reader.specs.Event.{event_of}
use Rattle.definitions.specs.SmallText.{Admitted}
use Rattle.table_model.specs.LegContext.{runs_of_workflow, same_workflow}
use Rattle.table_model.specs.Runs.{RunState}
use Rattle.table_runs.specs.declared.rows.counts.Counted.{Counted}

-- what the hash of the workflow of an event is fed
abbrev pub hashed : Admitted → List (List ℕ)
hashed event = fed.str (event_of event.body).repo ++ fed.str (event_of event.body).path

-- how many runs are counted for the workflow of an event
abbrev pub count_of : {S : Type 0} → IndexMap Admitted Counted S → Admitted → ℕ
count_of counts event = option_map_or (λ c. c.runs) (get same_workflow counts event) 0

-- each workflow has the count of its events among these
abbrev pub AreCounted : {S : Type 0} → List Admitted → IndexMap Admitted Counted S → Type 0
AreCounted events counts = (event : Admitted) → count_of counts event ≡ count_by (same_workflow event) events

-- the number that the next run of an event has among these runs
abbrev pub number_among : List RunState → Admitted → ℕ
number_among runs event = runs_of_workflow event runs + 1
