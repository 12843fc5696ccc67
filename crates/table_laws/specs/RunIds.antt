-- The ids and the numbers of runs over many commands. GitHub Docs, "Contexts reference": github.run_id is a unique number for each run within
-- a repository; github.run_number begins at 1 for the first run of a workflow and grows by 1 with each new run; neither changes if the run is
-- re-run. This project defines that ids are unique in a table and grow by 1 too. Runs that are forgotten count.
use Rattle.std.specs.Prelude.{◌≡◌, ℕ, ◌+◌, Some}
use Rattle.definitions.specs.SmallText.{Admitted}
use Rattle.table_model.specs.Forgotten.{forgotten_of}
use Rattle.table_model.specs.LegContext.{runs_of_workflow}
use Rattle.table_model.specs.Runs.{run_at, RunState}
use Rattle.table_model.specs.TableState.{TableState, last_id}

-- how many runs of the workflow of an event there have been
abbrev pub runs_so_far : TableState → Admitted → ℕ
runs_so_far t event = forgotten_of t.forgotten.counts event + runs_of_workflow event t.runs

-- a run of the table has this id, this number and this event
pub record HasRun (t : TableState) (id number : ℕ) (event : Admitted) : Type 0 where
  pub index : ℕ
  pub run : RunState
  pub there : run_at t.runs index ≡ Some run
  pub id_is : run.id ≡ id
  pub number_is : run.number ≡ number
  pub event_is : run.admitted ≡ event

-- between the two tables a run was made for the event, with the next id and its workflow's next number
pub record IsNextRun (t next : TableState) (event : Admitted) (id : ℕ) : Type 0 where
  pub next_id : id ≡ last_id t + 1
  pub is_last : last_id next ≡ id
  pub next_number : runs_so_far next event ≡ runs_so_far t event + 1
  pub made : HasRun next id (runs_so_far next event) event
