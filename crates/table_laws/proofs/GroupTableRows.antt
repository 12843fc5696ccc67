-- The holders of a group in explicit tables, by evaluation.
use Rattle.std.specs.Prelude.{◌≡◌, ℕ, List, [], ◌∷◌, ◌++◌, codes, true, Some, None, refl}
use Rattle.wf_value.specs.declared.outcome.Outcome.TheVariants as outcome
use Rattle.group_name.specs.Group.{Group}
use Rattle.table_model.specs.Groups.{group_state, holders_in, pending_in, in_progress_in}
use Rattle.table_model.specs.GroupLaw.{Move}
use Rattle.table_model.specs.Runs.{RunState}
use Rattle.table_model.specs.declared.phases.JobPhase.TheVariants as job
use Rattle.table_model.specs.declared.phases.LegPhase.TheVariants as leg
use Rattle.table_model.specs.declared.phases.RunPhase.TheVariants as run
use Rattle.run_table.proofs.OnTables.{on_tables}
use Rattle.run_table.proofs.StepRows.{run_with}
use Rattle.table_laws.specs.GroupChanges.{base_moves}
use Rattle.table_model.specs.declared.holder.Holder.{Holder}
use Rattle.table_model.specs.declared.holder.Holder.TheVariants.{Run, Leg}

-- a group of the repository
abbrev pub group : List ℕ → Group
group name = record { repository = codes "o/r"; folded = name }

-- a workflow with the group
abbrev in_group : List ℕ
in_group = codes "{\"repo\":\"o/r\",\"path\":\"p\",\"workflow\":{\"concurrency\":\"g\",\"jobs\":{\"a\":{\"runs-on\":\"x\"}}}}"

-- an ended run, a live one and a waiting one
abbrev three_runs : List RunState
three_runs = run_with in_group run.Ended [] ∷ run_with in_group run.Live [] ∷ run_with in_group run.Waiting [] ∷ []

run_in_progress : in_progress_in three_runs (group (codes "g")) ≡ Run 1 ∷ []
unfolding on_tables
run_in_progress = refl

run_pending : pending_in three_runs (group (codes "g")) ≡ Run 2 ∷ []
unfolding on_tables
run_pending = refl

other_group_is_free : holders_in three_runs (group (codes "h")) ≡ []
unfolding on_tables
other_group_is_free = refl

-- its base moves are those of the last two
runs_begin : base_moves (group_state three_runs (group (codes "g")))
    ≡ Move.arrive (Run 1) ∷ Move.start (Run 1) ∷ Move.arrive (Run 2) ∷ []
unfolding on_tables
runs_begin = refl

-- a workflow with a job in the group
abbrev with_job_in_group : List ℕ
with_job_in_group =
    codes "{\"repo\":\"o/r\",\"path\":\"p\",\"workflow\":{\"jobs\":{\"a\":{\"runs-on\":\"x\",\"concurrency\":\"g\","
    ++ codes "\"strategy\":{\"matrix\":{\"n\":[1,2,3,4]}}}}}}"

-- a leg that has ended, one that is asked to stop, a waiting one and a new one
abbrev four_legs : List RunState
four_legs = run_with with_job_in_group run.Live (record {
  phase = job.Open;
  legs =
      record { phase = leg.Ended outcome.Success; lease = Some 1 } ∷ record { phase = leg.Stopping; lease = Some 2 }
      ∷ record { phase = leg.Waiting; lease = None } ∷ record { phase = leg.New; lease = None } ∷ [];
} ∷ []) ∷ []

abbrev leg_at_place : ℕ → Holder
leg_at_place l = Leg (record { run = 0; job = 0; leg = l })

-- a holder that is asked to stop still holds the group
stopping_leg_holds : group_state four_legs (group (codes "g"))
    ≡ record { in_progress = Some (leg_at_place 1); stopping = true; pending = Some (leg_at_place 2) }
unfolding on_tables
stopping_leg_holds = refl

new_leg_has_not_arrived : holders_in four_legs (group (codes "g")) ≡ leg_at_place 1 ∷ leg_at_place 2 ∷ []
unfolding on_tables
new_leg_has_not_arrived = refl

stopping_leg_begins : base_moves (group_state four_legs (group (codes "g")))
    ≡ Move.arrive (leg_at_place 1) ∷ Move.start (leg_at_place 1) ∷ Move.stop (leg_at_place 1) ∷ Move.arrive (leg_at_place 2) ∷ []
unfolding on_tables
stopping_leg_begins = refl
