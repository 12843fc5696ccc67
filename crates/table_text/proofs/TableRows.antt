-- Examples, by computation: tables, their bytes and their lengths.
use Rattle.std.specs.Prelude.{◌≡◌, ℕ, List, [], ◌∷◌, ◌++◌, codes, true, false, Option, Some, None, refl}
use Rattle.wf_value.specs.declared.outcome.JobResult.TheVariants as result
use Rattle.wf_value.specs.declared.outcome.Outcome.TheVariants as outcome
use Rattle.stored_tables.specs.Stored.{RunnerParts, TableParts}
use Rattle.table_model.specs.Forgotten.{ForgottenRuns, none_forgotten}
use Rattle.table_model.specs.Parts.{RunParts}
use Rattle.table_model.specs.Runs.{LegState, JobState}
use Rattle.stored_tables.specs.declared.parts.LastParts.TheVariants as last
use Rattle.stored_tables.specs.declared.parts.StoredLease.{StoredLease}
use Rattle.table_model.specs.declared.phases.JobPhase.{JobPhase}
use Rattle.table_model.specs.declared.phases.JobPhase.TheVariants as job_phase
use Rattle.table_model.specs.declared.phases.LegPhase.{LegPhase}
use Rattle.table_model.specs.declared.phases.LegPhase.TheVariants as leg_phase
use Rattle.table_model.specs.declared.phases.RunPhase.{RunPhase}
use Rattle.table_model.specs.declared.phases.RunPhase.TheVariants as run_phase
use Rattle.definitions.specs.Format.{text_bytes, word_bytes}
use Rattle.table_text.specs.TableLengths.{table_length}
use Rattle.table_text.specs.SecondLayout.{second_table}
use Rattle.table_text.specs.Tables.{forgotten, is_attempt, job, names_rise, runner, run, table}

-- without runs or runners, and with none forgotten: twenty zero bytes
abbrev empty : TableParts
empty = record { last_lease = 0; forgotten = none_forgotten; runs = []; runners = [] }

empty_bytes : table.encoding empty ≡ 0 ∷ 0 ∷ 0 ∷ 0 ∷ 0 ∷ 0 ∷ 0 ∷ 0 ∷ 0 ∷ 0 ∷ 0 ∷ 0 ∷ 0 ∷ 0 ∷ 0 ∷ 0 ∷ 0 ∷ 0 ∷ 0 ∷ 0 ∷ []
unfolding word_bytes
empty_bytes = refl

-- a live run whose one job has one ready leg
abbrev first_run : RunParts
first_run = record {
  admitted = record {
    delivery = codes "d1";
    event = codes "push";
    body = codes "{\"repo\":\"o/r\",\"path\":\"ci.json\",\"workflow\":{\"jobs\":{\"build\":{\"runs-on\":\"linux\"}}}}";
  };
  attempt = 1;
  phase = run_phase.Live;
  stopping = false;
  jobs = record { phase = job_phase.Open; legs = record { phase = leg_phase.Ready; lease = None } ∷ [] } ∷ [];
}

abbrev admitted : TableParts
admitted = record { last_lease = 0; forgotten = none_forgotten; runs = first_run ∷ []; runners = [] }

after_the_first_admission : table_length admitted ≡ 135
after_the_first_admission = refl

-- the ready leg has no lease, which is 0
admitted_bytes : table.encoding admitted
    ≡ (0 ∷ 0 ∷ 0 ∷ 0 ∷ 0 ∷ 0 ∷ 0 ∷ 0 ∷ 0 ∷ 0 ∷ 0 ∷ 0 ∷ 0 ∷ 0 ∷ 0 ∷ 1 ∷ 0 ∷ 0 ∷ 0 ∷ 2 ∷ 100 ∷ 49 ∷ 0 ∷ 0 ∷ 0 ∷ 4 ∷ 112 ∷ 117 ∷ 115 ∷ 104 ∷ 0 ∷ 0 ∷ 0 ∷ 81 ∷ [])
    ++ first_run.admitted.body
    ++ (0 ∷ 0 ∷ 0 ∷ 1 ∷ 1 ∷ 0 ∷ 1 ∷ 0 ∷ 0 ∷ 0 ∷ 1 ∷ 2 ∷ 0 ∷ 0 ∷ 0 ∷ 0 ∷ 0 ∷ 0 ∷ 0 ∷ 0 ∷ [])
unfolding text_bytes word_bytes
admitted_bytes = refl

-- its leg running under lease 1
abbrev claimed_run : RunParts
claimed_run = record first_run {
  jobs = record { phase = job_phase.Open; legs = record { phase = leg_phase.Running; lease = Some 1 } ∷ [] } ∷ [];
}

-- a kept lease, of a leg in an attempt of a run
abbrev kept_at_place : ℕ → ℕ → ℕ → ℕ → ℕ → StoredLease
kept_at_place lease run attempt job leg =
    record { lease = lease; place = Some (record { run = run; attempt = attempt; job = job; leg = leg }) }

-- which the first runner holds
abbrev first_runner : RunnerParts
first_runner = record {
  name = codes "r1";
  number = 1;
  last = last.Claim (record { runner = codes "r1"; number = 1; labels = codes "linux" ∷ [] }) (Some (kept_at_place 1 1 1 0 0));
  holds = Some 1;
}

abbrev claimed : TableParts
claimed = record { last_lease = 1; forgotten = none_forgotten; runs = claimed_run ∷ []; runners = first_runner ∷ [] }

after_the_first_claim : table_length claimed ≡ 194
after_the_first_claim = refl

claimed_bytes : table.encoding claimed
    ≡ (0 ∷ 0 ∷ 0 ∷ 1 ∷ 0 ∷ 0 ∷ 0 ∷ 0 ∷ 0 ∷ 0 ∷ 0 ∷ 0 ∷ 0 ∷ 0 ∷ 0 ∷ 1 ∷ 0 ∷ 0 ∷ 0 ∷ 2 ∷ 100 ∷ 49 ∷ 0 ∷ 0 ∷ 0 ∷ 4 ∷ 112 ∷ 117 ∷ 115 ∷ 104 ∷ 0 ∷ 0 ∷ 0 ∷ 81 ∷ [])
    ++ first_run.admitted.body
    ++ (0 ∷ 0 ∷ 0 ∷ 1 ∷ 1 ∷ 0 ∷ 1 ∷ 0 ∷ 0 ∷ 0 ∷ 1 ∷ 3 ∷ 0 ∷ 0 ∷ 0 ∷ 1 ∷ 0 ∷ 0 ∷ 0 ∷ 1 ∷ 0 ∷ 0 ∷ 0 ∷ 2 ∷ 114 ∷ 49 ∷ 0 ∷ 0 ∷ 0 ∷ 1
    ∷ 2 ∷ 0 ∷ 0 ∷ 0 ∷ 2 ∷ 114 ∷ 49 ∷ 0 ∷ 0 ∷ 0 ∷ 1 ∷ 0 ∷ 0 ∷ 0 ∷ 1 ∷ 0 ∷ 0 ∷ 0 ∷ 5 ∷ 108 ∷ 105 ∷ 110 ∷ 117 ∷ 120
    ∷ 1 ∷ 0 ∷ 0 ∷ 0 ∷ 1 ∷ 0 ∷ 0 ∷ 0 ∷ 1 ∷ 0 ∷ 0 ∷ 0 ∷ 1 ∷ 0 ∷ 0 ∷ 0 ∷ 0 ∷ 0 ∷ 0 ∷ 0 ∷ 0 ∷ 0 ∷ 0 ∷ 0 ∷ 1 ∷ [])
unfolding text_bytes word_bytes
claimed_bytes = refl

-- a stopping run of an arbitrary event, at the last attempt, with one finished and one open job
abbrev stopping_run : RunParts
stopping_run = record {
  admitted = record { delivery = codes "d"; event = codes "e"; body = codes "b" };
  attempt = 1000;
  phase = run_phase.Live;
  stopping = true;
  jobs =
      record { phase = job_phase.Finished result.Failure; legs = record { phase = leg_phase.Ended outcome.Failure; lease = Some 1 } ∷ [] }
      ∷ record { phase = job_phase.Open; legs = record { phase = leg_phase.Stopping; lease = Some 258 } ∷ [] }
      ∷ record { phase = job_phase.Blocked; legs = [] } ∷ [];
}

stopping_run_bytes : run.encoding stopping_run
    ≡ 0 ∷ 0 ∷ 0 ∷ 1 ∷ 100 ∷ 0 ∷ 0 ∷ 0 ∷ 1 ∷ 101 ∷ 0 ∷ 0 ∷ 0 ∷ 1 ∷ 98 ∷ 0 ∷ 0 ∷ 3 ∷ 232 ∷ 1 ∷ 1
    ∷ 3 ∷ 0 ∷ 0 ∷ 0 ∷ 1 ∷ 6 ∷ 0 ∷ 0 ∷ 0 ∷ 1
    ∷ 1 ∷ 0 ∷ 0 ∷ 0 ∷ 1 ∷ 4 ∷ 0 ∷ 0 ∷ 1 ∷ 2
    ∷ 0 ∷ 0 ∷ 0 ∷ 0 ∷ 0 ∷ []
unfolding text_bytes word_bytes
stopping_run_bytes = refl

-- a leg in each phase that has a byte, some with the largest lease
abbrev leg_in : LegPhase → Option ℕ → LegState
leg_in phase lease = record { phase = phase; lease = lease }

abbrev job_of_all_phases : JobState
job_of_all_phases = record {
  phase = job_phase.Finished result.Cancelled;
  legs =
      leg_in leg_phase.Waiting None ∷ leg_in leg_phase.Ready None ∷ leg_in leg_phase.Running (Some 1) ∷ leg_in leg_phase.Stopping (Some 2)
      ∷ leg_in (leg_phase.Ended outcome.Success) (Some 999999999) ∷ leg_in (leg_phase.Ended outcome.Failure) (Some 3)
      ∷ leg_in (leg_phase.Ended outcome.Cancelled) (Some 4) ∷ leg_in (leg_phase.Ended outcome.Cancelled) None ∷ [];
}

bytes_of_all_leg_phases : job.encoding job_of_all_phases
    ≡ 4 ∷ 0 ∷ 0 ∷ 0 ∷ 8
    ∷ 1 ∷ 0 ∷ 0 ∷ 0 ∷ 0 ∷ 2 ∷ 0 ∷ 0 ∷ 0 ∷ 0 ∷ 3 ∷ 0 ∷ 0 ∷ 0 ∷ 1 ∷ 4 ∷ 0 ∷ 0 ∷ 0 ∷ 2
    ∷ 5 ∷ 59 ∷ 154 ∷ 201 ∷ 255 ∷ 6 ∷ 0 ∷ 0 ∷ 0 ∷ 3 ∷ 7 ∷ 0 ∷ 0 ∷ 0 ∷ 4 ∷ 7 ∷ 0 ∷ 0 ∷ 0 ∷ 0 ∷ []
unfolding word_bytes
bytes_of_all_leg_phases = refl

-- jobs in each state, without legs, in a run of this phase
abbrev job_in : JobPhase → JobState
job_in phase = record { phase = phase; legs = [] }

abbrev run_in : RunPhase → RunParts
run_in phase = record stopping_run {
  phase = phase;
  stopping = false;
  jobs =
      job_in job_phase.Blocked ∷ job_in job_phase.Open ∷ job_in (job_phase.Finished result.Success) ∷ job_in
      (job_phase.Finished result.Failure)
      ∷ job_in (job_phase.Finished result.Cancelled) ∷ job_in (job_phase.Finished result.Skipped) ∷ [];
}

-- the bytes before the run's phase, and those after its stop flag
abbrev before_phase : List ℕ
before_phase = 0 ∷ 0 ∷ 0 ∷ 1 ∷ 100 ∷ 0 ∷ 0 ∷ 0 ∷ 1 ∷ 101 ∷ 0 ∷ 0 ∷ 0 ∷ 1 ∷ 98 ∷ 0 ∷ 0 ∷ 3 ∷ 232 ∷ []

abbrev six_jobs : List ℕ
six_jobs = 0 ∷ 0 ∷ 0 ∷ 0 ∷ 0 ∷ 1 ∷ 0 ∷ 0 ∷ 0 ∷ 0 ∷ 2 ∷ 0 ∷ 0 ∷ 0 ∷ 0 ∷ 3 ∷ 0 ∷ 0 ∷ 0 ∷ 0 ∷ 4 ∷ 0 ∷ 0 ∷ 0 ∷ 0 ∷ 5 ∷ 0 ∷ 0 ∷ 0 ∷ 0 ∷ []

waiting_run_bytes : run.encoding (run_in run_phase.Waiting) ≡ before_phase ++ 0 ∷ 0 ∷ six_jobs
unfolding text_bytes word_bytes
waiting_run_bytes = refl

live_run_bytes : run.encoding (run_in run_phase.Live) ≡ before_phase ++ 1 ∷ 0 ∷ six_jobs
unfolding text_bytes word_bytes
live_run_bytes = refl

ended_run_bytes : run.encoding (run_in run_phase.Ended) ≡ before_phase ++ 2 ∷ 0 ∷ six_jobs
unfolding text_bytes word_bytes
ended_run_bytes = refl

-- there is none before the first or after the last
no_attempt_zero : is_attempt 0 ≡ false
no_attempt_zero = refl

the_first_attempt : is_attempt 1 ≡ true
the_first_attempt = refl

the_last_attempt : is_attempt 1000 ≡ true
the_last_attempt = refl

none_after_the_last : is_attempt 1001 ≡ false
none_after_the_last = refl

-- a runner that got lease 2 with its third command and holds it: leg 255 of the second job of run 258, in its second
-- attempt
abbrev leased_runner : RunnerParts
leased_runner = record {
  name = codes "r1";
  number = 3;
  last = last.Claim (record { runner = codes "r1"; number = 3; labels = codes "x" ∷ [] }) (Some (kept_at_place 2 258 2 1 255));
  holds = Some 2;
}

leased_runner_bytes : runner.encoding leased_runner
    ≡ 0 ∷ 0 ∷ 0 ∷ 2 ∷ 114 ∷ 49 ∷ 0 ∷ 0 ∷ 0 ∷ 3
    ∷ 2 ∷ 0 ∷ 0 ∷ 0 ∷ 2 ∷ 114 ∷ 49 ∷ 0 ∷ 0 ∷ 0 ∷ 3 ∷ 0 ∷ 0 ∷ 0 ∷ 1 ∷ 0 ∷ 0 ∷ 0 ∷ 1 ∷ 120
    ∷ 1 ∷ 0 ∷ 0 ∷ 0 ∷ 2 ∷ 0 ∷ 0 ∷ 1 ∷ 2 ∷ 0 ∷ 0 ∷ 0 ∷ 2 ∷ 0 ∷ 0 ∷ 0 ∷ 1 ∷ 0 ∷ 0 ∷ 0 ∷ 255
    ∷ 0 ∷ 0 ∷ 0 ∷ 2 ∷ []
unfolding text_bytes word_bytes
leased_runner_bytes = refl

-- a runner that got nothing
abbrev idle_runner : RunnerParts
idle_runner = record {
  name = codes "r";
  number = 1;
  last = last.Claim (record { runner = codes "r"; number = 1; labels = codes "x" ∷ [] }) None;
  holds = None;
}

idle_runner_bytes : runner.encoding idle_runner
    ≡ 0 ∷ 0 ∷ 0 ∷ 1 ∷ 114 ∷ 0 ∷ 0 ∷ 0 ∷ 1
    ∷ 2 ∷ 0 ∷ 0 ∷ 0 ∷ 1 ∷ 114 ∷ 0 ∷ 0 ∷ 0 ∷ 1 ∷ 0 ∷ 0 ∷ 0 ∷ 1 ∷ 0 ∷ 0 ∷ 0 ∷ 1 ∷ 120
    ∷ 0
    ∷ 0 ∷ 0 ∷ 0 ∷ 0 ∷ []
unfolding text_bytes word_bytes
idle_runner_bytes = refl

abbrev reporting_runner : RunnerParts
reporting_runner = record {
  name = codes "r1";
  number = 2;
  last = last.Done (record { runner = codes "r1"; number = 2; lease = 1; result = outcome.Failure });
  holds = None;
}

reporting_runner_bytes : runner.encoding reporting_runner
    ≡ 0 ∷ 0 ∷ 0 ∷ 2 ∷ 114 ∷ 49 ∷ 0 ∷ 0 ∷ 0 ∷ 2
    ∷ 3 ∷ 0 ∷ 0 ∷ 0 ∷ 2 ∷ 114 ∷ 49 ∷ 0 ∷ 0 ∷ 0 ∷ 2 ∷ 0 ∷ 0 ∷ 0 ∷ 1 ∷ 2
    ∷ 2
    ∷ 0 ∷ 0 ∷ 0 ∷ 0 ∷ []
unfolding text_bytes word_bytes
reporting_runner_bytes = refl

-- the last lease, no run, and two runners
two_runners_bytes : table.encoding (record { last_lease = 258; forgotten = none_forgotten; runs = []; runners = idle_runner ∷ leased_runner ∷ [] })
    ≡ (0 ∷ 0 ∷ 1 ∷ 2 ∷ 0 ∷ 0 ∷ 0 ∷ 0 ∷ 0 ∷ 0 ∷ 0 ∷ 0 ∷ 0 ∷ 0 ∷ 0 ∷ 0 ∷ 0 ∷ 0 ∷ 0 ∷ 2 ∷ []) ++ runner.encoding idle_runner ++ runner.encoding leased_runner
unfolding text_bytes word_bytes
two_runners_bytes = refl

-- `r` comes before `r1`, and no name occurs twice
idle_before_leased : names_rise (idle_runner ∷ leased_runner ∷ []) ≡ true
idle_before_leased = refl

leased_before_idle : names_rise (leased_runner ∷ idle_runner ∷ []) ≡ false
leased_before_idle = refl

no_name_twice : names_rise (idle_runner ∷ idle_runner ∷ []) ≡ false
no_name_twice = refl

-- ---- what is kept of forgotten runs: two runs of one workflow, with their deliveries

abbrev two_forgotten : ForgottenRuns
two_forgotten = record {
  through = 2;
  counts = record { repo = codes "o/r"; path = codes "ci.json"; runs = 2 } ∷ [];
  deliveries = codes "d1" ∷ codes "d2" ∷ [];
}

two_forgotten_bytes : forgotten.encoding two_forgotten
    ≡ 0 ∷ 0 ∷ 0 ∷ 2 ∷ 0 ∷ 0 ∷ 0 ∷ 1 ∷ 0 ∷ 0 ∷ 0 ∷ 3 ∷ 111 ∷ 47 ∷ 114 ∷ 0 ∷ 0 ∷ 0 ∷ 7
    ∷ 99 ∷ 105 ∷ 46 ∷ 106 ∷ 115 ∷ 111 ∷ 110 ∷ 0 ∷ 0 ∷ 0 ∷ 2 ∷ 0 ∷ 0 ∷ 0 ∷ 2 ∷ 100 ∷ 49 ∷ 0 ∷ 0 ∷ 0 ∷ 2 ∷ 100 ∷ 50 ∷ []
unfolding text_bytes word_bytes
two_forgotten_bytes = refl

-- the second layout has nothing of them
second_two_runners_bytes : second_table.encoding (record
    { last_lease = 258; forgotten = none_forgotten; runs = []; runners = idle_runner ∷ leased_runner ∷ [] })
    ≡ (0 ∷ 0 ∷ 1 ∷ 2 ∷ 0 ∷ 0 ∷ 0 ∷ 0 ∷ 0 ∷ 0 ∷ 0 ∷ 2 ∷ []) ++ runner.encoding idle_runner ++ runner.encoding leased_runner
unfolding text_bytes word_bytes
second_two_runners_bytes = refl
