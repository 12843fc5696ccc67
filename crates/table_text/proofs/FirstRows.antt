-- Examples, by computation: tables of the first layout and their bytes.
use Rattle.std.specs.Prelude.{◌≡◌, [], ◌∷◌, ◌++◌, codes, length, true, false, Some, None, refl}
use Rattle.wf_value.specs.declared.outcome.Outcome.TheVariants as outcome
use Rattle.run_plan.specs.declared.command.Command.TheVariants as requested
use Rattle.stored_tables.specs.Stored.{RunnerParts, TableParts}
use Rattle.stored_tables.specs.declared.parts.LastParts.TheVariants as last
use Rattle.table_model.specs.Forgotten.{none_forgotten}
use Rattle.table_model.specs.Parts.{RunParts}
use Rattle.table_model.specs.declared.phases.JobPhase.TheVariants as job_phase
use Rattle.table_model.specs.declared.phases.LegPhase.TheVariants as leg_phase
use Rattle.table_model.specs.declared.phases.RunPhase.TheVariants as run_phase
use Rattle.table_text.specs.FirstLayout.{first_runner, first_table, is_in_first_layout}
use Rattle.definitions.specs.Format.{text_bytes, word_bytes}

-- without runs or runners: twelve zero bytes, as in the second layout
empty_bytes : first_table.encoding (record { last_lease = 0; forgotten = none_forgotten; runs = []; runners = [] })
    ≡ 0 ∷ 0 ∷ 0 ∷ 0 ∷ 0 ∷ 0 ∷ 0 ∷ 0 ∷ 0 ∷ 0 ∷ 0 ∷ 0 ∷ []
unfolding word_bytes
empty_bytes = refl

-- a live run whose one job has one ready leg
abbrev only_run : RunParts
only_run = record {
  admitted = record {
    delivery = codes "d1";
    event = codes "push";
    body = codes "{\"repo\":\"o/r\",\"path\":\"ci.json\",\"workflow\":{\"jobs\":{\"build\":{\"runs-on\":\"linux\"}}}}";
  };
  attempt = 1;
  phase = run_phase.Live;
  stopping = false;
  jobs = record { phase = job_phase.Open; legs = record { phase = leg_phase.Ready; lease = None } ∷ [] } ∷ [];
}

abbrev admitted : TableParts
admitted = record { last_lease = 0; forgotten = none_forgotten; runs = only_run ∷ []; runners = [] }

-- the phase, the flag and the job follow the body
admitted_bytes : first_table.encoding admitted
    ≡ (0 ∷ 0 ∷ 0 ∷ 0 ∷ 0 ∷ 0 ∷ 0 ∷ 1 ∷ 0 ∷ 0 ∷ 0 ∷ 2 ∷ 100 ∷ 49 ∷ 0 ∷ 0 ∷ 0 ∷ 4 ∷ 112 ∷ 117 ∷ 115 ∷ 104 ∷ 0 ∷ 0 ∷ 0 ∷ 81 ∷ [])
    ++ only_run.admitted.body
    ++ (1 ∷ 0 ∷ 1 ∷ 0 ∷ 0 ∷ 0 ∷ 1 ∷ 2 ∷ 0 ∷ 0 ∷ 0 ∷ 0 ∷ 0 ∷ 0 ∷ 0 ∷ 0 ∷ [])
unfolding text_bytes word_bytes
admitted_bytes = refl

admitted_length : length (first_table.encoding admitted) ≡ 123
unfolding text_bytes word_bytes
admitted_length = refl

-- a runner that got lease 258 with its third command and holds it
abbrev leased_runner : RunnerParts
leased_runner = record {
  name = codes "r1";
  number = 3;
  last = last.Claim (record { runner = codes "r1"; number = 3; labels = codes "x" ∷ [] }) (Some (record { lease = 258; place = None }));
  holds = Some 258;
}

leased_runner_bytes : first_runner.encoding leased_runner
    ≡ 0 ∷ 0 ∷ 0 ∷ 2 ∷ 114 ∷ 49 ∷ 0 ∷ 0 ∷ 0 ∷ 3
    ∷ 2 ∷ 0 ∷ 0 ∷ 0 ∷ 2 ∷ 114 ∷ 49 ∷ 0 ∷ 0 ∷ 0 ∷ 3 ∷ 0 ∷ 0 ∷ 0 ∷ 1 ∷ 0 ∷ 0 ∷ 0 ∷ 1 ∷ 120
    ∷ 1 ∷ 0 ∷ 0 ∷ 1 ∷ 2
    ∷ 0 ∷ 0 ∷ 1 ∷ 2 ∷ []
unfolding text_bytes word_bytes
leased_runner_bytes = refl

-- a runner that got nothing: a lease of 0 follows the byte of its reply
abbrev idle_runner : RunnerParts
idle_runner = record {
  name = codes "r";
  number = 1;
  last = last.Claim (record { runner = codes "r"; number = 1; labels = codes "x" ∷ [] }) None;
  holds = None;
}

idle_runner_bytes : first_runner.encoding idle_runner
    ≡ 0 ∷ 0 ∷ 0 ∷ 1 ∷ 114 ∷ 0 ∷ 0 ∷ 0 ∷ 1
    ∷ 2 ∷ 0 ∷ 0 ∷ 0 ∷ 1 ∷ 114 ∷ 0 ∷ 0 ∷ 0 ∷ 1 ∷ 0 ∷ 0 ∷ 0 ∷ 1 ∷ 0 ∷ 0 ∷ 0 ∷ 1 ∷ 120
    ∷ 0 ∷ 0 ∷ 0 ∷ 0 ∷ 0
    ∷ 0 ∷ 0 ∷ 0 ∷ 0 ∷ []
unfolding text_bytes word_bytes
idle_runner_bytes = refl

-- a runner that has reported, and holds another lease
abbrev reporting_runner : RunnerParts
reporting_runner = record {
  name = codes "r1";
  number = 2;
  last = last.Done (record { runner = codes "r1"; number = 2; lease = 1; result = outcome.Failure });
  holds = Some 7;
}

reporting_runner_bytes : first_runner.encoding reporting_runner
    ≡ 0 ∷ 0 ∷ 0 ∷ 2 ∷ 114 ∷ 49 ∷ 0 ∷ 0 ∷ 0 ∷ 2
    ∷ 3 ∷ 0 ∷ 0 ∷ 0 ∷ 2 ∷ 114 ∷ 49 ∷ 0 ∷ 0 ∷ 0 ∷ 2 ∷ 0 ∷ 0 ∷ 0 ∷ 1 ∷ 2
    ∷ 2 ∷ 0 ∷ 0 ∷ 0 ∷ 0
    ∷ 0 ∷ 0 ∷ 0 ∷ 7 ∷ []
unfolding text_bytes word_bytes
reporting_runner_bytes = refl

-- a look is a command of the first layout, and a re-run is not
a_look_is_one : is_in_first_layout (requested.Look 1) ≡ true
a_look_is_one = refl

a_rerun_is_none : is_in_first_layout (requested.Rerun (record { run = 1; attempt = 2 })) ≡ false
a_rerun_is_none = refl
