-- The order of the jobs of a workflow.
use Rattle.std.specs.Prelude.{List, Bool}
use Rattle.definitions.specs.Rising.{rises_by}
use Rattle.wf_reader.specs.declared.job.Job.{Job}

-- whether the ids strictly increase in byte order
abbrev pub ids_rise : List Job → Bool
ids_rise jobs = rises_by (λ j. j.id) jobs
