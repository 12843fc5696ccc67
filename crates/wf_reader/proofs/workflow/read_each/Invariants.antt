use Rattle.std.proofs.Common.{◌≡◌, ◌++◌, map, flat_map, string_bytes}
use Rattle.serde_json.specs.View.{view}
use Rattle.wf_reader.specs.Job.{job_faults, job_of}
use Rattle.wf_reader.proofs.workflow.read_each.Given as goal

-- the members so far have no faults and their jobs are read
abbrev pub invariant-loop-id : goal.invariant-loop-id
invariant-loop-id l = record {
  left : flat_map (λ e. job_faults (string_bytes e.0, view e.1)) l.fn.members.entries ≡ flat_map
      (λ e. job_faults (string_bytes e.0, view e.1)) l.id-iterator;
  done : l.jobs.items ++ map (λ e. job_of (string_bytes e.0, view e.1)) l.id-iterator ≡ map
      (λ e. job_of (string_bytes e.0, view e.1)) l.fn.members.entries;
}
