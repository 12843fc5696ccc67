use Rattle.std.proofs.Common.{◌≡◌, ◌++◌, map, flat_map, drop}
use Rattle.serde_json.specs.View.{view}
use Rattle.wf_reader.specs.Job.{label_faults, label_in}
use Rattle.wf_reader.proofs.labels.read_labels.Given as goal

-- the values so far have no faults and their labels are read
abbrev pub invariant-loop-value : goal.invariant-loop-value
invariant-loop-value l = record {
  left : flat_map (λ v. label_faults (view v)) l.values ≡ flat_map (λ v. label_faults (view v)) (drop l.value-index l.values);
  done : l.labels.items ++ map (λ v. label_in (view v)) (drop l.value-index l.values) ≡ map (λ v. label_in (view v)) l.values;
}
