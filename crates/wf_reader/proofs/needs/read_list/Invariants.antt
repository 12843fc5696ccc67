use Rattle.std.proofs.Common.{◌≡◌, ◌++◌, map, flat_map, drop}
use Rattle.serde_json.specs.View.{view}
use Rattle.wf_reader.specs.Faults.{text_faults}
use Rattle.wf_reader.specs.Json.{text_in}
use Rattle.wf_reader.proofs.needs.read_list.Given as goal

-- the values so far are texts and their ids are read
abbrev pub invariant-loop-value : goal.invariant-loop-value
invariant-loop-value l = record {
  left : flat_map (λ v. text_faults (view v)) l.values ≡ flat_map (λ v. text_faults (view v)) (drop l.value-index l.values);
  done : l.needs.items ++ map (λ v. text_in (view v)) (drop l.value-index l.values) ≡ map (λ v. text_in (view v)) l.values;
}
