use Rattle.std.proofs.Common.{◌≡◌, ◌++◌, map, flat_map, drop}
use Rattle.serde_json.specs.View.{view}
use Rattle.wf_reader.specs.Strategy.{value_faults, scalar_or_null}
use Rattle.wf_reader.proofs.values.read_values.Given as goal

-- the values so far have no faults and their scalars are read
abbrev pub invariant-loop-value : goal.invariant-loop-value
invariant-loop-value l = record {
  left : flat_map (λ v. value_faults (view v)) l.values ≡ flat_map (λ v. value_faults (view v)) (drop l.value-index l.values);
  done : l.scalars.items ++ map (λ v. scalar_or_null (view v)) (drop l.value-index l.values) ≡ map (λ v. scalar_or_null (view v)) l.values;
}
