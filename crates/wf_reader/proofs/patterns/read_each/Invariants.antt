use Rattle.std.proofs.Common.{◌≡◌, ◌++◌, map, flat_map, drop}
use Rattle.serde_json.specs.View.{view}
use Rattle.wf_reader.specs.Strategy.{pattern_faults, pattern_of}
use Rattle.wf_reader.proofs.patterns.read_each.Given as goal

-- the objects so far have no faults and their pairs are read
abbrev pub invariant-loop-value : goal.invariant-loop-value
invariant-loop-value l = record {
  left : flat_map (λ v. pattern_faults (view v)) l.values ≡ flat_map (λ v. pattern_faults (view v)) (drop l.value-index l.values);
  done : l.patterns.items ++ map (λ v. pattern_of (view v)) (drop l.value-index l.values) ≡ map (λ v. pattern_of (view v)) l.values;
}
