use Rattle.std.proofs.Common.{◌≡◌, ◌++◌, map, flat_map, string_bytes}
use Rattle.serde_json.specs.View.{view}
use Rattle.wf_reader.specs.Strategy.{pair_faults, pair_of}
use Rattle.wf_reader.proofs.patterns.read_pairs.Given as goal

-- the members so far have no faults and their pairs are read
abbrev pub invariant-loop-name : goal.invariant-loop-name
invariant-loop-name l = record {
  left : flat_map (λ e. pair_faults (string_bytes e.0, view e.1)) l.members.entries ≡ flat_map
      (λ e. pair_faults (string_bytes e.0, view e.1)) l.name-iterator;
  done : l.pairs.items ++ map (λ e. pair_of (string_bytes e.0, view e.1)) l.name-iterator ≡ map
      (λ e. pair_of (string_bytes e.0, view e.1)) l.members.entries;
}
