use Rattle.std.proofs.Common.{◌≡◌, ◌++◌, map, flat_map, string_bytes}
use Rattle.std.specs.List.{filter}
use Rattle.serde_json.specs.View.{view}
use Rattle.wf_reader.specs.Strategy.{is_variable_name, variable_faults, variable_of}
use Rattle.wf_reader.proofs.matrix.read_variables.Given as goal

-- the variables so far have no faults and their values are read
abbrev pub invariant-loop-name : goal.invariant-loop-name
invariant-loop-name l = record {
  left : flat_map (λ e. variable_faults (string_bytes e.0, view e.1))
      (filter (λ e. is_variable_name (string_bytes e.0)) l.members.entries) ≡ flat_map
      (λ e. variable_faults (string_bytes e.0, view e.1)) (filter (λ e. is_variable_name (string_bytes e.0)) l.name-iterator);
  done : l.variables.items ++ map (λ e. variable_of (string_bytes e.0, view e.1))
      (filter (λ e. is_variable_name (string_bytes e.0)) l.name-iterator) ≡ map
      (λ e. variable_of (string_bytes e.0, view e.1)) (filter (λ e. is_variable_name (string_bytes e.0)) l.members.entries);
}
