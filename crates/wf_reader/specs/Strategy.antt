-- The strategy of a job: its matrix with its patterns, fail-fast and max-parallel.
use Rattle.std.specs.Prelude.{List, [], ◌∷◌, flat_map, unwrap_or, is_some, ℕ, if◌then◌else◌, map, Bool, not, ◌||◌, codes, true, ◌&&◌}
use Rattle.std.specs.Prelude.{nat_le, Option, Some, None, option_map, option_and_then}
use Rattle.serde_json.specs.Data.{Data, no_items}
use Rattle.serde_json.specs.Find.{as_array, as_object, get, as_bool, as_number, as_u64}
use Rattle.wf_value.specs.declared.code.Code.TheVariants.{MatrixValue, EmptyList, StrategyMember}
use Rattle.wf_value.specs.declared.refusal.Refusal.{Refusal}
use Rattle.wf_value.specs.declared.scalar.Scalar.{Scalar}
use Rattle.wf_value.specs.declared.scalar.Scalar.TheVariants.{Null}
use Rattle.wf_reader.specs.Faults.{fault, fault_unless, faults_in_order, optional}
use Rattle.wf_reader.specs.Json.{item_list, scalar_in, members_of, member_at}
use Rattle.std.specs.List.{filter, list_all, list_any}
use Rattle.std.specs.Str.{bytes_eq}
use Rattle.wf_value.specs.ScalarValue.{NamedValues, MatrixLists}
use Rattle.definitions.specs.Limits.{max_parallel}
use Rattle.wf_reader.specs.declared.strategy.Strategy.{Strategy}

-- ---- the values of a matrix: null, booleans, texts, and numbers that `serde_json` reads as signed 64-bit integers. The restriction of
-- the numbers is defined by this project.
-- GitHub Docs, "Running variations of jobs in a workflow"; RFC 8259, section 3.

abbrev pub value_faults : Data → List Refusal
value_faults d = fault_unless (is_some (scalar_in d)) MatrixValue

abbrev pub scalar_or_null : Data → Scalar
scalar_or_null d = unwrap_or (scalar_in d) Null

-- the values of a list; empty if it is not a list
abbrev pub items_of : Data → List Data
items_of d = item_list (unwrap_or (as_array d) no_items)

-- the list is not empty, followed by the faults of each value
abbrev pub each_of_some : {X : Type 0} → (X → List Refusal) → List X → List Refusal
each_of_some check [] = fault EmptyList
each_of_some check (x ∷ xs) = flat_map check (x ∷ xs)

-- ---- the `include` and the `exclude` of a matrix: lists of objects of values. A list may be empty, an object may not.
-- GitHub Docs, "Workflow syntax for GitHub Actions": jobs.<job_id>.strategy.matrix.include and .exclude.

-- ---- a member, as a name and a value

abbrev pub pair_faults : List ℕ × Data → List Refusal
pair_faults m = value_faults m.1

abbrev pub pair_of : List ℕ × Data → List ℕ × Scalar
pair_of m = (m.0, scalar_or_null m.1)

-- ---- an object

abbrev pub pattern_faults : Data → List Refusal
pattern_faults d = if is_some (as_object d) then each_of_some pair_faults (members_of d) else fault MatrixValue

abbrev pub pattern_of : Data → List (List ℕ × Scalar)
pattern_of d = map pair_of (members_of d)

-- ---- a list of objects

abbrev pub patterns_faults : Data → List Refusal
patterns_faults d = if is_some (as_array d) then flat_map pattern_faults (items_of d) else fault MatrixValue

abbrev pub patterns_of : Data → List (List (List ℕ × Scalar))
patterns_of d = map pattern_of (items_of d)

-- ---- a matrix: its faults and its value. GitHub Docs, "Workflow syntax for GitHub Actions": jobs.<job_id>.strategy.matrix.

-- ---- the variables: all members except include and exclude, in byte order of their names

abbrev pub is_variable_name : List ℕ → Bool
is_variable_name name = not (bytes_eq name (codes "include") || bytes_eq name (codes "exclude"))

abbrev pub variables_in : Data → List (List ℕ × Data)
variables_in d = filter (λ m. is_variable_name m.0) (members_of d)

-- a non-empty list of values
abbrev pub variable_faults : List ℕ × Data → List Refusal
variable_faults m = if is_some (as_array m.1) then each_of_some value_faults (items_of m.1) else fault MatrixValue

abbrev pub variable_of : List ℕ × Data → NamedValues
variable_of m = (m.0, map scalar_or_null (items_of m.1))

-- ---- the matrix

abbrev pub inside_matrix : Data → List Refusal
inside_matrix d = faults_in_order (optional patterns_faults (get (codes "include") d)
    ∷ optional patterns_faults (get (codes "exclude") d)
    ∷ flat_map variable_faults (variables_in d) ∷ [])

abbrev pub matrix_faults : Data → List Refusal
matrix_faults d = if is_some (as_object d) then inside_matrix d else fault StrategyMember

abbrev pub matrix_of : Data → MatrixLists
matrix_of d = record {
  variables = map variable_of (variables_in d);
  include = patterns_of (member_at (codes "include") d);
  exclude = patterns_of (member_at (codes "exclude") d);
}

-- ---- the `strategy` of a job: its faults and its value. GitHub Docs, "Workflow syntax for GitHub Actions": jobs.<job_id>.strategy, its
-- fail-fast, its max-parallel.

abbrev pub is_strategy_name : List ℕ → Bool
is_strategy_name name = list_any (bytes_eq name) (codes "matrix" ∷ codes "fail-fast" ∷ codes "max-parallel" ∷ [])

-- only the members of a strategy
abbrev pub names_faults : Data → List Refusal
names_faults d = fault_unless (list_all (λ m. is_strategy_name m.0) (members_of d)) StrategyMember

-- a boolean
abbrev pub fail_fast_faults : Data → List Refusal
fail_fast_faults d = fault_unless (is_some (as_bool d)) StrategyMember

-- an integer from 1 to `max_parallel`; the upper limit is defined by this project
abbrev pub if_parallel : ℕ → Option ℕ
if_parallel n = if nat_le 1 n && nat_le n max_parallel then Some n else None

abbrev pub max_parallel_in : Data → Option ℕ
max_parallel_in d = option_and_then if_parallel (option_and_then as_u64 (as_number d))

abbrev pub max_parallel_faults : Data → List Refusal
max_parallel_faults d = fault_unless (is_some (max_parallel_in d)) StrategyMember

abbrev pub inside_strategy : Data → List Refusal
inside_strategy d = faults_in_order (names_faults d
    ∷ optional fail_fast_faults (get (codes "fail-fast") d)
    ∷ optional max_parallel_faults (get (codes "max-parallel") d)
    ∷ optional matrix_faults (get (codes "matrix") d) ∷ [])

abbrev pub strategy_faults : Data → List Refusal
strategy_faults d = if is_some (as_object d) then inside_strategy d else fault StrategyMember

-- fail-fast is the default
abbrev pub strategy_of : Data → Strategy
strategy_of d = record {
  matrix = option_map matrix_of (get (codes "matrix") d);
  fail_fast = unwrap_or (option_and_then as_bool (get (codes "fail-fast") d)) true;
  max_parallel = option_and_then max_parallel_in (get (codes "max-parallel") d);
}
