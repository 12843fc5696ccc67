-- Checks of values whose contents are not inspected further, and their findings for a value, a member and each item of a list.
use Rattle.std.specs.Prelude.{ℕ, List, [], flat_map}
use Rattle.std.specs.List.{enumerate_from}
use Rattle.std.specs.Option.{option_map_or}
use Rattle.serde_json.specs.Data.{Data}
use Rattle.serde_json.specs.Find.{get}
use Rattle.wf_value.specs.declared.code.Code.TheVariants.{LeftOut}
use Rattle.wf_value.specs.declared.refusal.Refusal.{Refusal}
use Rattle.wf_reader.specs.Job.{condition_faults, flag_faults, label_faults}
use Rattle.wf_reader.specs.Faults.{fault, text_faults}
use Rattle.wf_reader.specs.Strategy.{value_faults, fail_fast_faults, max_parallel_faults}
use Rattle.workflow_lint.specs.Findings.{at}
use Rattle.workflow_lint.specs.Paths.{item_path, member_path}
use Rattle.workflow_lint.specs.declared.check.Check.{Check}
use Rattle.workflow_lint.specs.declared.check.Check.TheVariants as check
use Rattle.workflow_lint.specs.declared.finding.Finding.{Finding}

abbrev pub faults_by : Check → Data → List Refusal
faults_by check.Text d = text_faults d
faults_by check.Label d = label_faults d
faults_by (check.Flag site) d = flag_faults site d
faults_by check.Condition d = condition_faults d
faults_by check.FailFast d = fail_fast_faults d
faults_by check.MaxParallel d = max_parallel_faults d
faults_by check.MatrixValue d = value_faults d
faults_by check.LeftOut d = fault LeftOut

abbrev pub found_by : Check → List ℕ → Data → List Finding
found_by check path d = at path (faults_by check d)

-- an optional member
abbrev pub optional_at : (List ℕ → Data → List Finding) → List ℕ → List ℕ → Data → List Finding
optional_at check path name d = option_map_or (check (member_path path name)) (get name d) []

-- each item of a list
abbrev pub items_at : (List ℕ → Data → List Finding) → List ℕ → List Data → List Finding
items_at check path items = flat_map (λ item. check (item_path path item.0) item.1) (enumerate_from 0 items)

-- each member of an object
abbrev pub members_at : (List ℕ → Data → List Finding) → List ℕ → List (List ℕ × Data) → List Finding
members_at check path members = flat_map (λ m. check (member_path path m.0) m.1) members
