-- The faults of a value, as a list in the order of the checks. The refusal is the first of them.
use Rattle.std.specs.Prelude.{List, [], ◌∷◌, ◌++◌, Bool, is_some, if◌then◌else◌, Option, Some, None, Result, Ok, Err}
use Rattle.serde_json.specs.Data.{Data}
use Rattle.serde_json.specs.Find.{as_str, as_object}
use Rattle.wf_value.specs.declared.code.Code.{Code}
use Rattle.wf_value.specs.declared.code.Code.TheVariants.{WrongKind, LeftOut}
use Rattle.wf_value.specs.declared.refusal.Refusal.{Refusal}
use Rattle.wf_value.specs.declared.refusal.Refusal.TheVariants.{Numbered}

-- the value if there are no faults, else the first fault
abbrev pub unless_faulty : {X : Type 0} → List Refusal → X → Result X Refusal
unless_faulty [] x = Ok x
unless_faulty (f ∷ fs) x = Err f

-- the fault of a result, if it is an Err
abbrev pub outcome_faults : {X : Type 0} → Result X Refusal → List Refusal
outcome_faults (Ok x) = []
outcome_faults (Err e) = e ∷ []

-- a single fault
abbrev pub fault : Code → List Refusal
fault code = Numbered code ∷ []

-- the fault if the test fails
abbrev pub fault_unless : Bool → Code → List Refusal
fault_unless passes code = if passes then [] else fault code

-- the faults of all checks, in order
abbrev pub faults_in_order : List (List Refusal) → List Refusal
faults_in_order [] = []
faults_in_order (check ∷ checks) = check ++ faults_in_order checks

-- an optional member
abbrev pub optional : (Data → List Refusal) → Option Data → List Refusal
optional check None = []
optional check (Some d) = check d

-- a required member; the code is that of a missing one
abbrev pub required : Code → (Data → List Refusal) → Option Data → List Refusal
required missing check None = fault missing
required missing check (Some d) = check d

-- a member that is not supported, whatever its value
abbrev pub left_out : Option Data → List Refusal
left_out = optional (λ _. fault LeftOut)

abbrev pub text_faults : Data → List Refusal
text_faults d = fault_unless (is_some (as_str d)) WrongKind

-- an object with any contents
abbrev pub object_faults : Data → List Refusal
object_faults d = fault_unless (is_some (as_object d)) WrongKind

-- an object, and the faults inside it
abbrev pub faults_within : (Data → List Refusal) → Data → List Refusal
faults_within inside d = if is_some (as_object d) then inside d else fault WrongKind
