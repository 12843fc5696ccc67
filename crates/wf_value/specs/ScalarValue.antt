-- Scalars, their texts, and lists of them by name.
use Rattle.std.specs.Prelude.{ℕ, List, codes, pos, [], ◌∷◌, Bool, true, false, not, refl}
use Rattle.wf_value.specs.declared.outcome.Outcome.{Outcome}
use Rattle.wf_value.specs.declared.outcome.Outcome.TheVariants as outcome
use Rattle.wf_value.specs.declared.outcome.JobResult.{JobResult}
use Rattle.wf_value.specs.declared.outcome.JobResult.TheVariants as result
use Rattle.std.specs.Ordering.{int_eq}
use Rattle.std.specs.Str.{bytes_eq}
use Rattle.std.specs.Fmt.{signed_decimal}
use Rattle.wf_value.specs.declared.scalar.Scalar.{Scalar}
use Rattle.wf_value.specs.declared.scalar.Scalar.TheVariants.{Null, Truth, Whole, Text}
use Rattle.std.specs.Coded.{Coded, code_by, coded_ℕ, coded_list, coded×}
use Rattle.wf_value.specs.inner.ScalarCode.{coded_scalar, coded_pairs}

-- ---- how results are printed. GitHub Docs, "Contexts", needs.<job_id>.result.

abbrev pub outcome_word : Outcome → List ℕ
outcome_word outcome.Success = codes "success"
outcome_word outcome.Failure = codes "failure"
outcome_word outcome.Cancelled = codes "cancelled"

abbrev pub result_word : JobResult → List ℕ
result_word result.Success = codes "success"
result_word result.Failure = codes "failure"
result_word result.Cancelled = codes "cancelled"
result_word result.Skipped = codes "skipped"

-- ---- the truth value and the text of a scalar. GitHub Docs, "Evaluate expressions in workflows and actions": Literals, Operators.

-- false, 0, the empty text and null are falsy; every other value is truthy
abbrev pub is_truthy : Scalar → Bool
is_truthy Null = false
is_truthy (Truth b) = b
is_truthy (Whole n) = not (int_eq n (pos 0))
is_truthy (Text []) = false
is_truthy (Text (c ∷ cs)) = true

-- null prints as the empty text, the other values as they are written
abbrev pub scalar_text : Scalar → List ℕ
scalar_text Null = []
scalar_text (Truth true) = codes "true"
scalar_text (Truth false) = codes "false"
scalar_text (Whole n) = signed_decimal n
scalar_text (Text t) = t

-- the text of a text scalar; empty for the other kinds
abbrev pub text_held : Scalar → List ℕ
text_held Null = []
text_held (Truth b) = []
text_held (Whole n) = []
text_held (Text t) = t

abbrev pub same_truth : Bool → Bool → Bool
same_truth true b = b
same_truth false b = not b

-- whether kind and value are equal
abbrev pub same_scalar : Scalar → Scalar → Bool
same_scalar Null Null = true
same_scalar (Truth a) (Truth b) = same_truth a b
same_scalar (Whole a) (Whole b) = int_eq a b
same_scalar (Text a) (Text b) = bytes_eq a b
same_scalar _ _ = false

-- ---- how contracts see a matrix. GitHub Docs, "Running variations of jobs in a workflow".

-- the name of a variable, and its values in list order
abbrev pub NamedValues : Type 0
NamedValues = List ℕ × List Scalar

-- the variables in byte order of their names, and the objects as written
pub record MatrixLists : Type 0 where
  pub variables : List NamedValues
  pub include : List (List (List ℕ × Scalar))
  pub exclude : List (List (List ℕ × Scalar))

abbrev pub coded_variable : Coded NamedValues
coded_variable = coded× (coded_list coded_ℕ) (coded_list coded_scalar)

-- a matrix is stored as its three lists
abbrev pub coded_matrix : Coded MatrixLists
coded_matrix = code_by (List NamedValues × (List (List (List ℕ × Scalar)) × List (List (List ℕ × Scalar))))
    (coded× (coded_list coded_variable) (coded× (coded_list coded_pairs) (coded_list coded_pairs)))
    (λ m. (m.variables, (m.include, m.exclude))) (λ t. record { variables = t.0; include = t.1.0; exclude = t.1.1 }) (λ _. refl)
