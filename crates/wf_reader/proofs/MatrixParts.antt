-- A matrix from its parts.
use Rattle.std.proofs.Common.{◌≡◌, ℕ, ◌<◌, List, [], ◌∷◌, map, length, Bool, true, false, cond, is_some, Some}
use Rattle.std.proofs.Common.{Result, Ok, refl, sym, ap, ◌∙◌}
use Rattle.std.specs.List.{filter, flat_map}
use Rattle.serde_json.specs.Data.{Data}
use Rattle.serde_json.specs.Find.{as_array, as_object}
use Rattle.serde_json.specs.View.{view, items_view, members_view}
use Rattle.serde_json.specs.declared.value.Value.{Value}
use Rattle.serde_json.proofs.Views.{Entry}
use Rattle.wf_value.specs.ScalarValue.{NamedValues, MatrixLists}
use Rattle.wf_value.specs.declared.code.Code.TheVariants.{MatrixValue, StrategyMember}
use Rattle.wf_value.specs.declared.refusal.Refusal.{Refusal}
use Rattle.wf_value.specs.declared.scalar.Scalar.{Scalar}
use Rattle.wf_reader.specs.Faults.{unless_faulty, fault}
use Rattle.wf_reader.specs.Json.{members_of}
use Rattle.wf_reader.specs.Strategy.{is_variable_name, variables_in, variable_faults, variable_of, inside_matrix, matrix_faults}
use Rattle.wf_reader.specs.Strategy.{items_of, value_faults, scalar_or_null, each_of_some}
use Rattle.wf_reader.specs.Strategy.{pair_faults, pair_of, pattern_faults, pattern_of, patterns_faults, patterns_of}
use Rattle.wf_reader.proofs.Entries.{kept}
use Rattle.wf_reader.proofs.Contents.{named, items_here, members_here, whole_list, filled_list, made_with, where_so, is_of-Some}
use Rattle.wf_reader.proofs.InOrder.{same_value}

-- ---- include and exclude

pub pattern_here : (d : Data) (es : List Entry) → Some (members_view es) ≡ as_object d → 0 < length es
    → unless_faulty (flat_map (λ e. pair_faults (named e)) es) (map (λ e. pair_of (named e)) es) ≡ unless_faulty (pattern_faults d)
    (pattern_of d)
pattern_here d es is filled =
    filled_list named pair_faults pair_of es filled
    ∙ ap (λ ms. unless_faulty (each_of_some pair_faults ms) (map pair_of ms)) (sym (members_here d es is))
    ∙ sym (where_so (is_some (as_object d)) (each_of_some pair_faults (members_of d)) (fault MatrixValue) (pattern_of d) _
    (is_of-Some _ _ is) refl)

pub patterns_here : (d : Data) (vs : List Value) → Some (items_view vs) ≡ as_array d
    → unless_faulty (flat_map (λ v. pattern_faults (view v)) vs) (map (λ v. pattern_of (view v)) vs) ≡ unless_faulty (patterns_faults d)
    (patterns_of d)
patterns_here d vs is =
    whole_list view pattern_faults pattern_of vs
    ∙ ap (λ ds. unless_faulty (flat_map pattern_faults ds) (map pattern_of ds)) (sym (items_here d vs is))
    ∙ sym (where_so (is_some (as_array d)) (flat_map pattern_faults (items_of d)) (fault MatrixValue) (patterns_of d) _
    (is_of-Some _ _ is) refl)

-- ---- variables

pub variable_here : (name : List ℕ) (d : Data) (vs : List Value) → Some (items_view vs) ≡ as_array d → 0 < length vs
    → unless_faulty (flat_map (λ v. value_faults (view v)) vs) (map (λ v. scalar_or_null (view v)) vs) ≡ unless_faulty
    (variable_faults (name, d)) (map scalar_or_null (items_of d))
variable_here name d vs is filled =
    filled_list view value_faults scalar_or_null vs filled
    ∙ ap (λ ds. unless_faulty (each_of_some value_faults ds) (map scalar_or_null ds)) (sym (items_here d vs is))
    ∙ sym (where_so (is_some (as_array d)) (each_of_some value_faults (items_of d)) (fault MatrixValue) (map scalar_or_null (items_of d)) _
    (is_of-Some _ _ is) refl)

pub variable_made : (name n : List ℕ) (d : Data) (vs : List Scalar) (r : NamedValues)
    → unless_faulty (variable_faults (name, d)) (map scalar_or_null (items_of d)) ≡ Ok vs → unless_faulty [] name ≡ Ok n → r ≡ (n, vs)
    → unless_faulty (variable_faults (name, d)) (variable_of (name, d)) ≡ Ok r
variable_made name n d vs r read copied is =
    made_with (λ s. (name, s)) (variable_faults (name, d)) (map scalar_or_null (items_of d)) vs read
    ∙ ap (λ m. Ok (m, vs)) (same_value [] name n copied) ∙ ap Ok (sym is)

kept_named : (b : Bool) (e : Entry) (ms : List (List ℕ × Data)) (es : List Entry) → ms ≡ map named es
    → cond b (named e ∷ ms) ms ≡ map named (cond b (e ∷ es) es)
kept_named true e ms es h = ap (λ l. named e ∷ l) h
kept_named false e ms es h = h

filter_named : (es : List Entry) → filter (λ m. is_variable_name m.0) (map named es) ≡ map named (kept is_variable_name es)
filter_named [] = refl
filter_named (e ∷ es) = kept_named (is_variable_name (named e).0) e _ _ (filter_named es)

variables_named : (d : Data) (es : List Entry) → Some (members_view es) ≡ as_object d
    → variables_in d ≡ map named (kept is_variable_name es)
variables_named d es is = ap (filter (λ m. is_variable_name m.0)) (members_here d es is) ∙ filter_named es

pub variables_here : (d : Data) (es : List Entry) → Some (members_view es) ≡ as_object d
    → unless_faulty (flat_map (λ e. variable_faults (named e)) (kept is_variable_name es))
    (map (λ e. variable_of (named e)) (kept is_variable_name es)) ≡ unless_faulty (flat_map variable_faults (variables_in d))
    (map variable_of (variables_in d))
variables_here d es is =
    whole_list named variable_faults variable_of (kept is_variable_name es)
    ∙ ap (λ ms. unless_faulty (flat_map variable_faults ms) (map variable_of ms)) (sym (variables_named d es is))

-- ---- the matrix

pub in_matrix : {X : Type 0} (d : Data) (es : List Entry) (x : X) (r : Result X Refusal) → Some (members_view es) ≡ as_object d
    → unless_faulty (inside_matrix d) x ≡ r → unless_faulty (matrix_faults d) x ≡ r
in_matrix d es x r is h = where_so (is_some (as_object d)) (inside_matrix d) (fault StrategyMember) x r (is_of-Some _ _ is) h

abbrev Patterns : Type 0
Patterns = List (List (List ℕ × Scalar))

abbrev matrix_with : List NamedValues → Patterns → Patterns → MatrixLists
matrix_with vs is es = record { variables = vs; include = is; exclude = es }

pub matrix_made : (vs ws : List NamedValues) (is js es fs : Patterns) (m : MatrixLists) → vs ≡ ws → is ≡ js → es ≡ fs
    → m.variables ≡ ws → m.include ≡ js → m.exclude ≡ fs → matrix_with vs is es ≡ m
matrix_made vs ws is js es fs m p q r t u w =
    ap (λ a. matrix_with a is es) (p ∙ sym t) ∙ ap (λ a. matrix_with m.variables a es) (q ∙ sym u)
    ∙ ap (λ a. matrix_with m.variables m.include a) (r ∙ sym w)
