-- A bound template has the text of the template's value.
use Rattle.std.proofs.Common.{◌≡◌, ℕ, Bool, true, false, cond, List, [], ◌∷◌, ◌++◌, refl, ap, ap₂, sym, ◌∙◌}
use Rattle.std.specs.Prelude.{Option, None, Some, map, filter_map, find, unwrap_or}
use Rattle.std.proofs.Math.Path.{fun_ext}
use Rattle.std.specs.List.{cons_option, flat_map}
use Rattle.std.specs.Option.{option_map_or, option_or}
use Rattle.wf_value.specs.ScalarValue.{is_truthy, scalar_text, result_word}
use Rattle.wf_value.specs.declared.outcome.JobResult.{JobResult}
use Rattle.wf_value.specs.declared.outcome.JobResult.TheVariants as result
use Rattle.wf_value.specs.declared.scalar.Scalar.{Scalar}
use Rattle.wf_value.specs.declared.scalar.Scalar.TheVariants.{Text}
use Rattle.wf_expr.specs.Bound.{Results, NeedOf, HasResults, no_results, with_results, result_value}
use Rattle.wf_expr.specs.Bound.{first_result, bound_piece_text, bound_text}
use Rattle.wf_expr.specs.Bound.{need_of_operand, before_true, referenced_needs, bound_piece, bound_of}
use Rattle.wf_expr.specs.TemplateValue.{Values, operand_value, first_true, last_or, piece_text, template_value}
use Rattle.wf_expr.specs.declared.bound.BoundPiece.{BoundPiece}
use Rattle.wf_expr.specs.declared.piece.Operand.{Operand}
use Rattle.wf_expr.specs.declared.piece.Operand.TheVariants.{Quoted, Reference}
use Rattle.wf_expr.specs.declared.piece.Piece.{Piece}
use Rattle.wf_expr.specs.declared.piece.Piece.TheVariants.{Plain, Braced}
use Rattle.wf_expr.proofs.ComparisonLemmas.{value-text}

-- the first truthy value of a list with one more value in front
first-step : (other v : Scalar) (vs : List Scalar) → first_true other (v ∷ vs) ≡ cond (is_truthy v) v (first_true v vs)
first-step other v vs =
    elim (is_truthy v) as (λ b. unwrap_or (cond b (Some v) (find is_truthy vs)) (last_or v vs) ≡ cond b v (first_true v vs)) [
      | true ↦ refl
      | false ↦ refl
    ]

-- an operand's value with the results and its known value: they are equal, or the operand is a need and its known value is empty
abbrev Stands : Results → Scalar → Scalar → Option ℕ → Type 0
Stands results v w None = v ≡ w
Stands results v w (Some need) = (v ≡ unwrap_or (result_value (results need)) (Text [])) × (w ≡ Text [])

reference-known_or_bound : (known : Values) (need_of : NeedOf) (results : Results) (path : List (List ℕ)) (o : Option ℕ) → need_of path ≡ o
    → Stands results (unwrap_or (with_results known need_of results path) (Text []))
    (unwrap_or (with_results known need_of no_results path) (Text [])) o
reference-known_or_bound known need_of results path None e = rw e refl
reference-known_or_bound known need_of results path (Some need) e = (rw e refl, rw e refl)

known_or_bound : (known : Values) (need_of : NeedOf) (results : Results) (operand : Operand)
    → Stands results (operand_value (with_results known need_of results) operand)
    (operand_value (with_results known need_of no_results) operand) (need_of_operand need_of operand)
known_or_bound known need_of results (Quoted text) = refl
known_or_bound known need_of results (Reference path) = reference-known_or_bound known need_of results path (need_of path) refl

-- ---- one more operand

-- the values of the operands with the results, and their known values together with these needs, give the same text
abbrev LeadAlike : Results → List ℕ → List Scalar → List Scalar → Type 0
LeadAlike results needs vs ws = (u : Scalar)
    → scalar_text (first_true u vs) ≡ option_map_or result_word (first_result results needs) (scalar_text (first_true u ws))

after-known : (results : Results) (needs : List ℕ) (vs ws : List Scalar) → LeadAlike results needs vs ws → (w : Scalar) (b : Bool)
    → scalar_text (cond b w (first_true w vs))
    ≡ option_map_or result_word (first_result results (cond b [] needs)) (scalar_text (cond b w (first_true w ws)))
after-known results needs vs ws alike w true = refl
after-known results needs vs ws alike w false = alike w

after-need : (results : Results) (needs : List ℕ) (vs ws : List Scalar) → LeadAlike results needs vs ws
    → (other : Scalar) (o : Option JobResult) → scalar_text (first_true other (unwrap_or (result_value o) (Text []) ∷ vs))
    ≡ option_map_or result_word (option_or o (first_result results needs)) (scalar_text (first_true (Text []) ws))
after-need results needs vs ws alike other None = alike (Text [])
after-need results needs vs ws alike other (Some result.Success) = refl
after-need results needs vs ws alike other (Some result.Failure) = refl
after-need results needs vs ws alike other (Some result.Cancelled) = refl
after-need results needs vs ws alike other (Some result.Skipped) = refl

one-more : (results : Results) (needs : List ℕ) (vs ws : List Scalar) → LeadAlike results needs vs ws → (v w : Scalar) (o : Option ℕ)
    → Stands results v w o → (other : Scalar) → scalar_text (first_true other (v ∷ vs))
    ≡ option_map_or result_word (first_result results (cond (is_truthy w) [] (cons_option o needs)))
    (scalar_text (first_true other (w ∷ ws)))
one-more results needs vs ws alike v w None same other =
    ap (λ u. scalar_text (first_true other (u ∷ vs))) same
    ∙ (ap scalar_text (first-step other w vs)
    ∙ (after-known results needs vs ws alike w (is_truthy w)
    ∙ ap (λ u. option_map_or result_word (first_result results (cond (is_truthy w) [] needs)) (scalar_text u))
    (sym (first-step other w ws))))
one-more results needs vs ws alike v w (Some need) (is, empty) other =
    ap (λ u. scalar_text (first_true other (u ∷ vs))) is
    ∙ (after-need results needs vs ws alike other (results need)
    ∙ ap (λ u. option_map_or result_word (first_result results (cond (is_truthy u) [] (need ∷ needs)))
    (scalar_text (first_true other (u ∷ ws))))
    (sym empty))

-- ---- operands, pieces and templates

referenced-if : (need_of : NeedOf) (o : Operand) (os : List Operand) (b : Bool)
    → filter_map (need_of_operand need_of) (cond b [] (o ∷ os))
    ≡ cond b [] (cons_option (need_of_operand need_of o) (filter_map (need_of_operand need_of) os))
referenced-if need_of o os true = refl
referenced-if need_of o os false = refl

-- the needs that one more operand looks up
pub referenced-step : (known : Values) (need_of : NeedOf) (o : Operand) (os : List Operand)
    → referenced_needs known need_of (o ∷ os)
    ≡ cond (is_truthy (operand_value (with_results known need_of no_results) o)) []
    (cons_option (need_of_operand need_of o) (referenced_needs known need_of os))
referenced-step known need_of o os =
    referenced-if need_of o (before_true (with_results known need_of no_results) os)
    (is_truthy (operand_value (with_results known need_of no_results) o))

operands-text : (known : Values) (need_of : NeedOf) (results : Results) (operands : List Operand)
    → LeadAlike results (referenced_needs known need_of operands) (map (operand_value (with_results known need_of results)) operands)
    (map (operand_value (with_results known need_of no_results)) operands)
operands-text known need_of results [] other = refl
operands-text known need_of results (o ∷ os) other =
    let by_results = operand_value (with_results known need_of results) in
    let is_known = operand_value (with_results known need_of no_results) in
    one-more results (referenced_needs known need_of os) (map by_results os) (map is_known os) (operands-text known need_of results os)
    (by_results o) (is_known o) (need_of_operand need_of o) (known_or_bound known need_of results o) other
    ∙ ap (λ needs. option_map_or result_word (first_result results needs) (scalar_text (first_true other (map is_known (o ∷ os)))))
    (sym (referenced-step known need_of o os))

piece-text : (known : Values) (need_of : NeedOf) (results : Results) (piece : Piece)
    → piece_text (with_results known need_of results) piece ≡ bound_piece_text results (bound_piece known need_of piece)
piece-text known need_of results (Plain text) = refl
piece-text known need_of results (Braced operands) = operands-text known need_of results operands (Text [])

pieces-text : (known : Values) (need_of : NeedOf) (results : Results) (pieces : List Piece)
    → flat_map (piece_text (with_results known need_of results)) pieces ≡ bound_text results (bound_of known need_of pieces)
pieces-text known need_of results [] = refl
pieces-text known need_of results (p ∷ ps) =
    ap₂ (λ x y. x ++ y) (piece-text known need_of results p) (pieces-text known need_of results ps)

bound-value : (known : Values) (need_of : NeedOf) (pieces : List Piece) (results : Results) (values : Values)
    → HasResults known need_of results values
    → scalar_text (template_value values pieces) ≡ bound_text results (bound_of known need_of pieces)
bound-value known need_of pieces results values has =
    ap (λ v. scalar_text (template_value v pieces)) (fun_ext has)
    ∙ (value-text (with_results known need_of results) pieces ∙ pieces-text known need_of results pieces)

-- for any results, the text of a template's value is that of the bound template
pub text-when-bound : (known : Values) (need_of : NeedOf) (pieces : List Piece) (bound : List BoundPiece)
    → bound_of known need_of pieces ≡ bound → (results : Results) (values : Values) → HasResults known need_of results values
    → scalar_text (template_value values pieces) ≡ bound_text results bound
text-when-bound known need_of pieces bound is results values has =
    bound-value known need_of pieces results values has ∙ ap (bound_text results) is
