-- Examples of binding, computed from the definitions alone. An operand that is known to be truthy ends a choice, a known falsy one
-- is skipped, and the last one is used if no other is truthy.
use Rattle.std.proofs.Common.{◌≡◌, ◌==◌, ℕ, List, [], ◌∷◌, refl, false}
use Rattle.std.specs.Prelude.{Option, codes, find}
use Rattle.std.specs.Cmp.Lexicographic.{pointwise}
use Rattle.std.specs.Option.{option_map}
use Rattle.std.specs.Str.{bytes_eq}
use Rattle.wf_value.specs.declared.outcome.JobResult.TheVariants.{Failure, Skipped}
use Rattle.wf_value.specs.declared.scalar.Scalar.TheVariants.{Null, Truth, Text}
use Rattle.wf_expr.specs.Bound.{NeedOf, Results, bound_of, bound_text, with_results}
use Rattle.wf_expr.specs.TemplateValue.{Values, template_value}
use Rattle.wf_expr.specs.declared.piece.Operand.{Operand}
use Rattle.wf_expr.specs.declared.piece.Operand.TheVariants.{Quoted, Reference}
use Rattle.wf_expr.specs.declared.piece.Piece.{Piece}
use Rattle.wf_expr.specs.declared.piece.Piece.TheVariants.{Plain, Braced}

-- the values of the listed keys
abbrev of_list : {X : Type 0} → List (List (List ℕ) × X) → List (List ℕ) → Option X
of_list entries path = option_map (λ e. e.1) (find (λ e. pointwise bytes_eq e.0 path) entries)

abbrev of_numbers : {X : Type 0} → List (ℕ × X) → ℕ → Option X
of_numbers entries n = option_map (λ e. e.1) (find (λ e. e.0 == n) entries)

abbrev known : Values
known = of_list ((codes "inputs" ∷ codes "none" ∷ [], Null) ∷ (codes "inputs" ∷ codes "no" ∷ [], Truth false)
    ∷ (codes "github" ∷ codes "ref" ∷ [], Text (codes "main")) ∷ [])

-- the jobs a and b are the needs 3 and 5
abbrev need_of : NeedOf
need_of = of_list ((codes "needs" ∷ codes "a" ∷ codes "result" ∷ [], 3) ∷ (codes "needs" ∷ codes "b" ∷ codes "result" ∷ [], 5) ∷ [])

abbrev need_a : Operand
need_a = Reference (codes "needs" ∷ codes "a" ∷ codes "result" ∷ [])

abbrev need_b : Operand
need_b = Reference (codes "needs" ∷ codes "b" ∷ codes "result" ∷ [])

abbrev ref : Operand
ref = Reference (codes "github" ∷ codes "ref" ∷ [])

abbrev input : List ℕ → Operand
input name = Reference (codes "inputs" ∷ name ∷ [])

-- `${{ inputs.no || needs.a.result || needs.b.result || github.ref || needs.a.result }}`
row-true_ends : bound_of known need_of (Braced (input (codes "no") ∷ need_a ∷ need_b ∷ ref ∷ need_a ∷ []) ∷ [])
    ≡ record { needs = 3 ∷ 5 ∷ []; otherwise = codes "main" } ∷ []
row-true_ends = refl

-- `${{ needs.a.result || inputs.none || inputs.no }}`
row-last_false_stands : bound_of known need_of (Braced (need_a ∷ input (codes "none") ∷ input (codes "no") ∷ []) ∷ [])
    ≡ record { needs = 3 ∷ []; otherwise = codes "false" } ∷ []
row-last_false_stands = refl

-- `${{ inputs.no || needs.a.result }}`
row-last_need : bound_of known need_of (Braced (input (codes "no") ∷ need_a ∷ []) ∷ []) ≡ record { needs = 3 ∷ []; otherwise = [] } ∷ []
row-last_need = refl

-- `deploy-${{ needs.b.result || 'x' }}`
abbrev deploy : List Piece
deploy = Plain (codes "deploy-") ∷ Braced (need_b ∷ Quoted (codes "x") ∷ []) ∷ []

row-pieces : bound_of known need_of deploy
    ≡ record { needs = []; otherwise = codes "deploy-" } ∷ record { needs = 5 ∷ []; otherwise = codes "x" } ∷ []
row-pieces = refl

-- a failed and b was skipped; then b without a result
abbrev both : Results
both = of_numbers ((3, Failure) ∷ (5, Skipped) ∷ [])

abbrev first_alone : Results
first_alone = of_numbers ((3, Failure) ∷ [])

row-text : bound_text both (bound_of known need_of deploy) ≡ codes "deploy-skipped"
row-text = refl

row-value : template_value (with_results known need_of both) deploy ≡ Text (codes "deploy-skipped")
row-value = refl

row-no_result : bound_text first_alone (bound_of known need_of deploy) ≡ codes "deploy-x"
row-no_result = refl
