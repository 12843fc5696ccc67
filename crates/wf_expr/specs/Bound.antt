-- Templates in which everything except the results of needs is looked up. A result is known only once the needed job has ended, so
-- this project evaluates a template in two steps.
-- GitHub Docs, "Contexts reference" (needs context), and "Evaluate expressions in workflows and actions" (Operators).
use Rattle.std.specs.Prelude.{◌≡◌, ℕ, List, [], ◌∷◌, Option, None, map, filter_map, if◌then◌else◌}
use Rattle.std.specs.List.{flat_map}
use Rattle.std.specs.Option.{option_map, option_map_or, option_or}
use Rattle.wf_value.specs.ScalarValue.{is_truthy, result_word}
use Rattle.wf_value.specs.declared.outcome.JobResult.{JobResult}
use Rattle.wf_value.specs.declared.scalar.Scalar.{Scalar}
use Rattle.wf_value.specs.declared.scalar.Scalar.TheVariants.{Text}
use Rattle.wf_expr.specs.TemplateValue.{Values, operand_value, piece_text}
use Rattle.wf_expr.specs.declared.bound.BoundPiece.{BoundPiece}
use Rattle.wf_expr.specs.declared.piece.Operand.{Operand}
use Rattle.wf_expr.specs.declared.piece.Operand.TheVariants.{Quoted, Reference}
use Rattle.wf_expr.specs.declared.piece.Piece.{Piece}
use Rattle.wf_expr.specs.declared.piece.Piece.TheVariants.{Plain, Braced}

-- the result of each need, by index, if it has one
abbrev pub Results : Type 0
Results = ℕ → Option JobResult

-- ---- the text of a bound template

-- the result of the first of these needs that has one
abbrev pub first_result : Results → List ℕ → Option JobResult
first_result results [] = None
first_result results (need ∷ needs) = option_or (results need) (first_result results needs)

-- the word of that result, else the piece's own text
abbrev pub bound_piece_text : Results → BoundPiece → List ℕ
bound_piece_text results piece = option_map_or result_word (first_result results piece.needs) piece.otherwise

abbrev pub bound_text : Results → List BoundPiece → List ℕ
bound_text results = flat_map (bound_piece_text results)

-- ---- the contexts that a bound template stands for

-- the index of the need whose result a path gives, if any
abbrev pub NeedOf : Type 0
NeedOf = List (List ℕ) → Option ℕ

-- a result as a value: its word, or no value if there is no result
abbrev pub result_value : Option JobResult → Option Scalar
result_value = option_map (λ result. Text (result_word result))

-- the paths of needs have the values of their results, and every other path its known value
abbrev pub with_results : Values → NeedOf → Results → Values
with_results known need_of results path = option_map_or (λ need. result_value (results need)) (need_of path) (known path)

-- no need has a result
abbrev pub no_results : Results
no_results need = None

-- these values are the known ones with the results
abbrev pub HasResults : Values → NeedOf → Results → Values → Type 0
HasResults known need_of results values = (path : List (List ℕ)) → values path ≡ with_results known need_of results path

-- ---- binding

abbrev pub need_of_operand : NeedOf → Operand → Option ℕ
need_of_operand need_of (Quoted text) = None
need_of_operand need_of (Reference path) = need_of path

-- the operands before the first truthy one
abbrev pub before_true : Values → List Operand → List Operand
before_true values [] = []
before_true values (o ∷ os) = if is_truthy (operand_value values o) then [] else o ∷ before_true values os

-- the needs that the operands look up, in order, up to the first operand whose known value is truthy
abbrev pub referenced_needs : Values → NeedOf → List Operand → List ℕ
referenced_needs known need_of operands = filter_map (need_of_operand need_of) (before_true (with_results known need_of no_results) operands)

abbrev pub needs_of_piece : Values → NeedOf → Piece → List ℕ
needs_of_piece known need_of (Plain text) = []
needs_of_piece known need_of (Braced operands) = referenced_needs known need_of operands

-- those needs, and the text of the piece if none of them has a result
abbrev pub bound_piece : Values → NeedOf → Piece → BoundPiece
bound_piece known need_of piece = record {
  needs = needs_of_piece known need_of piece;
  otherwise = piece_text (with_results known need_of no_results) piece;
}

abbrev pub bound_of : Values → NeedOf → List Piece → List BoundPiece
bound_of known need_of = map (bound_piece known need_of)
