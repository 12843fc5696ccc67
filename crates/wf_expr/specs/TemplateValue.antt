-- The value of a template in a context.
use Rattle.std.specs.Prelude.{ℕ, List, Option, ◌≡◌, ◌⊎◌, Bool, true, false, codes, [], ◌∷◌, find, map, unwrap_or}
use Rattle.std.specs.Option.{option_or}
use Rattle.wf_value.specs.declared.scalar.Scalar.{Scalar}
use Rattle.std.specs.Str.{bytes_eq}
use Rattle.wf_value.specs.declared.scalar.Scalar.TheVariants.{Null, Truth, Whole, Text}
use Rattle.std.specs.List.{flat_map}
use Rattle.wf_value.specs.ScalarValue.{is_truthy, scalar_text}
use Rattle.wf_expr.specs.declared.piece.Operand.{Operand}
use Rattle.wf_expr.specs.declared.piece.Operand.TheVariants.{Quoted, Reference}
use Rattle.wf_expr.specs.declared.piece.Piece.{Piece}
use Rattle.wf_expr.specs.declared.piece.Piece.TheVariants.{Plain, Braced}

-- ---- the values of a context. GitHub Docs, "Contexts reference".

-- the value of each path that has one; a path is a list of names
abbrev pub Values : Type 0
Values = List (List ℕ) → Option Scalar

-- the upper context's value of a path, else the lower one's
abbrev pub over : Values → Values → Values
over upper lower path = option_or (upper path) (lower path)

-- ---- the values that set a flag.

-- the boolean true, or the text `true`
abbrev pub SetsFlag : Scalar → Type 0
SetsFlag value = (value ≡ Truth true) ⊎ (value ≡ Text (codes "true"))

-- the same, as a test
abbrev pub sets_flag : Scalar → Bool
sets_flag Null = false
sets_flag (Truth truth) = truth
sets_flag (Whole whole) = false
sets_flag (Text text) = bytes_eq text (codes "true")

-- ---- the value of a template in a context. GitHub Docs, "Evaluate expressions in workflows and actions" (Literals, Operators).

-- a quoted text, or the context's value of the path, or the empty text if it has none
abbrev pub operand_value : Values → Operand → Scalar
operand_value values (Quoted text) = Text text
operand_value values (Reference path) = unwrap_or (values path) (Text [])

-- the last value, or the other if there is none
abbrev pub last_or : Scalar → List Scalar → Scalar
last_or other [] = other
last_or other (v ∷ vs) = last_or v vs

-- `||`: the first truthy value, else the last one
abbrev pub first_true : Scalar → List Scalar → Scalar
first_true other values = unwrap_or (find is_truthy values) (last_or other values)

abbrev pub expression_value : Values → List Operand → Scalar
expression_value values operands = first_true (Text []) (map (operand_value values) operands)

abbrev pub piece_text : Values → Piece → List ℕ
piece_text values (Plain text) = text
piece_text values (Braced operands) = scalar_text (expression_value values operands)

-- an expression on its own has its value; any other template has the text of its pieces
abbrev pub template_value : Values → List Piece → Scalar
template_value values (Braced operands ∷ []) = expression_value values operands
template_value values pieces = Text (flat_map (piece_text values) pieces)
