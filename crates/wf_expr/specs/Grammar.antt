-- The grammar of templates, and the letters of its names.
use Rattle.std.specs.Prelude.{ℕ, Bool, ◌||◌, ◌==◌, ◌≡◌, ◌≢◌, List, [], ◌∷◌, ◌++◌, IsTrue, if◌then◌else◌}
use Rattle.std.specs.Char.{is_ascii_alphabetic, is_ascii_digit}
use Rattle.std.specs.List.{AllByRecursion}
use Rattle.std.specs.Str.{encode_utf8_all}
use Rattle.wf_expr.specs.declared.piece.Operand.{Operand}
use Rattle.wf_expr.specs.declared.piece.Operand.TheVariants.{Quoted, Reference}
use Rattle.wf_expr.specs.declared.piece.Piece.{Piece}
use Rattle.wf_expr.specs.declared.piece.Piece.TheVariants.{Plain, Braced}

-- ---- the characters of names.

-- a letter A to Z, a to z, or `_`
unfoldable pub begins_name : ℕ → Bool
begins_name c = is_ascii_alphabetic c || c == 95

-- one of those, a digit, or `-`
unfoldable pub continues_name : ℕ → Bool
continues_name c = begins_name c || is_ascii_digit c || c == 45

-- ---- the grammar of templates. GitHub Docs, "Evaluate expressions in workflows and actions" (About expressions, Literals, Operators)
-- and "Contexts reference" (About contexts).

-- any number of U+0020
abbrev pub AreSpaces : List ℕ → Type 0
AreSpaces = AllByRecursion (λ c. c ≡ 32)

-- a letter or `_`, followed by letters, digits, `-` and `_`
abbrev pub IsName : List ℕ → Type 0
IsName [] = ⊥
IsName (c ∷ cs) = IsTrue (begins_name c) × AllByRecursion (λ d. IsTrue (continues_name d)) cs

-- a dot and a name, each after optional spaces
pub record EncodesDotted (text name : List ℕ) : Type 0 where
  pub before : List ℕ
  pub between : List ℕ
  pub letters : List ℕ
  pub spaces_before : AreSpaces before
  pub spaces_between : AreSpaces between
  pub is_name : IsName letters
  pub named : name ≡ encode_utf8_all letters
  pub whole : text ≡ before ++ 46 ∷ (between ++ letters)

-- a sequence of dotted names
abbrev pub EncodesNames : List ℕ → List (List ℕ) → Type 0
EncodesNames text [] = text ≡ []
EncodesNames text (n ∷ ns) = (first rest : List ℕ) × (text ≡ first ++ rest) × EncodesDotted first n × EncodesNames rest ns

-- the name of a context, followed by dotted names
pub record EncodesReference (text name : List ℕ) (names : List (List ℕ)) : Type 0 where
  pub letters : List ℕ
  pub rest : List ℕ
  pub is_name : IsName letters
  pub named : name ≡ encode_utf8_all letters
  pub dotted : EncodesNames rest names
  pub whole : text ≡ letters ++ rest

-- the text with each `'` doubled
abbrev pub doubled : List ℕ → List ℕ
doubled [] = []
doubled (c ∷ cs) = if c == 39 then 39 ∷ 39 ∷ doubled cs else c ∷ doubled cs

-- a text in single quotes, with each inner quote doubled
pub record EncodesQuoted (text value : List ℕ) : Type 0 where
  pub inner : List ℕ
  pub valued : value ≡ encode_utf8_all inner
  pub whole : text ≡ 39 ∷ (doubled inner ++ 39 ∷ [])

abbrev pub EncodesOperand : List ℕ → Operand → Type 0
EncodesOperand text (Quoted value) = EncodesQuoted text value
EncodesOperand text (Reference []) = ⊥
EncodesOperand text (Reference (n ∷ ns)) = EncodesReference text n ns

-- `||` and an operand, each after optional spaces
pub record EncodesJoined (text : List ℕ) (operand : Operand) : Type 0 where
  pub before : List ℕ
  pub between : List ℕ
  pub inner : List ℕ
  pub spaces_before : AreSpaces before
  pub spaces_between : AreSpaces between
  pub is_operand : EncodesOperand inner operand
  pub whole : text ≡ before ++ 124 ∷ 124 ∷ (between ++ inner)

-- a sequence of joined operands
abbrev pub EncodesMore : List ℕ → List Operand → Type 0
EncodesMore text [] = text ≡ []
EncodesMore text (o ∷ os) = (first rest : List ℕ) × (text ≡ first ++ rest) × EncodesJoined first o × EncodesMore rest os

-- `${{`, one or more operands joined by `||`, and `}}`, with optional spaces between them
pub record EncodesBraced (text : List ℕ) (operand : Operand) (operands : List Operand) : Type 0 where
  pub before : List ℕ
  pub inner : List ℕ
  pub more : List ℕ
  pub after : List ℕ
  pub spaces_before : AreSpaces before
  pub spaces_after : AreSpaces after
  pub is_operand : EncodesOperand inner operand
  pub are_more : EncodesMore more operands
  pub whole : text ≡ 36 ∷ 123 ∷ 123 ∷ (before ++ (inner ++ (more ++ (after ++ 125 ∷ 125 ∷ []))))

-- the characters contain no `${{`
abbrev pub HoldsNoOpening : List ℕ → Type 0
HoldsNoOpening cs = (before after : List ℕ) → cs ≢ before ++ 36 ∷ 123 ∷ 123 ∷ after

-- non-empty plain text without `${{`
pub record EncodesPlain (text value : List ℕ) : Type 0 where
  pub some : text ≢ []
  pub no_opening : HoldsNoOpening text
  pub valued : value ≡ encode_utf8_all text

abbrev pub EncodesPiece : List ℕ → Piece → Type 0
EncodesPiece text (Plain value) = EncodesPlain text value
EncodesPiece text (Braced []) = ⊥
EncodesPiece text (Braced (o ∷ os)) = EncodesBraced text o os

-- plain text is a single piece: no plain piece follows another
abbrev pub BeginsBraced : List Piece → Type 0
BeginsBraced [] = Unit {0}
BeginsBraced (Plain value ∷ ps) = ⊥
BeginsBraced (Braced os ∷ ps) = Unit {0}

abbrev pub MayFollow : Piece → List Piece → Type 0
MayFollow (Plain value) ps = BeginsBraced ps
MayFollow (Braced os) ps = Unit {0}

-- a sequence of pieces
abbrev pub EncodesPieces : List ℕ → List Piece → Type 0
EncodesPieces text [] = text ≡ []
EncodesPieces text (p ∷ ps) =
    (first rest : List ℕ) × (text ≡ first ++ rest) × EncodesPiece first p × MayFollow p ps × EncodesPieces rest ps
