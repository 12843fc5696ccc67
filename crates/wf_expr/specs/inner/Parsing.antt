-- The template of a text, as a function: reading it from left to right, and judging what was read.
use Rattle.std.specs.Prelude.{ℕ, List, [], ◌∷◌, ◌++◌, Option, Some, None, Result, Ok, Err, ◌==◌, if◌then◌else◌, codes, Bool, true, false}
use Rattle.std.specs.Prelude.{◌&&◌, ◌||◌, sum_by, nat_le}
use Rattle.std.specs.Char.{encode_utf8}
use Rattle.std.specs.Option.{option_and_then}
use Rattle.std.specs.Str.{chars, bytes_eq}
use Rattle.wf_value.specs.declared.refusal.Refusal.{Refusal}
use Rattle.wf_expr.specs.Faults.{wrong_expression, wrong_place}
use Rattle.wf_expr.specs.Grammar.{begins_name, continues_name}
use Rattle.wf_expr.specs.declared.piece.Operand.{Operand}
use Rattle.wf_expr.specs.declared.piece.Operand.TheVariants.{Quoted, Reference}
use Rattle.wf_expr.specs.declared.piece.Piece.{Piece}
use Rattle.wf_expr.specs.declared.piece.Piece.TheVariants.{Plain, Braced}
use Rattle.wf_expr.specs.declared.reader.Reader.{Reader}
use Rattle.wf_expr.specs.declared.reader.Reader.TheVariants.{InText, AfterDollar, AfterBrace, OperandDue, InName, AfterName, NameDue}
use Rattle.wf_expr.specs.declared.reader.Reader.TheVariants.{InQuoted, AfterQuote, AfterOperand, AfterBar, AfterClose}
use Rattle.std.specs.List.{list_all}
use Rattle.definitions.specs.Limits.{max_references}
use Rattle.wf_expr.specs.Profile.{reference_count}
use Rattle.wf_expr.specs.declared.context_site.ContextSite.{ContextSite}
use Rattle.wf_expr.specs.declared.context_site.ContextSite.TheVariants.{Workflow, Job}

-- ---- parsing a template from left to right, one character at a time. The module `Grammar` defines which texts it accepts.

-- 17 for None
abbrev pub needed : {X : Type 0} → Option X → Result X Refusal
needed None = Err wrong_expression
needed (Some x) = Ok x

-- plain text is a piece unless it is empty
abbrev pub plain_piece : List ℕ → List Piece
plain_piece [] = []
plain_piece (b ∷ bs) = Plain (b ∷ bs) ∷ []

abbrev pub in_text : List Piece → List ℕ → ℕ → Reader
in_text ps word c = if c == 36 then AfterDollar ps word else InText ps (word ++ encode_utf8 c)

abbrev pub after_operand : List Piece → List Operand → ℕ → Option Reader
after_operand ps os c =
    if c == 32 then Some (AfterOperand ps os)
    else if c == 124 then Some (AfterBar ps os)
    else if c == 125 then Some (AfterClose ps os)
    else None

abbrev pub after_name : List Piece → List Operand → List (List ℕ) → ℕ → Option Reader
after_name ps os names c =
    if c == 32 then Some (AfterName ps os names)
    else if c == 46 then Some (NameDue ps os names)
    else after_operand ps (os ++ Reference names ∷ []) c

-- the state after one more character, or None if no template continues this way
abbrev pub taken : Reader → ℕ → Option Reader
taken (InText ps word) c = Some (in_text ps word c)
taken (AfterDollar ps word) c = if c == 123 then Some (AfterBrace ps word) else Some (in_text ps (word ++ codes "$") c)
taken (AfterBrace ps word) c = if c == 123 then Some (OperandDue (ps ++ plain_piece word) []) else Some (in_text ps (word ++ codes "${") c)
taken (OperandDue ps os) c =
    if c == 32 then Some (OperandDue ps os)
    else if c == 39 then Some (InQuoted ps os [])
    else if begins_name c then Some (InName ps os [] (encode_utf8 c))
    else None
taken (NameDue ps os names) c =
    if c == 32 then Some (NameDue ps os names) else if begins_name c then Some (InName ps os names (encode_utf8 c)) else None
taken (InName ps os names word) c =
    if continues_name c then Some (InName ps os names (word ++ encode_utf8 c)) else after_name ps os (names ++ word ∷ []) c
taken (AfterName ps os names) c = after_name ps os names c
taken (InQuoted ps os word) c = if c == 39 then Some (AfterQuote ps os word) else Some (InQuoted ps os (word ++ encode_utf8 c))
taken (AfterQuote ps os word) c =
    if c == 39 then Some (InQuoted ps os (word ++ encode_utf8 c)) else after_operand ps (os ++ Quoted word ∷ []) c
taken (AfterOperand ps os) c = after_operand ps os c
taken (AfterBar ps os) c = if c == 124 then Some (OperandDue ps os) else None
taken (AfterClose ps os) c = if c == 125 then Some (InText (ps ++ Braced os ∷ []) []) else None

-- the pieces at the end of the text, or None inside a `${{`
abbrev pub ended : Reader → Option (List Piece)
ended (InText ps word) = Some (ps ++ plain_piece word)
ended (AfterDollar ps word) = Some (ps ++ plain_piece (word ++ codes "$"))
ended (AfterBrace ps word) = Some (ps ++ plain_piece (word ++ codes "${"))
ended (OperandDue ps os) = None
ended (NameDue ps os names) = None
ended (InName ps os names word) = None
ended (AfterName ps os names) = None
ended (InQuoted ps os word) = None
ended (AfterQuote ps os word) = None
ended (AfterOperand ps os) = None
ended (AfterBar ps os) = None
ended (AfterClose ps os) = None

-- the pieces after all of these characters
unfoldable pub run : Reader → List ℕ → Option (List Piece)
run r [] = ended r
run r (c ∷ cs) = option_and_then (λ next. run next cs) (taken r c)

-- the pieces of a text
abbrev pub pieces_of : List ℕ → Option (List Piece)
pieces_of text = run (InText [] []) (chars text)

-- ---- parsing a text for a site, as a function that computes what `Outcome` defines.

-- whether the list is the one name `result`
abbrev pub is_result : List (List ℕ) → Bool
is_result [] = false
is_result (name ∷ []) = bytes_eq name (codes "result")
is_result (name ∷ other ∷ names) = false

abbrev pub is_shared : List ℕ → Bool
is_shared name = bytes_eq name (codes "github") || (bytes_eq name (codes "inputs") || bytes_eq name (codes "vars"))

abbrev pub is_in_context : List ℕ → List (List ℕ) → Bool
is_in_context context names =
    is_shared context
    || (bytes_eq context (codes "strategy")
    || (bytes_eq context (codes "matrix") || (bytes_eq context (codes "needs") && is_result names)))

abbrev pub is_path : List (List ℕ) → Bool
is_path [] = false
is_path (context ∷ []) = false
is_path (context ∷ name ∷ names) = is_in_context context names

abbrev pub is_allowed : ContextSite → List (List ℕ) → Bool
is_allowed Job path = true
is_allowed Workflow [] = false
is_allowed Workflow (context ∷ names) = is_shared context

abbrev pub of_reference : (List (List ℕ) → Bool) → Operand → Bool
of_reference p (Quoted text) = true
of_reference p (Reference path) = p path

abbrev pub of_references : (List (List ℕ) → Bool) → Piece → Bool
of_references p (Plain text) = true
of_references p (Braced operands) = list_all (of_reference p) operands

abbrev pub is_in_profile : List Piece → Bool
is_in_profile pieces = list_all (of_references is_path) pieces && nat_le (sum_by reference_count pieces) max_references

abbrev pub is_allowed_in : ContextSite → List Piece → Bool
is_allowed_in site = list_all (of_references (is_allowed site))

-- the template, if it is in the profile and allowed, else the refusal; 17 comes before 18
abbrev pub judged : ContextSite → Option (List Piece) → Result (List Piece) Refusal
judged site None = Err wrong_expression
judged site (Some t) = if is_in_profile t then (if is_allowed_in site t then Ok t else Err wrong_place) else Err wrong_expression

abbrev pub outcome_of : List ℕ → ContextSite → Result (List Piece) Refusal
outcome_of text site = judged site (pieces_of text)
