-- What the text after each parser state consists of, and text that contains no piece.
use Rattle.std.proofs.Common.{◌≡◌, ◌≢◌, ℕ, Bool, true, false, cond, eqb, IsTrue, List, [], ◌∷◌, ◌++◌, refl, ap, sym, ◌∙◌, append_assoc}
use Rattle.std.proofs.Common.{eqb-true, eq-eqb, subst, lit<}
use Rattle.std.specs.Prelude.{Option, Some, codes}
use Rattle.std.specs.Option.{option_and_then}
use Rattle.std.specs.List.{AllByRecursion}
use Rattle.std.specs.Str.{encode_utf8_all}
use Rattle.std.specs.Char.{encode_utf8}
use Rattle.std.proofs.lemmas.Str.{encode_ascii}
use Rattle.wf_expr.specs.Grammar.{continues_name, BeginsBraced}
use Rattle.wf_expr.specs.Grammar.{AreSpaces, IsName, EncodesNames, doubled, EncodesOperand, EncodesMore, HoldsNoOpening, EncodesPieces}
use Rattle.wf_expr.specs.inner.Parsing.{run, plain_piece, in_text}
use Rattle.wf_expr.specs.declared.piece.Operand.{Operand}
use Rattle.wf_expr.specs.declared.piece.Operand.TheVariants.{Quoted, Reference}
use Rattle.wf_expr.specs.declared.piece.Piece.{Piece}
use Rattle.wf_expr.specs.declared.piece.Piece.TheVariants.{Braced}
use Rattle.wf_expr.specs.declared.reader.Reader.{Reader}
use Rattle.wf_expr.specs.declared.reader.Reader.TheVariants.{InText, AfterDollar, AfterBrace, OperandDue, InName, AfterName, NameDue}
use Rattle.wf_expr.specs.declared.reader.Reader.TheVariants.{InQuoted, AfterQuote, AfterOperand, AfterBar, AfterClose}

pub record FromText (ps : List Piece) (w text : List ℕ) (T : List Piece) : Type 0 where
  pub plain : List ℕ
  pub rest : List ℕ
  pub more : List Piece
  pub no_opening : HoldsNoOpening plain
  pub begins : BeginsBraced more
  pub spelled : EncodesPieces rest more
  pub whole : text ≡ plain ++ rest
  pub made : T ≡ ps ++ (plain_piece (w ++ encode_utf8_all plain) ++ more)

pub record FromAfterOperand (ps : List Piece) (os : List Operand) (text : List ℕ) (T : List Piece) : Type 0 where
  pub more : List ℕ
  pub after : List ℕ
  pub rest : List ℕ
  pub operands : List Operand
  pub pieces : List Piece
  pub are_more : EncodesMore more operands
  pub spaces : AreSpaces after
  pub spelled : EncodesPieces rest pieces
  pub whole : text ≡ more ++ (after ++ (125 ∷ (125 ∷ rest)))
  pub made : T ≡ ps ++ (Braced (os ++ operands) ∷ pieces)

pub record FromOperand (ps : List Piece) (os : List Operand) (text : List ℕ) (T : List Piece) : Type 0 where
  pub before : List ℕ
  pub inner : List ℕ
  pub rest : List ℕ
  pub operand : Operand
  pub spaces : AreSpaces before
  pub is_operand : EncodesOperand inner operand
  pub whole : text ≡ before ++ (inner ++ rest)
  pub goes_on : FromAfterOperand ps (os ++ operand ∷ []) rest T

pub record FromAfterName (ps : List Piece) (os : List Operand) (names : List (List ℕ)) (text : List ℕ) (T : List Piece) : Type 0 where
  pub dotted : List ℕ
  pub rest : List ℕ
  pub more : List (List ℕ)
  pub are_names : EncodesNames dotted more
  pub whole : text ≡ dotted ++ rest
  pub goes_on : FromAfterOperand ps (os ++ Reference (names ++ more) ∷ []) rest T

pub record FromNameDue (ps : List Piece) (os : List Operand) (names : List (List ℕ)) (text : List ℕ) (T : List Piece) : Type 0 where
  pub before : List ℕ
  pub letters : List ℕ
  pub rest : List ℕ
  pub spaces : AreSpaces before
  pub is_name : IsName letters
  pub whole : text ≡ before ++ (letters ++ rest)
  pub goes_on : FromAfterName ps os (names ++ encode_utf8_all letters ∷ []) rest T

pub record FromName (ps : List Piece) (os : List Operand) (names : List (List ℕ)) (w text : List ℕ) (T : List Piece) : Type 0 where
  pub letters : List ℕ
  pub rest : List ℕ
  pub are_letters : AllByRecursion (λ d. IsTrue (continues_name d)) letters
  pub whole : text ≡ letters ++ rest
  pub goes_on : FromAfterName ps os (names ++ (w ++ encode_utf8_all letters) ∷ []) rest T

pub record FromQuoted (ps : List Piece) (os : List Operand) (w text : List ℕ) (T : List Piece) : Type 0 where
  pub inner : List ℕ
  pub rest : List ℕ
  pub whole : text ≡ doubled inner ++ (39 ∷ rest)
  pub goes_on : FromAfterOperand ps (os ++ Quoted (w ++ encode_utf8_all inner) ∷ []) rest T

-- the text after a state, if the whole parses as T
abbrev pub Completes : Reader → List ℕ → List Piece → Type 0
Completes (InText ps w) text T = FromText ps w text T
Completes (AfterDollar ps w) text T = FromText ps w (36 ∷ text) T
Completes (AfterBrace ps w) text T = FromText ps w (36 ∷ (123 ∷ text)) T
Completes (OperandDue ps os) text T = FromOperand ps os text T
Completes (NameDue ps os names) text T = FromNameDue ps os names text T
Completes (InName ps os names w) text T = FromName ps os names w text T
Completes (AfterName ps os names) text T = FromAfterName ps os names text T
Completes (InQuoted ps os w) text T = FromQuoted ps os w text T
Completes (AfterQuote ps os w) text T = FromQuoted ps os w (39 ∷ text) T
Completes (AfterOperand ps os) text T = FromAfterOperand ps os text T
Completes (AfterBar ps os) text T = FromAfterOperand ps os (124 ∷ text) T
Completes (AfterClose ps os) text T = FromAfterOperand ps os (125 ∷ text) T

abbrev pub Rest : List ℕ → List Piece → Type 0
Rest text T = (r : Reader) → run r text ≡ Some T → Completes r text T

abbrev pub next : Option Reader → List ℕ → Option (List Piece)
next o text = option_and_then (λ r. run r text) o

-- one more character before text without `${{`
pub no_opening-cons : (c : ℕ) (cs : List ℕ) → ((after : List ℕ) → c ∷ cs ≢ 36 ∷ 123 ∷ 123 ∷ after) → HoldsNoOpening cs
    → HoldsNoOpening (c ∷ cs)
no_opening-cons c cs here there [] after e = here after e
no_opening-cons c cs here there (b ∷ before) after e = there before after (cc)

pub no_opening-nil : HoldsNoOpening []
no_opening-nil [] after e = cc
no_opening-nil (b ∷ before) after e = cc

pub false-not : (c d : ℕ) → eqb c d ≡ false → c ≢ d
false-not c d e h = let t = eq-eqb c d h in cc

pub step-in_text : (ps : List Piece) (w : List ℕ) (c : ℕ) (text : List ℕ) (T : List Piece) → Rest text T → (b : Bool) → eqb c 36 ≡ b
    → run (cond b (AfterDollar ps w) (InText ps (w ++ encode_utf8 c))) text ≡ Some T → FromText ps w (c ∷ text) T
step-in_text ps w c text T ih true e h =
    let P : ℕ → Type 0 = λ d. FromText ps w (d ∷ text) T in subst P (sym (eqb-true c 36 e)) (ih (AfterDollar ps w) h)
step-in_text ps w c text T ih false e h =
    let f = ih (InText ps (w ++ encode_utf8 c)) h in
    record {
      plain = c ∷ f.plain;
      rest = f.rest;
      more = f.more;
      no_opening = no_opening-cons c f.plain (λ after q. let same : c ≡ 36 = cc in false-not c 36 e same) f.no_opening;
      begins = f.begins;
      spelled = f.spelled;
      whole = ap (λ t. c ∷ t) f.whole;
      made = f.made ∙ ap (λ v. ps ++ (plain_piece v ++ f.more)) (append_assoc w (encode_utf8 c) (encode_utf8_all f.plain));
    }

-- a `$` that does not begin a piece
pub dollar-back : (ps : List Piece) (w : List ℕ) (c : ℕ) (text : List ℕ) (T : List Piece) → eqb c 123 ≡ false
    → FromText ps (w ++ codes "$") (c ∷ text) T → FromText ps w (36 ∷ (c ∷ text)) T
dollar-back ps w c text T n f = record {
  plain = 36 ∷ f.plain;
  rest = f.rest;
  more = f.more;
  no_opening = no_opening-cons 36 f.plain
      (λ after q. let tail : f.plain ≡ 123 ∷ 123 ∷ after = cc in let begin : c ∷ text ≡ 123 ∷ (123 ∷ (after ++ f.rest)) =
      f.whole ∙ ap (λ p. p ++ f.rest) tail in let same : c ≡ 123 = cc in false-not c 123 n same) f.no_opening;
  begins = f.begins;
  spelled = f.spelled;
  whole = ap (λ t. 36 ∷ t) f.whole;
  made = f.made
      ∙ ap (λ v. ps ++ (plain_piece v ++ f.more))
      (append_assoc w (codes "$") (encode_utf8_all f.plain)
      ∙ ap (λ v. w ++ (v ++ encode_utf8_all f.plain)) (sym (encode_ascii 36 (lit< tt))));
}

pub brace-back : (ps : List Piece) (w : List ℕ) (c : ℕ) (text : List ℕ) (T : List Piece) → eqb c 123 ≡ false
    → FromText ps (w ++ codes "${") (c ∷ text) T → FromText ps w (36 ∷ (123 ∷ (c ∷ text))) T
brace-back ps w c text T n f = record {
  plain = 36 ∷ (123 ∷ f.plain);
  rest = f.rest;
  more = f.more;
  no_opening = no_opening-cons 36 (123 ∷ f.plain)
      (λ after q. let tail : f.plain ≡ 123 ∷ after = cc in let begin : c ∷ text ≡ 123 ∷ (after ++ f.rest) =
      f.whole ∙ ap (λ p. p ++ f.rest) tail in let same : c ≡ 123 = cc in false-not c 123 n same)
      (no_opening-cons 123 f.plain (λ after q. let same : 123 ≡ 36 = cc in let t = eq-eqb 123 36 same in cc) f.no_opening);
  begins = f.begins;
  spelled = f.spelled;
  whole = ap (λ t. 36 ∷ (123 ∷ t)) f.whole;
  made = f.made
      ∙ ap (λ v. ps ++ (plain_piece v ++ f.more))
      (append_assoc w (codes "${") (encode_utf8_all f.plain)
      ∙ (ap (λ v. w ++ (36 ∷ (v ++ encode_utf8_all f.plain))) (sym (encode_ascii 123 (lit< tt)))
      ∙ ap (λ v. w ++ (v ++ (encode_utf8 123 ++ encode_utf8_all f.plain))) (sym (encode_ascii 36 (lit< tt)))));
}

pub step-after_dollar : (ps : List Piece) (w : List ℕ) (c : ℕ) (text : List ℕ) (T : List Piece) → Rest text T → (b : Bool) → eqb c 123 ≡ b
    → next (cond b (Some (AfterBrace ps w)) (Some (in_text ps (w ++ codes "$") c))) text ≡ Some T → FromText ps w (36 ∷ (c ∷ text)) T
step-after_dollar ps w c text T ih true e h =
    let P : ℕ → Type 0 = λ d. FromText ps w (36 ∷ (d ∷ text)) T in subst P (sym (eqb-true c 123 e)) (ih (AfterBrace ps w) h)
step-after_dollar ps w c text T ih false e h = dollar-back ps w c text T e (step-in_text ps (w ++ codes "$") c text T ih (eqb c 36) refl h)
