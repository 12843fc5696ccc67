-- A text that parses to a template is accepted by the grammar as that template. The proof goes backwards from the last character:
-- it says what must follow each state.
use Rattle.std.proofs.Common.{◌≡◌, ◌≢◌, ℕ, Bool, true, false, cond, eqb, List, [], ◌∷◌, ◌++◌, refl, ap, sym, ◌∙◌, append_assoc, append-nil}
use Rattle.std.proofs.Common.{eqb-true, subst, lit<}
use Rattle.std.specs.Prelude.{Some, None, codes}
use Rattle.std.specs.Str.{encode_utf8_all}
use Rattle.std.specs.Char.{encode_utf8}
use Rattle.std.proofs.lemmas.Str.{encode_ascii}
use Rattle.wf_expr.specs.Grammar.{begins_name, continues_name, EncodesPlain, EncodesPieces, BeginsBraced}
use Rattle.wf_expr.specs.Grammar.{AreSpaces, EncodesDotted, EncodesNames, doubled, EncodesJoined, EncodesMore, EncodesBraced, HoldsNoOpening}
use Rattle.wf_expr.specs.inner.Parsing.{taken, ended, run, plain_piece, after_name, after_operand, in_text}
use Rattle.wf_expr.specs.declared.piece.Operand.{Operand}
use Rattle.wf_expr.specs.declared.piece.Operand.TheVariants.{Quoted, Reference}
use Rattle.wf_expr.specs.declared.piece.Piece.{Piece}
use Rattle.wf_expr.specs.declared.piece.Piece.TheVariants.{Plain, Braced}
use Rattle.wf_expr.specs.declared.reader.Reader.{Reader}
use Rattle.wf_expr.specs.declared.reader.Reader.TheVariants.{InText, AfterDollar, AfterBrace, OperandDue, InName, AfterName, NameDue}
use Rattle.wf_expr.specs.declared.reader.Reader.TheVariants.{InQuoted, AfterQuote, AfterOperand, AfterBar, AfterClose}
use Rattle.wf_expr.proofs.Complete.{plain_piece-some}
use Rattle.wf_expr.proofs.States.{FromText, FromAfterOperand, FromOperand, FromAfterName, FromNameDue, FromName, FromQuoted, Completes}
use Rattle.wf_expr.proofs.States.{Rest, next, no_opening-cons, no_opening-nil, step-in_text, brace-back, step-after_dollar}

-- one more space in front
space-operands : (ps : List Piece) (os more_os : List Operand) (more after rest text : List ℕ) (pieces T : List Piece)
    → EncodesMore more more_os → AreSpaces after → EncodesPieces rest pieces → text ≡ more ++ (after ++ (125 ∷ (125 ∷ rest)))
    → T ≡ ps ++ (Braced (os ++ more_os) ∷ pieces) → FromAfterOperand ps os (32 ∷ text) T
space-operands ps os [] more after rest text pieces T are spaces spelled whole made = record {
  more = [];
  after = 32 ∷ after;
  rest = rest;
  operands = [];
  pieces = pieces;
  are_more = refl;
  spaces = (refl, spaces);
  spelled = spelled;
  whole = ap (λ t. 32 ∷ t) (whole ∙ ap (λ m. m ++ (after ++ (125 ∷ (125 ∷ rest)))) are);
  made = made;
}
space-operands ps os (o ∷ more_os) more after rest text pieces T are spaces spelled whole made =
    let j = are.3 in
    let joined : EncodesJoined (32 ∷ are.0) o =
    record {
      before = 32 ∷ j.before;
      between = j.between;
      inner = j.inner;
      spaces_before = (refl, j.spaces_before);
      spaces_between = j.spaces_between;
      is_operand = j.is_operand;
      whole = ap (λ t. 32 ∷ t) j.whole;
    } in
    record {
      more = 32 ∷ more;
      after = after;
      rest = rest;
      operands = o ∷ more_os;
      pieces = pieces;
      are_more = (32 ∷ are.0, are.1, ap (λ t. 32 ∷ t) are.2, joined, are.4);
      spaces = spaces;
      spelled = spelled;
      whole = ap (λ t. 32 ∷ t) whole;
      made = made;
    }

space-after_operand : (ps : List Piece) (os : List Operand) (text : List ℕ) (T : List Piece) → FromAfterOperand ps os text T
    → FromAfterOperand ps os (32 ∷ text) T
space-after_operand ps os text T f =
    space-operands ps os f.operands f.more f.after f.rest text f.pieces T f.are_more f.spaces f.spelled f.whole f.made

space-names : (ps : List Piece) (os : List Operand) (names more : List (List ℕ)) (dotted rest text : List ℕ) (T : List Piece)
    → EncodesNames dotted more → text ≡ dotted ++ rest → FromAfterOperand ps (os ++ Reference (names ++ more) ∷ []) rest T
    → FromAfterName ps os names (32 ∷ text) T
space-names ps os names [] dotted rest text T are whole goes_on = record {
  dotted = [];
  rest = 32 ∷ rest;
  more = [];
  are_names = refl;
  whole = ap (λ t. 32 ∷ t) (whole ∙ ap (λ d. d ++ rest) are);
  goes_on = space-after_operand ps (os ++ Reference (names ++ []) ∷ []) rest T goes_on;
}
space-names ps os names (n ∷ more) dotted rest text T are whole goes_on =
    let d = are.3 in
    let spaced : EncodesDotted (32 ∷ are.0) n =
    record {
      before = 32 ∷ d.before;
      between = d.between;
      letters = d.letters;
      spaces_before = (refl, d.spaces_before);
      spaces_between = d.spaces_between;
      is_name = d.is_name;
      named = d.named;
      whole = ap (λ t. 32 ∷ t) d.whole;
    } in
    record {
      dotted = 32 ∷ dotted;
      rest = rest;
      more = n ∷ more;
      are_names = (32 ∷ are.0, are.1, ap (λ t. 32 ∷ t) are.2, spaced, are.4);
      whole = ap (λ t. 32 ∷ t) whole;
      goes_on = goes_on;
    }

space-after_name : (ps : List Piece) (os : List Operand) (names : List (List ℕ)) (text : List ℕ) (T : List Piece)
    → FromAfterName ps os names text T → FromAfterName ps os names (32 ∷ text) T
space-after_name ps os names text T f = space-names ps os names f.more f.dotted f.rest text T f.are_names f.whole f.goes_on

none-not : {X : Type 0} (x : X) (P : Type 0) → None ≡ Some x → P
none-not x P e = cc

step-after_operand : (ps : List Piece) (os : List Operand) (c : ℕ) (text : List ℕ) (T : List Piece) → Rest text T → (b t u : Bool)
    → eqb c 32 ≡ b → eqb c 124 ≡ t → eqb c 125 ≡ u
    → next (cond b (Some (AfterOperand ps os)) (cond t (Some (AfterBar ps os)) (cond u (Some (AfterClose ps os)) None))) text ≡ Some T
    → FromAfterOperand ps os (c ∷ text) T
step-after_operand ps os c text T ih true t u e f g h =
    let P : ℕ → Type 0 =
    λ d. FromAfterOperand ps os (d ∷ text) T in
    subst P (sym (eqb-true c 32 e)) (space-after_operand ps os text T (ih (AfterOperand ps os) h))
step-after_operand ps os c text T ih false true u e f g h =
    let P : ℕ → Type 0 = λ d. FromAfterOperand ps os (d ∷ text) T in subst P (sym (eqb-true c 124 f)) (ih (AfterBar ps os) h)
step-after_operand ps os c text T ih false false true e f g h =
    let P : ℕ → Type 0 = λ d. FromAfterOperand ps os (d ∷ text) T in subst P (sym (eqb-true c 125 g)) (ih (AfterClose ps os) h)
step-after_operand ps os c text T ih false false false e f g h = none-not T (FromAfterOperand ps os (c ∷ text) T) h

ends-operand : (ps : List Piece) (os : List Operand) (c : ℕ) (text : List ℕ) (T : List Piece) → Rest text T
    → next (after_operand ps os c) text ≡ Some T → FromAfterOperand ps os (c ∷ text) T
ends-operand ps os c text T ih h = step-after_operand ps os c text T ih (eqb c 32) (eqb c 124) (eqb c 125) refl refl refl h

-- a dot, where a name is expected next
dot-after_name : (ps : List Piece) (os : List Operand) (names : List (List ℕ)) (text : List ℕ) (T : List Piece)
    → FromNameDue ps os names text T → FromAfterName ps os names (46 ∷ text) T
dot-after_name ps os names text T f =
    let g = f.goes_on in
    let n = encode_utf8_all f.letters in
    let first : List ℕ = 46 ∷ (f.before ++ f.letters) in
    let dotted : EncodesDotted first n =
    record {
      before = [];
      between = f.before;
      letters = f.letters;
      spaces_before = tt;
      spaces_between = f.spaces;
      is_name = f.is_name;
      named = refl;
      whole = refl;
    } in
    let P : List (List ℕ) → Type 0 = λ ns. FromAfterOperand ps (os ++ Reference ns ∷ []) g.rest T in
    record {
      dotted = first ++ g.dotted;
      rest = g.rest;
      more = n ∷ g.more;
      are_names = (first, g.dotted, refl, dotted, g.are_names);
      whole = ap (λ t. 46 ∷ t) (f.whole ∙ (ap (λ r. f.before ++ (f.letters ++ r)) g.whole ∙ simp append_assoc));
      goes_on = subst P (append_assoc names (n ∷ []) g.more) g.goes_on;
    }

step-after_name : (ps : List Piece) (os : List Operand) (names : List (List ℕ)) (c : ℕ) (text : List ℕ) (T : List Piece) → Rest text T
    → (b t : Bool) → eqb c 32 ≡ b → eqb c 46 ≡ t
    → next (cond b (Some (AfterName ps os names))
    (cond t (Some (NameDue ps os names)) (after_operand ps (os ++ Reference names ∷ []) c))) text ≡ Some T
    → FromAfterName ps os names (c ∷ text) T
step-after_name ps os names c text T ih true t e f h =
    let P : ℕ → Type 0 =
    λ d. FromAfterName ps os names (d ∷ text) T in
    subst P (sym (eqb-true c 32 e)) (space-after_name ps os names text T (ih (AfterName ps os names) h))
step-after_name ps os names c text T ih false true e f h =
    let P : ℕ → Type 0 =
    λ d. FromAfterName ps os names (d ∷ text) T in
    subst P (sym (eqb-true c 46 f)) (dot-after_name ps os names text T (ih (NameDue ps os names) h))
step-after_name ps os names c text T ih false false e f h =
    let P : List (List ℕ) → Type 0 = λ ns. FromAfterOperand ps (os ++ Reference ns ∷ []) (c ∷ text) T in
    record {
      dotted = [];
      rest = c ∷ text;
      more = [];
      are_names = refl;
      whole = refl;
      goes_on = subst P (sym (append-nil names)) (ends-operand ps (os ++ Reference names ∷ []) c text T ih h);
    }

ends-name : (ps : List Piece) (os : List Operand) (names : List (List ℕ)) (c : ℕ) (text : List ℕ) (T : List Piece) → Rest text T
    → next (after_name ps os names c) text ≡ Some T → FromAfterName ps os names (c ∷ text) T
ends-name ps os names c text T ih h = step-after_name ps os names c text T ih (eqb c 32) (eqb c 46) refl refl h

step-in_name : (ps : List Piece) (os : List Operand) (names : List (List ℕ)) (w : List ℕ) (c : ℕ) (text : List ℕ) (T : List Piece)
    → Rest text T → (b : Bool) → continues_name c ≡ b
    → next (cond b (Some (InName ps os names (w ++ encode_utf8 c))) (after_name ps os (names ++ w ∷ []) c)) text ≡ Some T
    → FromName ps os names w (c ∷ text) T
step-in_name ps os names w c text T ih true e h =
    let f = ih (InName ps os names (w ++ encode_utf8 c)) h in
    let P : List ℕ → Type 0 = λ v. FromAfterName ps os (names ++ v ∷ []) f.rest T in
    record {
      letters = c ∷ f.letters;
      rest = f.rest;
      are_letters = (e, f.are_letters);
      whole = ap (λ t. c ∷ t) f.whole;
      goes_on = subst P (append_assoc w (encode_utf8 c) (encode_utf8_all f.letters)) f.goes_on;
    }
step-in_name ps os names w c text T ih false e h =
    let P : List ℕ → Type 0 = λ v. FromAfterName ps os (names ++ v ∷ []) (c ∷ text) T in
    record {
      letters = [];
      rest = c ∷ text;
      are_letters = tt;
      whole = refl;
      goes_on = subst P (sym (append-nil w)) (ends-name ps os (names ++ w ∷ []) c text T ih h);
    }

-- the first character of a name
begin-name : (ps : List Piece) (os : List Operand) (names : List (List ℕ)) (c : ℕ) (text : List ℕ) (T : List Piece) → begins_name c ≡ true
    → FromName ps os names (encode_utf8 c) text T → FromNameDue ps os names (c ∷ text) T
begin-name ps os names c text T e f = record {
  before = [];
  letters = c ∷ f.letters;
  rest = f.rest;
  spaces = tt;
  is_name = (e, f.are_letters);
  whole = ap (λ t. c ∷ t) f.whole;
  goes_on = f.goes_on;
}

step-name_due : (ps : List Piece) (os : List Operand) (names : List (List ℕ)) (c : ℕ) (text : List ℕ) (T : List Piece) → Rest text T
    → (b t : Bool) → eqb c 32 ≡ b → begins_name c ≡ t
    → next (cond b (Some (NameDue ps os names)) (cond t (Some (InName ps os names (encode_utf8 c))) None)) text ≡ Some T
    → FromNameDue ps os names (c ∷ text) T
step-name_due ps os names c text T ih true t e f h =
    let g = ih (NameDue ps os names) h in
    record {
      before = c ∷ g.before;
      letters = g.letters;
      rest = g.rest;
      spaces = (eqb-true c 32 e, g.spaces);
      is_name = g.is_name;
      whole = ap (λ t. c ∷ t) g.whole;
      goes_on = g.goes_on;
    }
step-name_due ps os names c text T ih false true e f h = begin-name ps os names c text T f (ih (InName ps os names (encode_utf8 c)) h)
step-name_due ps os names c text T ih false false e f h = none-not T (FromNameDue ps os names (c ∷ text) T) h

-- a reference as an operand
reference-operand : (ps : List Piece) (os : List Operand) (text : List ℕ) (T : List Piece) → FromNameDue ps os [] text T
    → FromOperand ps os text T
reference-operand ps os text T f =
    let g = f.goes_on in
    let n = encode_utf8_all f.letters in
    record {
      before = f.before;
      inner = f.letters ++ g.dotted;
      rest = g.rest;
      operand = Reference (n ∷ g.more);
      spaces = f.spaces;
      is_operand = record { letters = f.letters; rest = g.dotted; is_name = f.is_name; named = refl; dotted = g.are_names; whole = refl };
      whole = f.whole ∙ ap (λ t. f.before ++ t) (ap (λ r. f.letters ++ r) g.whole ∙ sym (append_assoc f.letters g.dotted g.rest));
      goes_on = g.goes_on;
    }

step-operand_due : (ps : List Piece) (os : List Operand) (c : ℕ) (text : List ℕ) (T : List Piece) → Rest text T → (b t u : Bool)
    → eqb c 32 ≡ b → eqb c 39 ≡ t → begins_name c ≡ u
    → next (cond b (Some (OperandDue ps os))
    (cond t (Some (InQuoted ps os [])) (cond u (Some (InName ps os [] (encode_utf8 c))) None))) text ≡ Some T
    → FromOperand ps os (c ∷ text) T
step-operand_due ps os c text T ih true t u e f g h =
    let k = ih (OperandDue ps os) h in
    record {
      before = c ∷ k.before;
      inner = k.inner;
      rest = k.rest;
      operand = k.operand;
      spaces = (eqb-true c 32 e, k.spaces);
      is_operand = k.is_operand;
      whole = ap (λ t. c ∷ t) k.whole;
      goes_on = k.goes_on;
    }
step-operand_due ps os c text T ih false true u e f g h =
    let k = ih (InQuoted ps os []) h in
    let P : ℕ → Type 0 = λ d. FromOperand ps os (d ∷ text) T in
    subst P (sym (eqb-true c 39 f)) record {
      before = [];
      inner = 39 ∷ (doubled k.inner ++ 39 ∷ []);
      rest = k.rest;
      operand = Quoted (encode_utf8_all k.inner);
      spaces = tt;
      is_operand = record { inner = k.inner; valued = refl; whole = refl };
      whole = ap (λ t. 39 ∷ t) (k.whole ∙ sym (append_assoc (doubled k.inner) (39 ∷ []) k.rest));
      goes_on = k.goes_on;
    }
step-operand_due ps os c text T ih false false true e f g h =
    reference-operand ps os (c ∷ text) T (begin-name ps os [] c text T g (ih (InName ps os [] (encode_utf8 c)) h))
step-operand_due ps os c text T ih false false false e f g h = none-not T (FromOperand ps os (c ∷ text) T) h

step-in_quoted : (ps : List Piece) (os : List Operand) (w : List ℕ) (c : ℕ) (text : List ℕ) (T : List Piece) → Rest text T → (b : Bool)
    → eqb c 39 ≡ b → next (cond b (Some (AfterQuote ps os w)) (Some (InQuoted ps os (w ++ encode_utf8 c)))) text ≡ Some T
    → FromQuoted ps os w (c ∷ text) T
step-in_quoted ps os w c text T ih true e h =
    let P : ℕ → Type 0 = λ d. FromQuoted ps os w (d ∷ text) T in subst P (sym (eqb-true c 39 e)) (ih (AfterQuote ps os w) h)
step-in_quoted ps os w c text T ih false e h =
    let f = ih (InQuoted ps os (w ++ encode_utf8 c)) h in
    let P : List ℕ → Type 0 = λ v. FromAfterOperand ps (os ++ Quoted v ∷ []) f.rest T in
    record {
      inner = c ∷ f.inner;
      rest = f.rest;
      whole = ap (λ t. c ∷ t) f.whole ∙ ap (λ b. cond b (39 ∷ (39 ∷ doubled f.inner)) (c ∷ doubled f.inner) ++ (39 ∷ f.rest)) (sym e);
      goes_on = subst P (append_assoc w (encode_utf8 c) (encode_utf8_all f.inner)) f.goes_on;
    }

step-after_quote : (ps : List Piece) (os : List Operand) (w : List ℕ) (c : ℕ) (text : List ℕ) (T : List Piece) → Rest text T → (b : Bool)
    → eqb c 39 ≡ b → next (cond b (Some (InQuoted ps os (w ++ encode_utf8 c))) (after_operand ps (os ++ Quoted w ∷ []) c)) text ≡ Some T
    → FromQuoted ps os w (39 ∷ (c ∷ text)) T
step-after_quote ps os w c text T ih true e h =
    let f = ih (InQuoted ps os (w ++ encode_utf8 c)) h in
    let P : List ℕ → Type 0 = λ v. FromAfterOperand ps (os ++ Quoted v ∷ []) f.rest T in
    record {
      inner = c ∷ f.inner;
      rest = f.rest;
      whole = ap (λ d. 39 ∷ (d ∷ text)) (eqb-true c 39 e)
          ∙ (ap (λ t. 39 ∷ (39 ∷ t)) f.whole
          ∙ ap (λ b. cond b (39 ∷ (39 ∷ doubled f.inner)) (c ∷ doubled f.inner) ++ (39 ∷ f.rest)) (sym e));
      goes_on = subst P (append_assoc w (encode_utf8 c) (encode_utf8_all f.inner)) f.goes_on;
    }
step-after_quote ps os w c text T ih false e h =
    let P : List ℕ → Type 0 = λ v. FromAfterOperand ps (os ++ Quoted v ∷ []) (c ∷ text) T in
    record {
      inner = [];
      rest = c ∷ text;
      whole = refl;
      goes_on = subst P (sym (append-nil w)) (ends-operand ps (os ++ Quoted w ∷ []) c text T ih h);
    }

-- a joined operand after `||`
step-after_bar : (ps : List Piece) (os : List Operand) (c : ℕ) (text : List ℕ) (T : List Piece) → Rest text T → (b : Bool) → eqb c 124 ≡ b
    → next (cond b (Some (OperandDue ps os)) None) text ≡ Some T → FromAfterOperand ps os (124 ∷ (c ∷ text)) T
step-after_bar ps os c text T ih true e h =
    let k = ih (OperandDue ps os) h in
    let g = k.goes_on in
    let first : List ℕ = 124 ∷ (124 ∷ (k.before ++ k.inner)) in
    let joined : EncodesJoined first k.operand =
    record {
      before = [];
      between = k.before;
      inner = k.inner;
      spaces_before = tt;
      spaces_between = k.spaces;
      is_operand = k.is_operand;
      whole = refl;
    } in
    record {
      more = first ++ g.more;
      after = g.after;
      rest = g.rest;
      operands = k.operand ∷ g.operands;
      pieces = g.pieces;
      are_more = (first, g.more, refl, joined, g.are_more);
      spaces = g.spaces;
      spelled = g.spelled;
      whole = ap (λ d. 124 ∷ (d ∷ text)) (eqb-true c 124 e)
          ∙ ap (λ t. 124 ∷ (124 ∷ t)) (k.whole ∙ (ap (λ r. k.before ++ (k.inner ++ r)) g.whole ∙ simp append_assoc));
      made = g.made ∙ ap (λ v. ps ++ (Braced v ∷ g.pieces)) (append_assoc os (k.operand ∷ []) g.operands);
    }
step-after_bar ps os c text T ih false e h = none-not T (FromAfterOperand ps os (124 ∷ (c ∷ text)) T) h

-- the pieces of a text that follows an empty word
record Pieces (ps : List Piece) (text : List ℕ) (T : List Piece) : Type 0 where
  pieces : List Piece
  spelled : EncodesPieces text pieces
  made : T ≡ ps ++ pieces

pieces-with : (ps : List Piece) (plain rest text : List ℕ) (more T : List Piece) → HoldsNoOpening plain → BeginsBraced more
    → EncodesPieces rest more → text ≡ plain ++ rest → T ≡ ps ++ (plain_piece (encode_utf8_all plain) ++ more) → Pieces ps text T
pieces-with ps [] rest text more T no_opening begins spelled whole made = record {
  pieces = more;
  spelled = let P : List ℕ → Type 0 = λ t. EncodesPieces t more in subst P (sym whole) spelled;
  made = made;
}
pieces-with ps (c ∷ plain) rest text more T no_opening begins spelled whole made =
    let all : List ℕ = c ∷ plain in
    let some : all ≢ [] = λ e. cc in
    let v = encode_utf8_all all in
    let is_plain : EncodesPlain all v = record { some = some; no_opening = no_opening; valued = refl } in
    record {
      pieces = Plain v ∷ more;
      spelled = (all, rest, whole, is_plain, begins, spelled);
      made = made ∙ ap (λ p. ps ++ (p ++ more)) (plain_piece-some all some);
    }

pieces-from_text : (ps : List Piece) (text : List ℕ) (T : List Piece) → FromText ps [] text T → Pieces ps text T
pieces-from_text ps text T f = pieces-with ps f.plain f.rest text f.more T f.no_opening f.begins f.spelled f.whole f.made

step-after_close : (ps : List Piece) (os : List Operand) (c : ℕ) (text : List ℕ) (T : List Piece) → Rest text T → (b : Bool) → eqb c 125 ≡ b
    → next (cond b (Some (InText (ps ++ Braced os ∷ []) [])) None) text ≡ Some T → FromAfterOperand ps os (125 ∷ (c ∷ text)) T
step-after_close ps os c text T ih true e h =
    let f = pieces-from_text (ps ++ Braced os ∷ []) text T (ih (InText (ps ++ Braced os ∷ []) []) h) in
    record {
      more = [];
      after = [];
      rest = text;
      operands = [];
      pieces = f.pieces;
      are_more = refl;
      spaces = tt;
      spelled = f.spelled;
      whole = ap (λ d. 125 ∷ (d ∷ text)) (eqb-true c 125 e);
      made = f.made ∙ (append_assoc ps (Braced os ∷ []) f.pieces ∙ ap (λ v. ps ++ (Braced v ∷ f.pieces)) (sym (append-nil os)));
    }
step-after_close ps os c text T ih false e h = none-not T (FromAfterOperand ps os (125 ∷ (c ∷ text)) T) h

-- a braced piece after `${{`
open-braced : (ps : List Piece) (w text : List ℕ) (T : List Piece) → FromOperand (ps ++ plain_piece w) [] text T
    → FromText ps w (36 ∷ (123 ∷ (123 ∷ text))) T
open-braced ps w text T k =
    let g = k.goes_on in
    let os = k.operand ∷ g.operands in
    let first : List ℕ = 36 ∷ (123 ∷ (123 ∷ (k.before ++ (k.inner ++ (g.more ++ (g.after ++ (125 ∷ (125 ∷ [])))))))) in
    let braced : EncodesBraced first k.operand g.operands =
    record {
      before = k.before;
      inner = k.inner;
      more = g.more;
      after = g.after;
      spaces_before = k.spaces;
      spaces_after = g.spaces;
      is_operand = k.is_operand;
      are_more = g.are_more;
      whole = refl;
    } in
    let whole : 36 ∷ (123 ∷ (123 ∷ text)) ≡ first ++ g.rest =
    ap (λ t. 36 ∷ (123 ∷ (123 ∷ t))) (k.whole ∙ (ap (λ r. k.before ++ (k.inner ++ r)) g.whole ∙ simp append_assoc)) in
    record {
      plain = [];
      rest = 36 ∷ (123 ∷ (123 ∷ text));
      more = Braced os ∷ g.pieces;
      no_opening = no_opening-nil;
      begins = tt;
      spelled = (first, g.rest, whole, braced, tt, g.spelled);
      whole = refl;
      made = g.made
          ∙ (append_assoc ps (plain_piece w) (Braced os ∷ g.pieces)
          ∙ ap (λ v. ps ++ (plain_piece v ++ Braced os ∷ g.pieces)) (sym (append-nil w)));
    }

step-after_brace : (ps : List Piece) (w : List ℕ) (c : ℕ) (text : List ℕ) (T : List Piece) → Rest text T → (b : Bool) → eqb c 123 ≡ b
    → next (cond b (Some (OperandDue (ps ++ plain_piece w) [])) (Some (in_text ps (w ++ codes "${") c))) text ≡ Some T
    → FromText ps w (36 ∷ (123 ∷ (c ∷ text))) T
step-after_brace ps w c text T ih true e h =
    let P : ℕ → Type 0 =
    λ d. FromText ps w (36 ∷ (123 ∷ (d ∷ text))) T in
    subst P (sym (eqb-true c 123 e)) (open-braced ps w text T (ih (OperandDue (ps ++ plain_piece w) []) h))
step-after_brace ps w c text T ih false e h = brace-back ps w c text T e (step-in_text ps (w ++ codes "${") c text T ih (eqb c 36) refl h)

sound-step : (r : Reader) (c : ℕ) (text : List ℕ) (T : List Piece) → Rest text T → next (taken r c) text ≡ Some T → Completes r (c ∷ text) T
sound-step (InText ps w) c text T ih h = step-in_text ps w c text T ih (eqb c 36) refl h
sound-step (AfterDollar ps w) c text T ih h = step-after_dollar ps w c text T ih (eqb c 123) refl h
sound-step (AfterBrace ps w) c text T ih h = step-after_brace ps w c text T ih (eqb c 123) refl h
sound-step (OperandDue ps os) c text T ih h = step-operand_due ps os c text T ih (eqb c 32) (eqb c 39) (begins_name c) refl refl refl h
sound-step (NameDue ps os names) c text T ih h = step-name_due ps os names c text T ih (eqb c 32) (begins_name c) refl refl h
sound-step (InName ps os names w) c text T ih h = step-in_name ps os names w c text T ih (continues_name c) refl h
sound-step (AfterName ps os names) c text T ih h = ends-name ps os names c text T ih h
sound-step (InQuoted ps os w) c text T ih h = step-in_quoted ps os w c text T ih (eqb c 39) refl h
sound-step (AfterQuote ps os w) c text T ih h = step-after_quote ps os w c text T ih (eqb c 39) refl h
sound-step (AfterOperand ps os) c text T ih h = ends-operand ps os c text T ih h
sound-step (AfterBar ps os) c text T ih h = step-after_bar ps os c text T ih (eqb c 124) refl h
sound-step (AfterClose ps os) c text T ih h = step-after_close ps os c text T ih (eqb c 125) refl h

-- the end of the text
end-with : (ps : List Piece) (w plain v : List ℕ) (T : List Piece) → HoldsNoOpening plain → v ≡ w ++ encode_utf8_all plain
    → Some (ps ++ plain_piece v) ≡ Some T → FromText ps w plain T
end-with ps w plain v T no_opening word h =
    let made : T ≡ ps ++ plain_piece v = cc in
    record {
      plain = plain;
      rest = [];
      more = [];
      no_opening = no_opening;
      begins = tt;
      spelled = refl;
      whole = sym (append-nil plain);
      made = made ∙ (ap (λ u. ps ++ plain_piece u) word ∙ ap (λ p. ps ++ p) (sym (append-nil (plain_piece (w ++ encode_utf8_all plain)))));
    }

one-dollar : HoldsNoOpening (36 ∷ [])
one-dollar = no_opening-cons 36 [] (λ after e. let tail : [] ≡ 123 ∷ 123 ∷ after = cc in cc) no_opening-nil

dollar-brace : HoldsNoOpening (36 ∷ (123 ∷ []))
dollar-brace =
    no_opening-cons 36 (123 ∷ []) (λ after e. let tail : [] ≡ 123 ∷ after = cc in cc)
    (no_opening-cons 123 [] (λ after e. let tail : [] ≡ 123 ∷ 123 ∷ after = cc in cc) no_opening-nil)

sound-end : (r : Reader) (T : List Piece) → ended r ≡ Some T → Completes r [] T
sound-end (InText ps w) T h = end-with ps w [] w T no_opening-nil (sym (append-nil w)) h
sound-end (AfterDollar ps w) T h =
    end-with ps w (36 ∷ []) (w ++ codes "$") T one-dollar (ap (λ v. w ++ (v ++ [])) (sym (encode_ascii 36 (lit< tt)))) h
sound-end (AfterBrace ps w) T h =
    end-with ps w (36 ∷ (123 ∷ [])) (w ++ codes "${") T dollar-brace
    (ap (λ v. w ++ (36 ∷ (v ++ []))) (sym (encode_ascii 123 (lit< tt)))
    ∙ ap (λ v. w ++ (v ++ (encode_utf8 123 ++ []))) (sym (encode_ascii 36 (lit< tt)))) h
sound-end (OperandDue ps os) T h = none-not T (FromOperand ps os [] T) h
sound-end (NameDue ps os names) T h = none-not T (FromNameDue ps os names [] T) h
sound-end (InName ps os names w) T h = none-not T (FromName ps os names w [] T) h
sound-end (AfterName ps os names) T h = none-not T (FromAfterName ps os names [] T) h
sound-end (InQuoted ps os w) T h = none-not T (FromQuoted ps os w [] T) h
sound-end (AfterQuote ps os w) T h = none-not T (FromQuoted ps os w (39 ∷ []) T) h
sound-end (AfterOperand ps os) T h = none-not T (FromAfterOperand ps os [] T) h
sound-end (AfterBar ps os) T h = none-not T (FromAfterOperand ps os (124 ∷ []) T) h
sound-end (AfterClose ps os) T h = none-not T (FromAfterOperand ps os (125 ∷ []) T) h

sound : (text : List ℕ) (T : List Piece) → Rest text T
unfolding run
sound [] T r h = sound-end r T h
sound (c ∷ text) T r h = sound-step r c text T (sound text T) h

-- the grammar accepts what parses
pub read-spells : (text : List ℕ) (T : List Piece) → run (InText [] []) text ≡ Some T → EncodesPieces text T
read-spells text T h =
    let f = pieces-from_text [] text T (sound text T (InText [] []) h) in
    let P : List Piece → Type 0 = λ t. EncodesPieces text t in
    subst P (sym f.made) f.spelled
