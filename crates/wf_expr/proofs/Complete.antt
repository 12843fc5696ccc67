-- A text that the grammar accepts as a template parses to that template.
use Rattle.std.proofs.Common.{◌≡◌, ◌≢◌, ◌⊎◌, ℕ, Bool, true, false, cond, eqb, IsTrue, List, [], ◌∷◌, ◌++◌, refl, ap, sym, ◌∙◌, inl, inr}
use Rattle.std.proofs.Common.{append_assoc, append-nil, eqb-true, eq-eqb, lit<, length, arith}
use Rattle.std.specs.Prelude.{Some, codes}
use Rattle.std.specs.Option.{option_and_then}
use Rattle.std.specs.List.{AllByRecursion}
use Rattle.std.specs.Str.{encode_utf8_all}
use Rattle.std.specs.Char.{encode_utf8}
use Rattle.std.proofs.lemmas.Str.{encode_ascii, length-encode, len_utf8_bounds}
use Rattle.std.proofs.lemmas.Bool.{cond-false, cond-true}
use Rattle.wf_expr.specs.Grammar.{begins_name, continues_name, EncodesPlain, EncodesPieces, BeginsBraced}
use Rattle.wf_expr.specs.Grammar.{AreSpaces, IsName, EncodesNames, doubled, EncodesOperand, EncodesMore, EncodesBraced, HoldsNoOpening}
use Rattle.wf_expr.specs.inner.Parsing.{taken, run, plain_piece}
use Rattle.wf_expr.specs.declared.piece.Operand.{Operand}
use Rattle.wf_expr.specs.declared.piece.Operand.TheVariants.{Quoted, Reference}
use Rattle.wf_expr.specs.declared.piece.Piece.{Piece}
use Rattle.wf_expr.specs.declared.piece.Piece.TheVariants.{Plain, Braced}
use Rattle.wf_expr.specs.declared.reader.Reader.{Reader}
use Rattle.wf_expr.specs.declared.reader.Reader.TheVariants.{InText, AfterDollar, AfterBrace, OperandDue, InName, AfterName, NameDue}
use Rattle.wf_expr.specs.declared.reader.Reader.TheVariants.{InQuoted, AfterQuote, AfterOperand, AfterBar, AfterClose}

run-some : (r s : Reader) (c : ℕ) (cs : List ℕ) → taken r c ≡ Some s → run r (c ∷ cs) ≡ run s cs
unfolding run
run-some r s c cs e = ap (option_and_then (λ next. run next cs)) e

-- two states in which the character has the same effect
run-alike : (r s : Reader) (c : ℕ) (cs : List ℕ) → taken r c ≡ taken s c → run r (c ∷ cs) ≡ run s (c ∷ cs)
unfolding run
run-alike r s c cs e = ap (option_and_then (λ next. run next cs)) e

spaces-read : (r : Reader) (s x : List ℕ) → taken r 32 ≡ Some r → AreSpaces s → run r (s ++ x) ≡ run r x
spaces-read r [] x stays h = refl
spaces-read r (c ∷ s) x stays h =
    ap (λ d. run r (d ∷ (s ++ x))) h.0 ∙ (run-some r r 32 (s ++ x) stays ∙ spaces-read r s x stays h.1)

-- a character that starts a name differs from one that does not
begins-other : (c d : ℕ) (b : Bool) → eqb c d ≡ b → begins_name d ≡ false → begins_name c ≡ true → b ≡ false
begins-other c d false e n h = refl
begins-other c d true e n h = let same : c ≡ d = eqb-true c d e in sym h ∙ (ap begins_name same ∙ n)

begins-not-space : (c : ℕ) → begins_name c ≡ true → eqb c 32 ≡ false
unfolding begins_name
begins-not-space c h = begins-other c 32 (eqb c 32) refl refl h

begins-not-quote : (c : ℕ) → begins_name c ≡ true → eqb c 39 ≡ false
unfolding begins_name
begins-not-quote c h = begins-other c 39 (eqb c 39) refl refl h

letters-read : (ps : List Piece) (os : List Operand) (names : List (List ℕ)) (w cs x : List ℕ)
    → AllByRecursion (λ d. IsTrue (continues_name d)) cs
    → run (InName ps os names w) (cs ++ x) ≡ run (InName ps os names (w ++ encode_utf8_all cs)) x
letters-read ps os names w [] x h = ap (λ v. run (InName ps os names v) x) (sym (append-nil w))
letters-read ps os names w (c ∷ cs) x h =
    run-some (InName ps os names w) (InName ps os names (w ++ encode_utf8 c)) c (cs ++ x) (cond-true (continues_name c) _ _ h.0)
    ∙ (letters-read ps os names (w ++ encode_utf8 c) cs x h.1
    ∙ ap (λ v. run (InName ps os names v) x) (append_assoc w (encode_utf8 c) (encode_utf8_all cs)))

name-due-read : (ps : List Piece) (os : List Operand) (names : List (List ℕ)) (n x : List ℕ) → IsName n
    → run (NameDue ps os names) (n ++ x) ≡ run (InName ps os names (encode_utf8_all n)) x
name-due-read ps os names [] x h = absurd h
name-due-read ps os names (c ∷ cs) x h =
    run-some (NameDue ps os names) (InName ps os names (encode_utf8 c)) c (cs ++ x)
    (cond-false (eqb c 32) _ _ (begins-not-space c h.0) ∙ cond-true (begins_name c) _ _ h.0)
    ∙ letters-read ps os names (encode_utf8 c) cs x h.1

operand-due-name : (ps : List Piece) (os : List Operand) (n x : List ℕ) → IsName n
    → run (OperandDue ps os) (n ++ x) ≡ run (InName ps os [] (encode_utf8_all n)) x
operand-due-name ps os [] x h = absurd h
operand-due-name ps os (c ∷ cs) x h =
    run-some (OperandDue ps os) (InName ps os [] (encode_utf8 c)) c (cs ++ x)
    (cond-false (eqb c 32) _ _ (begins-not-space c h.0)
    ∙ (cond-false (eqb c 39) _ _ (begins-not-quote c h.0) ∙ cond-true (begins_name c) _ _ h.0))
    ∙ letters-read ps os [] (encode_utf8 c) cs x h.1

-- no name continues with these characters
abbrev StopsName : List ℕ → Type 0
StopsName [] = Unit {0}
StopsName (c ∷ cs) = continues_name c ≡ false

name-ends : (ps : List Piece) (os : List Operand) (names : List (List ℕ)) (w x : List ℕ) → StopsName x
    → run (InName ps os names w) x ≡ run (AfterName ps os (names ++ w ∷ [])) x
unfolding run
name-ends ps os names w [] h = refl
name-ends ps os names w (c ∷ x) h =
    run-alike (InName ps os names w) (AfterName ps os (names ++ w ∷ [])) c x (cond-false (continues_name c) _ _ h)

spaces-stop : (s : List ℕ) (c : ℕ) (x : List ℕ) → AreSpaces s → continues_name c ≡ false → StopsName (s ++ c ∷ x)
unfolding continues_name begins_name
spaces-stop [] c x h n = n
spaces-stop (d ∷ s) c x h n = ap continues_name h.0

dotted-assoc : (a b n rest x : List ℕ) → ((a ++ 46 ∷ (b ++ n)) ++ rest) ++ x ≡ a ++ (46 ∷ (b ++ (n ++ (rest ++ x))))
dotted-assoc a b n rest x = simp append_assoc

names-stop : (text x : List ℕ) (ns : List (List ℕ)) → EncodesNames text ns → StopsName x → StopsName (text ++ x)
unfolding continues_name begins_name
names-stop text x [] h stop = rw h stop
names-stop text x (n ∷ ns) h stop =
    let d = h.3 in
    let whole : text ++ x ≡ d.before ++ (46 ∷ (d.between ++ (d.letters ++ (h.1 ++ x)))) =
    ap (λ t. t ++ x) (h.2 ∙ ap (λ f. f ++ h.1) d.whole) ∙ dotted-assoc d.before d.between d.letters h.1 x in
    rw whole (spaces-stop d.before 46 (d.between ++ (d.letters ++ (h.1 ++ x))) d.spaces_before refl)

names-read : (ps : List Piece) (os : List Operand) (names : List (List ℕ)) (text x : List ℕ) (ns : List (List ℕ)) → EncodesNames text ns
    → StopsName x → run (AfterName ps os names) (text ++ x) ≡ run (AfterName ps os (names ++ ns)) x
names-read ps os names text x [] h stop =
    ap (λ t. run (AfterName ps os names) (t ++ x)) h ∙ ap (λ v. run (AfterName ps os v) x) (sym (append-nil names))
names-read ps os names text x (n ∷ ns) h stop =
    let d = h.3 in
    let rest = h.1 in
    let whole : text ++ x ≡ d.before ++ (46 ∷ (d.between ++ (d.letters ++ (rest ++ x)))) =
    ap (λ t. t ++ x) (h.2 ∙ ap (λ f. f ++ rest) d.whole) ∙ dotted-assoc d.before d.between d.letters rest x in
    ap (run (AfterName ps os names)) whole
    ∙ (spaces-read (AfterName ps os names) d.before (46 ∷ (d.between ++ (d.letters ++ (rest ++ x)))) refl d.spaces_before
    ∙ (run-some (AfterName ps os names) (NameDue ps os names) 46 (d.between ++ (d.letters ++ (rest ++ x))) refl
    ∙ (spaces-read (NameDue ps os names) d.between (d.letters ++ (rest ++ x)) refl d.spaces_between
    ∙ (name-due-read ps os names d.letters (rest ++ x) d.is_name
    ∙ (name-ends ps os names (encode_utf8_all d.letters) (rest ++ x) (names-stop rest x ns h.4 stop)
    ∙ (names-read ps os (names ++ encode_utf8_all d.letters ∷ []) rest x ns h.4 stop
    ∙ ap (λ v. run (AfterName ps os v) x)
    (append_assoc names (encode_utf8_all d.letters ∷ []) ns ∙ ap (λ v. names ++ v ∷ ns) (sym d.named))))))))

-- what may follow an operand: spaces, and `|` or `}`
record Stops (x : List ℕ) : Type 0 where
  before : List ℕ
  mark : ℕ
  rest : List ℕ
  spaces : AreSpaces before
  marked : (mark ≡ 124) ⊎ (mark ≡ 125)
  whole : x ≡ before ++ mark ∷ rest

Stops-name : (x : List ℕ) → Stops x → StopsName x
unfolding continues_name begins_name
Stops-name x h =
    let stop : continues_name h.mark ≡ false = elim h.marked [ inl e ↦ ap continues_name e | inr e ↦ ap continues_name e ] in
    rw h.whole (spaces-stop h.before h.mark h.rest h.spaces stop)

-- after optional spaces, `|` or `}` ends a name and an operand alike
mark-after_name : (ps : List Piece) (os : List Operand) (names : List (List ℕ)) (c : ℕ) (x : List ℕ) → (c ≡ 124) ⊎ (c ≡ 125)
    → run (AfterName ps os names) (c ∷ x) ≡ run (AfterOperand ps (os ++ Reference names ∷ [])) (c ∷ x)
mark-after_name ps os names c x (inl e) =
    ap (λ d. run (AfterName ps os names) (d ∷ x)) e
    ∙ (run-alike (AfterName ps os names) (AfterOperand ps (os ++ Reference names ∷ [])) 124 x refl
    ∙ ap (λ d. run (AfterOperand ps (os ++ Reference names ∷ [])) (d ∷ x)) (sym e))
mark-after_name ps os names c x (inr e) =
    ap (λ d. run (AfterName ps os names) (d ∷ x)) e
    ∙ (run-alike (AfterName ps os names) (AfterOperand ps (os ++ Reference names ∷ [])) 125 x refl
    ∙ ap (λ d. run (AfterOperand ps (os ++ Reference names ∷ [])) (d ∷ x)) (sym e))

reference-ends : (ps : List Piece) (os : List Operand) (names : List (List ℕ)) (x : List ℕ) → Stops x
    → run (AfterName ps os names) x ≡ run (AfterOperand ps (os ++ Reference names ∷ [])) x
reference-ends ps os names x h =
    let tail = h.mark ∷ h.rest in
    ap (run (AfterName ps os names)) h.whole
    ∙ (spaces-read (AfterName ps os names) h.before tail refl h.spaces
    ∙ (mark-after_name ps os names h.mark h.rest h.marked
    ∙ (sym (spaces-read (AfterOperand ps (os ++ Reference names ∷ [])) h.before tail refl h.spaces)
    ∙ ap (run (AfterOperand ps (os ++ Reference names ∷ []))) (sym h.whole))))

quote-ends-at : (ps : List Piece) (os : List Operand) (w : List ℕ) (c d : ℕ) (x : List ℕ) → c ≡ d → eqb d 39 ≡ false
    → run (AfterQuote ps os w) (c ∷ x) ≡ run (AfterOperand ps (os ++ Quoted w ∷ [])) (c ∷ x)
quote-ends-at ps os w c d x e n =
    run-alike (AfterQuote ps os w) (AfterOperand ps (os ++ Quoted w ∷ [])) c x (cond-false (eqb c 39) _ _ (ap (λ v. eqb v 39) e ∙ n))

quote-ends-suffix : (ps : List Piece) (os : List Operand) (w before : List ℕ) (mark : ℕ) (x : List ℕ) → AreSpaces before
    → (mark ≡ 124) ⊎ (mark ≡ 125)
    → run (AfterQuote ps os w) (before ++ mark ∷ x) ≡ run (AfterOperand ps (os ++ Quoted w ∷ [])) (before ++ mark ∷ x)
quote-ends-suffix ps os w [] mark x s (inl e) = quote-ends-at ps os w mark 124 x e refl
quote-ends-suffix ps os w [] mark x s (inr e) = quote-ends-at ps os w mark 125 x e refl
quote-ends-suffix ps os w (c ∷ before) mark x s m = quote-ends-at ps os w c 32 (before ++ mark ∷ x) s.0 refl

quote-ends : (ps : List Piece) (os : List Operand) (w x : List ℕ) → Stops x
    → run (AfterQuote ps os w) x ≡ run (AfterOperand ps (os ++ Quoted w ∷ [])) x
quote-ends ps os w x h =
    ap (run (AfterQuote ps os w)) h.whole
    ∙ (quote-ends-suffix ps os w h.before h.mark h.rest h.spaces h.marked
    ∙ ap (run (AfterOperand ps (os ++ Quoted w ∷ []))) (sym h.whole))

-- the characters of a quoted text, and its closing quote
quoted-char : (ps : List Piece) (os : List Operand) (w : List ℕ) (c : ℕ) (cs x : List ℕ) (b : Bool) → eqb c 39 ≡ b
    → ((v : List ℕ) → run (InQuoted ps os v) (doubled cs ++ 39 ∷ x) ≡ run (AfterQuote ps os (v ++ encode_utf8_all cs)) x)
    → run (InQuoted ps os w) (cond b (39 ∷ 39 ∷ doubled cs) (c ∷ doubled cs) ++ 39 ∷ x)
    ≡ run (AfterQuote ps os (w ++ (encode_utf8 c ++ encode_utf8_all cs))) x
quoted-char ps os w c cs x true e rest =
    run-some (InQuoted ps os w) (AfterQuote ps os w) 39 (39 ∷ (doubled cs ++ 39 ∷ x)) refl
    ∙ (run-some (AfterQuote ps os w) (InQuoted ps os (w ++ encode_utf8 39)) 39 (doubled cs ++ 39 ∷ x) refl
    ∙ (rest (w ++ encode_utf8 39)
    ∙ ap (λ v. run (AfterQuote ps os v) x)
    (append_assoc w (encode_utf8 39) (encode_utf8_all cs)
    ∙ ap (λ d. w ++ (encode_utf8 d ++ encode_utf8_all cs)) (sym (eqb-true c 39 e)))))
quoted-char ps os w c cs x false e rest =
    run-some (InQuoted ps os w) (InQuoted ps os (w ++ encode_utf8 c)) c (doubled cs ++ 39 ∷ x) (cond-false (eqb c 39) _ _ e)
    ∙ (rest (w ++ encode_utf8 c)
    ∙ ap (λ v. run (AfterQuote ps os v) x) (append_assoc w (encode_utf8 c) (encode_utf8_all cs)))

quoted-read : (ps : List Piece) (os : List Operand) (w cs x : List ℕ)
    → run (InQuoted ps os w) (doubled cs ++ 39 ∷ x) ≡ run (AfterQuote ps os (w ++ encode_utf8_all cs)) x
quoted-read ps os w [] x =
    run-some (InQuoted ps os w) (AfterQuote ps os w) 39 x refl ∙ ap (λ v. run (AfterQuote ps os v) x) (sym (append-nil w))
quoted-read ps os w (c ∷ cs) x = quoted-char ps os w c cs x (eqb c 39) refl (λ v. quoted-read ps os v cs x)

operand-read : (ps : List Piece) (os : List Operand) (text x : List ℕ) (o : Operand) → EncodesOperand text o → Stops x
    → run (OperandDue ps os) (text ++ x) ≡ run (AfterOperand ps (os ++ o ∷ [])) x
operand-read ps os text x (Quoted value) h stop =
    ap (λ t. run (OperandDue ps os) (t ++ x)) h.whole
    ∙ (run-some (OperandDue ps os) (InQuoted ps os []) 39 ((doubled h.inner ++ 39 ∷ []) ++ x) refl
    ∙ (ap (run (InQuoted ps os [])) (append_assoc (doubled h.inner) (39 ∷ []) x)
    ∙ (quoted-read ps os [] h.inner x
    ∙ (ap (λ v. run (AfterQuote ps os v) x) (sym h.valued)
    ∙ quote-ends ps os value x stop))))
operand-read ps os text x (Reference []) h stop = absurd h
operand-read ps os text x (Reference (n ∷ ns)) h stop =
    ap (λ t. run (OperandDue ps os) (t ++ x)) h.whole
    ∙ (ap (run (OperandDue ps os)) (append_assoc h.letters h.rest x)
    ∙ (operand-due-name ps os h.letters (h.rest ++ x) h.is_name
    ∙ (name-ends ps os [] (encode_utf8_all h.letters) (h.rest ++ x) (names-stop h.rest x ns h.dotted (Stops-name x stop))
    ∙ (names-read ps os (encode_utf8_all h.letters ∷ []) h.rest x ns h.dotted (Stops-name x stop)
    ∙ (ap (λ v. run (AfterName ps os (v ∷ ns)) x) (sym h.named)
    ∙ reference-ends ps os (n ∷ ns) x stop)))))

joined-assoc : (a b n rest x : List ℕ) → ((a ++ 124 ∷ 124 ∷ (b ++ n)) ++ rest) ++ x ≡ a ++ (124 ∷ (124 ∷ (b ++ (n ++ (rest ++ x)))))
joined-assoc a b n rest x = simp append_assoc

more-stop : (text x : List ℕ) (os : List Operand) → EncodesMore text os → Stops x → Stops (text ++ x)
more-stop text x [] h stop = rw h stop
more-stop text x (o ∷ os) h stop =
    let j = h.3 in
    record {
      before = j.before;
      mark = 124;
      rest = 124 ∷ (j.between ++ (j.inner ++ (h.1 ++ x)));
      spaces = j.spaces_before;
      marked = inl refl;
      whole = ap (λ t. t ++ x) (h.2 ∙ ap (λ f. f ++ h.1) j.whole) ∙ joined-assoc j.before j.between j.inner h.1 x;
    }

more-read : (ps : List Piece) (os : List Operand) (text x : List ℕ) (more : List Operand) → EncodesMore text more → Stops x
    → run (AfterOperand ps os) (text ++ x) ≡ run (AfterOperand ps (os ++ more)) x
more-read ps os text x [] h stop = ap (λ t. run (AfterOperand ps os) (t ++ x)) h ∙ ap (λ v. run (AfterOperand ps v) x) (sym (append-nil os))
more-read ps os text x (o ∷ more) h stop =
    let j = h.3 in
    let rest = h.1 in
    let whole : text ++ x ≡ j.before ++ (124 ∷ (124 ∷ (j.between ++ (j.inner ++ (rest ++ x))))) =
    ap (λ t. t ++ x) (h.2 ∙ ap (λ f. f ++ rest) j.whole) ∙ joined-assoc j.before j.between j.inner rest x in
    ap (run (AfterOperand ps os)) whole
    ∙ (spaces-read (AfterOperand ps os) j.before (124 ∷ (124 ∷ (j.between ++ (j.inner ++ (rest ++ x))))) refl j.spaces_before
    ∙ (run-some (AfterOperand ps os) (AfterBar ps os) 124 (124 ∷ (j.between ++ (j.inner ++ (rest ++ x)))) refl
    ∙ (run-some (AfterBar ps os) (OperandDue ps os) 124 (j.between ++ (j.inner ++ (rest ++ x))) refl
    ∙ (spaces-read (OperandDue ps os) j.between (j.inner ++ (rest ++ x)) refl j.spaces_between
    ∙ (operand-read ps os j.inner (rest ++ x) o j.is_operand (more-stop rest x more h.4 stop)
    ∙ (more-read ps (os ++ o ∷ []) rest x more h.4 stop
    ∙ ap (λ v. run (AfterOperand ps v) x) (append_assoc os (o ∷ []) more)))))))

braced-assoc : (before inner more after x : List ℕ)
    → (before ++ (inner ++ (more ++ (after ++ 125 ∷ 125 ∷ [])))) ++ x ≡ before ++ (inner ++ (more ++ (after ++ (125 ∷ (125 ∷ x)))))
braced-assoc before inner more after x = simp append_assoc

-- after `${{` an operand is expected
pub opening-read : (ps : List Piece) (w x : List ℕ)
    → run (InText ps w) (36 ∷ (123 ∷ (123 ∷ x))) ≡ run (OperandDue (ps ++ plain_piece w) []) x
opening-read ps w x =
    run-some (InText ps w) (AfterDollar ps w) 36 (123 ∷ (123 ∷ x)) refl
    ∙ (run-some (AfterDollar ps w) (AfterBrace ps w) 123 (123 ∷ x) refl
    ∙ run-some (AfterBrace ps w) (OperandDue (ps ++ plain_piece w) []) 123 x refl)

braced-read : (ps : List Piece) (w text x : List ℕ) (o : Operand) (os : List Operand) → EncodesBraced text o os
    → run (InText ps w) (text ++ x) ≡ run (InText ((ps ++ plain_piece w) ++ Braced (o ∷ os) ∷ []) []) x
braced-read ps w text x o os h =
    let qs = ps ++ plain_piece w in
    let close = h.after ++ (125 ∷ (125 ∷ x)) in
    let stop : Stops close =
    record { before = h.after; mark = 125; rest = 125 ∷ x; spaces = h.spaces_after; marked = inr refl; whole = refl } in
    let inside = h.before ++ (h.inner ++ (h.more ++ close)) in
    let whole : text ++ x ≡ 36 ∷ (123 ∷ (123 ∷ inside)) =
    ap (λ t. t ++ x) h.whole ∙ ap (λ t. 36 ∷ (123 ∷ (123 ∷ t))) (braced-assoc h.before h.inner h.more h.after x) in
    ap (run (InText ps w)) whole
    ∙ (opening-read ps w inside
    ∙ (spaces-read (OperandDue qs []) h.before (h.inner ++ (h.more ++ close)) refl h.spaces_before
    ∙ (operand-read qs [] h.inner (h.more ++ close) o h.is_operand (more-stop h.more close os h.are_more stop)
    ∙ (more-read qs (o ∷ []) h.more close os h.are_more stop
    ∙ (spaces-read (AfterOperand qs (o ∷ os)) h.after (125 ∷ (125 ∷ x)) refl h.spaces_after
    ∙ (run-some (AfterOperand qs (o ∷ os)) (AfterClose qs (o ∷ os)) 125 (125 ∷ x) refl
    ∙ run-some (AfterClose qs (o ∷ os)) (InText (qs ++ Braced (o ∷ os) ∷ []) []) 125 x refl))))))

-- the end of the text, or the `$` of a piece
abbrev pub MayEndText : List ℕ → Type 0
MayEndText [] = Unit {0}
MayEndText (c ∷ cs) = c ≡ 36

-- the text does not start with `{`
abbrev NotBrace : List ℕ → Type 0
NotBrace [] = Unit {0}
NotBrace (c ∷ cs) = eqb c 123 ≡ false

dollar-fails : (ps : List Piece) (w x : List ℕ) → NotBrace x → run (AfterDollar ps w) x ≡ run (InText ps (w ++ codes "$")) x
unfolding run
dollar-fails ps w [] h = refl
dollar-fails ps w (c ∷ x) h = run-alike (AfterDollar ps w) (InText ps (w ++ codes "$")) c x (cond-false (eqb c 123) _ _ h)

brace-fails : (ps : List Piece) (w x : List ℕ) → NotBrace x → run (AfterBrace ps w) x ≡ run (InText ps (w ++ codes "${")) x
unfolding run
brace-fails ps w [] h = refl
brace-fails ps w (c ∷ x) h = run-alike (AfterBrace ps w) (InText ps (w ++ codes "${")) c x (cond-false (eqb c 123) _ _ h)

not_brace-append : (cs x : List ℕ) → NotBrace cs → MayEndText x → NotBrace (cs ++ x)
not_brace-append [] [] h e = tt
not_brace-append [] (c ∷ x) h e = ap (λ d. eqb d 123) e
not_brace-append (c ∷ cs) x h e = h

no_opening-tail : (c : ℕ) (cs : List ℕ) → HoldsNoOpening (c ∷ cs) → HoldsNoOpening cs
no_opening-tail c cs h before after e = h (c ∷ before) after (ap (λ t. c ∷ t) e)

-- plain text is appended to the current word
abbrev pub ReadsPlain : List ℕ → List ℕ → Type 0
ReadsPlain cs x = (ps : List Piece) (w : List ℕ) → run (InText ps w) (cs ++ x) ≡ run (InText ps (w ++ encode_utf8_all cs)) x

dollar-word : (w cs : List ℕ) (c : ℕ) → c ≡ 36 → (w ++ codes "$") ++ encode_utf8_all cs ≡ w ++ encode_utf8_all (c ∷ cs)
dollar-word w cs c e =
    append_assoc w (codes "$") (encode_utf8_all cs)
    ∙ ap (λ v. w ++ (v ++ encode_utf8_all cs)) (sym (ap encode_utf8 e ∙ encode_ascii 36 (lit< tt)))

brace-word : (w cs : List ℕ) (c d : ℕ) → c ≡ 36 → d ≡ 123 → (w ++ codes "${") ++ encode_utf8_all cs ≡ w ++ encode_utf8_all (c ∷ d ∷ cs)
brace-word w cs c d e f =
    append_assoc w (codes "${") (encode_utf8_all cs)
    ∙ ap (λ v. w ++ v)
    (ap (λ v. 36 ∷ (v ++ encode_utf8_all cs)) (sym (ap encode_utf8 f ∙ encode_ascii 123 (lit< tt)))
    ∙ ap (λ v. v ++ (encode_utf8 d ++ encode_utf8_all cs)) (sym (ap encode_utf8 e ∙ encode_ascii 36 (lit< tt))))

plain-other : (c : ℕ) (cs x : List ℕ) → eqb c 36 ≡ false → ReadsPlain cs x → ReadsPlain (c ∷ cs) x
plain-other c cs x n rest ps w =
    run-some (InText ps w) (InText ps (w ++ encode_utf8 c)) c (cs ++ x) (ap Some (cond-false (eqb c 36) _ _ n))
    ∙ (rest ps (w ++ encode_utf8 c) ∙ ap (λ v. run (InText ps v) x) (append_assoc w (encode_utf8 c) (encode_utf8_all cs)))

plain-dollar : (c : ℕ) (cs x : List ℕ) → c ≡ 36 → NotBrace cs → MayEndText x → ReadsPlain cs x → ReadsPlain (c ∷ cs) x
plain-dollar c cs x e n end rest ps w =
    run-some (InText ps w) (AfterDollar ps w) c (cs ++ x) (ap Some (cond-true (eqb c 36) _ _ (eq-eqb c 36 e)))
    ∙ (dollar-fails ps w (cs ++ x) (not_brace-append cs x n end)
    ∙ (rest ps (w ++ codes "$") ∙ ap (λ v. run (InText ps v) x) (dollar-word w cs c e)))

plain-brace : (c d : ℕ) (cs x : List ℕ) → c ≡ 36 → d ≡ 123 → NotBrace cs → MayEndText x → ReadsPlain cs x → ReadsPlain (c ∷ d ∷ cs) x
plain-brace c d cs x e f n end rest ps w =
    run-some (InText ps w) (AfterDollar ps w) c (d ∷ (cs ++ x)) (ap Some (cond-true (eqb c 36) _ _ (eq-eqb c 36 e)))
    ∙ (run-some (AfterDollar ps w) (AfterBrace ps w) d (cs ++ x) (cond-true (eqb d 123) _ _ (eq-eqb d 123 f))
    ∙ (brace-fails ps w (cs ++ x) (not_brace-append cs x n end)
    ∙ (rest ps (w ++ codes "${") ∙ ap (λ v. run (InText ps v) x) (brace-word w cs c d e f))))

not_brace-here : (c d b : ℕ) (cs : List ℕ) (t : Bool) → eqb b 123 ≡ t → c ≡ 36 → d ≡ 123 → HoldsNoOpening (c ∷ d ∷ b ∷ cs) → t ≡ false
not_brace-here c d b cs false t e f h = refl
not_brace-here c d b cs true t e f h = let g : b ≡ 123 = eqb-true b 123 t in absurd (h [] cs cc)

not_brace-from : (c d : ℕ) (cs : List ℕ) → c ≡ 36 → d ≡ 123 → HoldsNoOpening (c ∷ d ∷ cs) → NotBrace cs
not_brace-from c d [] e f h = tt
not_brace-from c d (b ∷ cs) e f h = not_brace-here c d b cs (eqb b 123) refl e f h

plain-one : (c : ℕ) (x : List ℕ) (b : Bool) → eqb c 36 ≡ b → MayEndText x → ReadsPlain [] x → ReadsPlain (c ∷ []) x
plain-one c x true e end rest = plain-dollar c [] x (eqb-true c 36 e) tt end rest
plain-one c x false e end rest = plain-other c [] x e rest

plain-two : (c d : ℕ) (cs x : List ℕ) (b t : Bool) → eqb c 36 ≡ b → eqb d 123 ≡ t → HoldsNoOpening (c ∷ d ∷ cs) → MayEndText x
    → ReadsPlain (d ∷ cs) x → ReadsPlain cs x → ReadsPlain (c ∷ d ∷ cs) x
plain-two c d cs x false t e f h end more rest = plain-other c (d ∷ cs) x e more
plain-two c d cs x true false e f h end more rest = plain-dollar c (d ∷ cs) x (eqb-true c 36 e) f end more
plain-two c d cs x true true e f h end more rest =
    let dollar = eqb-true c 36 e in
    let brace = eqb-true d 123 f in
    plain-brace c d cs x dollar brace (not_brace-from c d cs dollar brace h) end rest

plain-none : (x : List ℕ) → ReadsPlain [] x
plain-none x ps w = ap (λ v. run (InText ps v) x) (sym (append-nil w))

pub plain-read : (cs x : List ℕ) → HoldsNoOpening cs → MayEndText x → ReadsPlain cs x
plain-read [] x h end = plain-none x
plain-read (c ∷ []) x h end = plain-one c x (eqb c 36) refl end (plain-none x)
plain-read (c ∷ d ∷ cs) x h end =
    let more = no_opening-tail c (d ∷ cs) h in
    plain-two c d cs x (eqb c 36) (eqb d 123) refl refl h end (plain-read (d ∷ cs) x more end)
    (plain-read cs x (no_opening-tail d cs more) end)

encode-some : (c : ℕ) → encode_utf8 c ≢ []
encode-some c e = absurd (omega (arith, ap length e, length-encode c, (len_utf8_bounds c).0))

plain_piece-append : (v u : List ℕ) → v ≢ [] → plain_piece (v ++ u) ≡ Plain (v ++ u) ∷ []
plain_piece-append [] u h = absurd (h refl)
plain_piece-append (b ∷ v) u h = refl

pub plain_piece-some : (cs : List ℕ) → cs ≢ [] → plain_piece (encode_utf8_all cs) ≡ Plain (encode_utf8_all cs) ∷ []
plain_piece-some [] h = absurd (h refl)
plain_piece-some (c ∷ cs) h = plain_piece-append (encode_utf8 c) (encode_utf8_all cs) (encode-some c)

-- a text whose template is empty or begins with a braced piece is empty or begins with `$`
braced-begins : (text : List ℕ) (T : List Piece) → BeginsBraced T → EncodesPieces text T → MayEndText text
braced-begins text [] b h = rw h tt
braced-begins text (Plain v ∷ T) b h = absurd b
braced-begins text (Braced [] ∷ T) b h = absurd h.3
braced-begins text (Braced (o ∷ os) ∷ T) b h = rw (h.2, h.3.whole) refl

run-end : (ps : List Piece) (w : List ℕ) → run (InText ps w) [] ≡ Some (ps ++ plain_piece w)
unfolding run
run-end ps w = refl

plain-word : (first v : List ℕ) → EncodesPlain first v → plain_piece (encode_utf8_all first) ≡ Plain v ∷ []
plain-word first v h = plain_piece-some first h.some ∙ ap (λ u. Plain u ∷ []) (sym h.valued)

pub pieces-read : (ps : List Piece) (text : List ℕ) (T : List Piece) → EncodesPieces text T → run (InText ps []) text ≡ Some (ps ++ T)
pieces-read ps text [] h = ap (run (InText ps [])) h ∙ run-end ps []
pieces-read ps text (Braced [] ∷ T) h = absurd h.3
pieces-read ps text (Braced (o ∷ os) ∷ T) h =
    let b = Braced (o ∷ os) in
    ap (run (InText ps [])) h.2
    ∙ (braced-read ps [] h.0 h.1 o os h.3
    ∙ (pieces-read ((ps ++ []) ++ b ∷ []) h.1 T h.5
    ∙ ap Some (append_assoc (ps ++ []) (b ∷ []) T ∙ ap (λ v. v ++ b ∷ T) (append-nil ps))))
pieces-read ps text (Plain v ∷ []) h =
    ap (run (InText ps [])) (h.2 ∙ ap (λ t. h.0 ++ t) h.5)
    ∙ (plain-read h.0 [] h.3.no_opening tt ps []
    ∙ (run-end ps (encode_utf8_all h.0)
    ∙ ap (λ p. Some (ps ++ p)) (plain-word h.0 v h.3)))
pieces-read ps text (Plain v ∷ Plain u ∷ T) h = absurd h.4
pieces-read ps text (Plain v ∷ Braced [] ∷ T) h = absurd h.5.3
pieces-read ps text (Plain v ∷ Braced (o ∷ os) ∷ T) h =
    let b = Braced (o ∷ os) in
    let w = encode_utf8_all h.0 in
    let rest = h.5 in
    ap (run (InText ps [])) h.2
    ∙ (plain-read h.0 h.1 h.3.no_opening (braced-begins h.1 (b ∷ T) tt rest) ps []
    ∙ (ap (run (InText ps w)) rest.2
    ∙ (braced-read ps w rest.0 rest.1 o os rest.3
    ∙ (pieces-read ((ps ++ plain_piece w) ++ b ∷ []) rest.1 T rest.5
    ∙ ap Some (append_assoc (ps ++ plain_piece w) (b ∷ []) T
    ∙ (append_assoc ps (plain_piece w) (b ∷ T) ∙ ap (λ p. ps ++ (p ++ b ∷ T)) (plain-word h.0 v h.3)))))))
