-- The text before the first `${{` is parsed as a whole.
use Rattle.std.proofs.Common.{◌≡◌, ℕ, ◌+◌, ◌≤◌, ◌<◌, List, [], ◌∷◌, ◌++◌, length, take, drop, get_or, refl, ap, sym, ◌∙◌, subst, arith}
use Rattle.std.proofs.Common.{append_assoc, append-nil, lit<, length-append, take_at, Bor}
use Rattle.std.specs.Prelude.{Option, Some, None, codes}
use Rattle.std.specs.Option.{MatchOption}
use Rattle.std.specs.Str.{IsUtf8, chars, encode_utf8_all}
use Rattle.std.specs.Str.Pattern.{FindsText, LacksTextAt}
use Rattle.std.proofs.lemmas.Str.{chars-append, encode_ascii, encodes-append, encodes-chars, IsUtf8-take, IsCharBoundary-before_ascii}
use Rattle.std.proofs.lemmas.Str.Pattern.{split_text_parts}
use Rattle.std.proofs.Math.Seq.{drop-append_seam, get_or-append_seam}
use Rattle.wf_expr.specs.Grammar.{HoldsNoOpening}
use Rattle.wf_expr.specs.inner.Parsing.{run, plain_piece, pieces_of}
use Rattle.wf_expr.specs.declared.reader.Reader.TheVariants.{InText, OperandDue}
use Rattle.wf_expr.proofs.Complete.{opening-read, plain-read}

-- no `${{` begins before position n
abbrev LacksOpenings : List ℕ → ℕ → Type 0
LacksOpenings text n = (i : ℕ) → i < n → LacksTextAt (codes "${{") text i

encoded-opening : (before after : List ℕ)
    → encode_utf8_all (before ++ (36 ∷ (123 ∷ (123 ∷ after)))) ≡ encode_utf8_all before ++ (36 ∷ (123 ∷ (123 ∷ encode_utf8_all after)))
encoded-opening before after =
    let dollar = encode_ascii 36 (lit< tt) in
    let brace = encode_ascii 123 (lit< tt) in
    encodes-append before (36 ∷ (123 ∷ (123 ∷ after)))
    ∙ ap (λ v. encode_utf8_all before ++ v)
    (ap (λ v. v ++ encode_utf8_all (123 ∷ (123 ∷ after))) dollar
    ∙ (ap (λ v. 36 ∷ (v ++ encode_utf8_all (123 ∷ after))) brace ∙ ap (λ v. 36 ∷ (123 ∷ (v ++ encode_utf8_all after))) brace))

-- a `${{` among the characters is one among the bytes
prefix-no_opening : (text prefix rest : List ℕ) → text ≡ prefix ++ rest → IsUtf8 prefix → LacksOpenings text (length prefix)
    → HoldsNoOpening (chars prefix)
prefix-no_opening text prefix rest split u lacks before after e =
    let b = encode_utf8_all before in
    let a = encode_utf8_all after in
    let whole : prefix ≡ b ++ (36 ∷ (123 ∷ (123 ∷ a))) =
    sym (encodes-chars prefix u) ∙ (ap encode_utf8_all e ∙ encoded-opening before after) in
    let inside : length b < length prefix = omega (arith, ap length whole, length-append b (36 ∷ (123 ∷ (123 ∷ a)))) in
    lacks (length b) inside (a ++ rest)
    (ap (drop (length b)) (split ∙ (ap (λ t. t ++ rest) whole ∙ append_assoc b (36 ∷ (123 ∷ (123 ∷ a))) rest))
    ∙ drop-append_seam b (36 ∷ (123 ∷ (123 ∷ (a ++ rest)))))

-- a text without `${{`
plain-text : (text : List ℕ) → IsUtf8 text → HoldsNoOpening (chars text) → pieces_of text ≡ Some (plain_piece text)
unfolding run
plain-text text u h =
    ap (run (InText [] [])) (sym (append-nil (chars text)))
    ∙ (plain-read (chars text) [] h tt [] []
    ∙ ap (λ w. Some (plain_piece w)) (encodes-chars text u))

chars-opening : (rest : List ℕ) → chars (36 ∷ (123 ∷ (123 ∷ rest))) ≡ 36 ∷ (123 ∷ (123 ∷ chars rest))
unfolding chars
chars-opening [] = refl
chars-opening (b ∷ bs) = refl

-- text before a `${{`
prefix-text : (prefix rest : List ℕ) → IsUtf8 prefix → HoldsNoOpening (chars prefix)
    → pieces_of (prefix ++ (36 ∷ (123 ∷ (123 ∷ rest)))) ≡ run (OperandDue (plain_piece prefix) []) (chars rest)
prefix-text prefix rest u h =
    ap (run (InText [] [])) (chars-append prefix (36 ∷ (123 ∷ (123 ∷ rest))) u ∙ ap (λ t. chars prefix ++ t) (chars-opening rest))
    ∙ (plain-read (chars prefix) (36 ∷ (123 ∷ (123 ∷ chars rest))) h refl [] []
    ∙ (opening-read [] (encode_utf8_all (chars prefix)) (chars rest)
    ∙ ap (λ w. run (OperandDue (plain_piece w) []) (chars rest)) (encodes-chars prefix u)))

-- a prefix that ends before an ASCII character is UTF-8
prefix-utf8 : (text prefix rest : List ℕ) (c : ℕ) → c < 128 → text ≡ prefix ++ (c ∷ rest) → IsUtf8 text → IsUtf8 prefix
prefix-utf8 text prefix rest c low whole u =
    let at : get_or text (length prefix) 0 ≡ c = ap (λ t. get_or t (length prefix) 0) whole ∙ get_or-append_seam prefix c rest 0 in
    let within : length prefix < length text = omega (arith, ap length whole, length-append prefix (c ∷ rest)) in
    let cut = IsCharBoundary-before_ascii text (length prefix) within (omega (arith, at, low)) in
    subst IsUtf8 (ap (take (length prefix)) whole ∙ take_at prefix (c ∷ rest) (length prefix) refl) (IsUtf8-take text (length prefix) u cut)

-- the pieces of a text, from the result of `split_once` at `${{`
pub split-pieces : (text : List ℕ) (r : Option (Bor (List ℕ) × Bor (List ℕ))) → IsUtf8 text
    → MatchOption r (FindsText (codes "${{") text None) (λ x. (i : ℕ) × (j : ℕ) × FindsText (codes "${{") text (Some (i, j))
    × (x.0.now ≡ take i text) × (x.1.now ≡ drop j text) × (i ≤ j) × (length x.0.now ≡ i) × (length x.1.now + j ≡ length text))
    → MatchOption r (pieces_of text ≡ Some (plain_piece text))
    (λ x. pieces_of text ≡ run (OperandDue (plain_piece x.0.now) []) (chars x.1.now))
split-pieces text None u h =
    plain-text text u (prefix-no_opening text text [] (sym (append-nil text)) u (λ i l. h i (omega (arith, l))))
split-pieces text (Some x) u h =
    let prefix = x.0.now in
    let rest = x.1.now in
    let whole : text ≡ prefix ++ (36 ∷ (123 ∷ (123 ∷ rest))) = split_text_parts (codes "${{") text (Some x) h in
    let v = prefix-utf8 text prefix (123 ∷ (123 ∷ rest)) 36 (lit< tt) whole u in
    let plain = prefix-no_opening text prefix (36 ∷ (123 ∷ (123 ∷ rest))) whole v (λ i l. h.2.0 i (omega (arith, l, h.6))) in
    ap pieces_of whole ∙ prefix-text prefix rest v plain
