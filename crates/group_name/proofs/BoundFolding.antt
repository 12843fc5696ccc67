-- A case-folded bound name gives the group of its text for any results.
use Rattle.std.proofs.Common.{◌≡◌, ℕ, ◌<◌, ◌≤◌, List, [], ◌∷◌, ◌++◌, length, None, Some, arith, codes, encode_utf8_all, IsUtf8}
use Rattle.std.proofs.Common.{refl, sym, ap, ap₂, subst, ◌∙◌}
use Rattle.std.specs.Prelude.{◌≢◌, ◌↔◌, IsSome, Option, map}
use Rattle.std.proofs.lemmas.Str.{IsUtf8-append, IsUtf8-nil, chars-nil, chars-append, chars_from_encodes, encodes-append, encodes-chars}
use Rattle.std.specs.Option.{option_map_or}
use Rattle.std.specs.Str.{chars}
use lib.Utf8.{encode}
use Rattle.wf_value.specs.ScalarValue.{result_word}
use Rattle.wf_value.specs.declared.outcome.JobResult.{JobResult}
use Rattle.wf_value.specs.declared.outcome.JobResult.TheVariants as result
use Rattle.wf_expr.specs.Bound.{Results, first_result, bound_piece_text, bound_text}
use Rattle.wf_expr.specs.declared.bound.BoundPiece.{BoundPiece}
use Rattle.caseless.specs.Caseless.{default_case_fold}
use Rattle.caseless.proofs.CaselessLemmas.{default_case_fold-append, default_case_fold-cons, default_case_fold-nil}
use Rattle.caseless.proofs.CaselessLemmas.{full_fold-none, full_fold-some}
use Rattle.caseless.proofs.Computing.{caseless}
use Rattle.group_name.specs.BoundGroup.{AreTexts, BoundName, folded_piece, folded_text, group_at, group_of_folded}
use Rattle.group_name.specs.Group.{Group, folded_name, group_of}
use Rattle.group_name.proofs.Folding.{same_bytes}

-- ---- folding concatenated texts

folded-nil : folded_text [] ≡ []
folded-nil = ap (λ cs. encode_utf8_all (default_case_fold cs)) chars-nil ∙ ap encode_utf8_all default_case_fold-nil

folded-append : (xs ys : List ℕ) → IsUtf8 xs → folded_text (xs ++ ys) ≡ folded_text xs ++ folded_text ys
folded-append xs ys utf8 =
    ap (λ cs. encode_utf8_all (default_case_fold cs)) (chars-append xs ys utf8)
    ∙ (ap encode_utf8_all (default_case_fold-append (chars xs) (chars ys))
    ∙ encodes-append (default_case_fold (chars xs)) (default_case_fold (chars ys)))

-- the words of results are case-folded
folded-word : (r : JobResult) → folded_text (result_word r) ≡ result_word r
unfolding caseless chars encode
folded-word result.Success = refl
folded-word result.Failure = refl
folded-word result.Cancelled = refl
folded-word result.Skipped = refl

word-utf8 : (r : JobResult) → IsUtf8 (result_word r)
unfolding encode
word-utf8 result.Success = (codes "success", (refl, refl))
word-utf8 result.Failure = (codes "failure", (refl, refl))
word-utf8 result.Cancelled = (codes "cancelled", (refl, refl))
word-utf8 result.Skipped = (codes "skipped", (refl, refl))

-- no character folds to the empty list: it folds to its table entry, or to itself if that is empty
first-of-fold : {full : List ℕ} (c : ℕ) (table more : List ℕ) → (length table < 1 → full ≡ c ∷ []) → (1 ≤ length table → full ≡ table)
    → full ++ more ≢ []
first-of-fold c [] more none some = λ e. let no : c ∷ more ≡ [] = ap (λ f. f ++ more) (sym (none (omega arith))) ∙ e in cc
first-of-fold c (t ∷ ts) more none some = λ e. let no : t ∷ (ts ++ more) ≡ [] = ap (λ f. f ++ more) (sym (some (omega arith))) ∙ e in cc

fold-some : (cs : List ℕ) → cs ≢ [] → default_case_fold cs ≢ []
fold-some [] some = absurd (some refl)
fold-some (c ∷ cs) some = λ e.
    first-of-fold c _ (default_case_fold cs) (full_fold-none c _ refl) (full_fold-some c _ refl) (sym (default_case_fold-cons c cs) ∙ e)

chars-some : (b : ℕ) (bs : List ℕ) → IsUtf8 (b ∷ bs) → chars (b ∷ bs) ≢ []
chars-some b bs utf8 = λ e. let same : [] ≡ b ∷ bs = ap encode_utf8_all (sym e) ∙ encodes-chars (b ∷ bs) utf8 in cc

-- ---- pieces

chosen-utf8 : (o : Option JobResult) (text : List ℕ) → IsUtf8 text → IsUtf8 (option_map_or result_word o text)
chosen-utf8 None text utf8 = utf8
chosen-utf8 (Some r) text utf8 = word-utf8 r

chosen-folded : (o : Option JobResult) (text : List ℕ)
    → option_map_or result_word o (folded_text text) ≡ folded_text (option_map_or result_word o text)
chosen-folded None text = refl
chosen-folded (Some r) text = sym (folded-word r)

-- the text of pieces with UTF-8 texts is UTF-8
pub text-utf8 : (results : Results) (pieces : List BoundPiece) → AreTexts pieces → IsUtf8 (bound_text results pieces)
text-utf8 results [] texts = IsUtf8-nil
text-utf8 results (p ∷ ps) (text, texts) =
    IsUtf8-append _ _ (chosen-utf8 (first_result results p.needs) p.otherwise text) (text-utf8 results ps texts)

text-folded : (results : Results) (pieces : List BoundPiece) → AreTexts pieces
    → bound_text results (map folded_piece pieces) ≡ folded_text (bound_text results pieces)
text-folded results [] texts = sym folded-nil
text-folded results (p ∷ ps) (text, texts) =
    ap₂ (λ x y. x ++ y) (chosen-folded (first_result results p.needs) p.otherwise) (text-folded results ps texts)
    ∙ sym (folded-append (bound_piece_text results p) (bound_text results ps) (chosen-utf8 (first_result results p.needs) p.otherwise text))

-- ---- groups

-- the characters of a case-folded text
spelled-fold : (text : List ℕ) → IsUtf8 (folded_text text) → folded_name text ≡ chars (folded_text text)
spelled-fold text utf8 = chars_from_encodes (folded_name text) (folded_text text) utf8 refl

group-of-some : (repository text : List ℕ) → text ≢ []
    → group_of_folded repository text ≡ Some (record { repository = repository; folded = chars text })
group-of-some repository [] some = absurd (some refl)
group-of-some repository (b ∷ bs) some = refl

folded-some : (b : ℕ) (bs : List ℕ) → IsUtf8 (b ∷ bs) → IsUtf8 (folded_text (b ∷ bs)) → folded_text (b ∷ bs) ≢ []
folded-some b bs utf8 folded =
    λ e. fold-some (chars (b ∷ bs)) (chars-some b bs utf8) (spelled-fold (b ∷ bs) folded ∙ (ap chars e ∙ chars-nil))

-- folding a text keeps its group
folded-group : (repository text : List ℕ) → IsUtf8 text → IsUtf8 (folded_text text)
    → group_of_folded repository (folded_text text) ≡ group_of repository text
folded-group repository [] utf8 folded = ap (group_of_folded repository) folded-nil
folded-group repository (b ∷ bs) utf8 folded =
    group-of-some repository (folded_text (b ∷ bs)) (folded-some b bs utf8 folded)
    ∙ ap (λ cs. Some (record { repository = repository; folded = cs })) (sym (spelled-fold (b ∷ bs) folded))

-- the stored form of a name gives the group of its text, for any results
pub group-when-bound : (repository kept : List ℕ) (pieces kept_pieces : List BoundPiece) → repository ≡ kept
    → map folded_piece pieces ≡ kept_pieces → AreTexts pieces → AreTexts kept_pieces → (results : Results)
    → group_of_folded kept (bound_text results kept_pieces) ≡ group_of repository (bound_text results pieces)
group-when-bound repository kept pieces kept_pieces same are texts kept_texts results =
    let folded = sym (ap (bound_text results) are) ∙ text-folded results pieces texts in
    ap₂ group_of_folded (sym same) folded
    ∙ folded-group repository (bound_text results pieces) (text-utf8 results pieces texts)
    (subst IsUtf8 folded (text-utf8 results kept_pieces kept_texts))

-- equal groups have equal texts
texts-of-group : (repository other_repository text other : List ℕ) → IsUtf8 text → IsUtf8 other → IsSome (group_of_folded repository text)
    → group_of_folded repository text ≡ group_of_folded other_repository other → text ≡ other
texts-of-group repository other_repository [] other utf8 other_utf8 some same = cc
texts-of-group repository other_repository (b ∷ bs) [] utf8 other_utf8 some same = cc
texts-of-group repository other_repository (b ∷ bs) (c ∷ cs) utf8 other_utf8 some same =
    same_bytes (b ∷ bs) (c ∷ cs) utf8 other_utf8 (ap (λ g. option_map_or (λ (h : Group). h.folded) g []) same)

-- in the same repository, two names stand for the same group if and only if they have the same text
pub same-at : {name other : BoundName} {repository other_repository : List ℕ} {pieces other_pieces : List BoundPiece}
    (results other_results : Results)
    → record { repository = repository; pieces = pieces } ≡ name → record { repository = other_repository; pieces = other_pieces } ≡ other
    → AreTexts pieces → AreTexts other_pieces → repository ≡ other_repository → IsSome (group_at results name)
    → (bound_text results pieces ≡ bound_text other_results other_pieces)
    ↔ (IsSome (group_at results name) × (group_at results name ≡ group_at other_results other))
same-at {name} {other} {repository} {other_repository} {pieces} {other_pieces} results other_results is other_is texts other_texts same
    some =
    let here = ap (group_at results) is in
    let there = ap (group_at other_results) other_is in (
      (λ e. (some, sym here ∙ (ap₂ group_of_folded same e ∙ there))),
      λ both. texts-of-group repository other_repository (bound_text results pieces) (bound_text other_results other_pieces)
          (text-utf8 results pieces texts) (text-utf8 other_results other_pieces other_texts) (subst IsSome (sym here) both.0)
          (here ∙ (both.1 ∙ sym there)),
    )

-- ---- the steps of folding

-- the encoding of a text's case-folded characters is that text
folded-kept : (name text : List ℕ) → folded_name name ≡ chars text → IsUtf8 text → folded_text name ≡ text
folded-kept name text spells utf8 = ap encode_utf8_all spells ∙ encodes-chars text utf8

pub piece-kept : (piece : BoundPiece) (needs text : List ℕ) → piece.needs ≡ needs → folded_name piece.otherwise ≡ chars text → IsUtf8 text
    → folded_piece piece ≡ record { needs = needs; otherwise = text }
piece-kept piece needs text same spells utf8 =
    ap₂ (λ n t. record { needs = n; otherwise = t }) same (folded-kept piece.otherwise text spells utf8)
