-- The characters of a folded text, and when two groups are equal.
use Rattle.std.proofs.Common.{◌≡◌, ℕ, List, [], ◌∷◌, Some, chars, encode_utf8_all, IsUtf8, refl, sym, ap, ap₂, subst, ◌∙◌}
use Rattle.std.specs.Prelude.{◌≢◌, String, string_bytes}
use Rattle.std.proofs.lemmas.Str.{IsUtf8-string_bytes, chars_from_encodes, encodes-chars}
use Rattle.group_name.specs.Group.{Group, folded_name, group_of}
use Rattle.group_name.specs.KeyTexts.{name_bytes}

-- the bytes of a `String` are UTF-8
pub text_of_string : {Z : Type 0} (folding : String Z) (text : List ℕ) → text ≡ string_bytes folding → IsUtf8 text
text_of_string folding text same = subst IsUtf8 (sym same) (IsUtf8-string_bytes folding)

-- the encoding of a folding decodes to it
pub spelled : {Z : Type 0} (folding : String Z) (name text : List ℕ) → text ≡ string_bytes folding
    → string_bytes folding ≡ encode_utf8_all (folded_name name) → folded_name name ≡ chars text
spelled folding name text same encodes =
    chars_from_encodes (folded_name name) text (text_of_string folding text same) (sym encodes ∙ sym same)

-- the group of a non-empty name
pub group_of_name : (repository name : List ℕ) → name ≢ []
    → group_of repository name ≡ Some (record { repository = repository; folded = folded_name name })
group_of_name repository [] filled = absurd (filled refl)
group_of_name repository (b ∷ bs) filled = refl

-- its stored form: the repository and the text of the case-folded name
pub kept_group : (repository name kept text : List ℕ) → name ≢ [] → repository ≡ kept → folded_name name ≡ chars text
    → group_of repository name ≡ Some (record { repository = kept; folded = chars text })
kept_group repository name kept text filled same folds = group_of_name repository name filled
    ∙ ap₂ (λ r f. Some (record { repository = r; folded = f })) same folds

-- texts with the same characters have the same bytes
pub same_bytes : (one other : List ℕ) → IsUtf8 one → IsUtf8 other → chars one ≡ chars other → one ≡ other
same_bytes one other utf8 other_utf8 same = sym (encodes-chars one utf8) ∙ ap encode_utf8_all same ∙ encodes-chars other other_utf8

-- two groups are the same if and only if they are stored as the same repository and the same text
pub same_groups : {one other : Group} {repository text other_repository other_text : List ℕ}
    → record { repository = repository; folded = chars text } ≡ one
    → record { repository = other_repository; folded = chars other_text } ≡ other
    → IsUtf8 text → IsUtf8 other_text
    → (repository ≡ other_repository → text ≡ other_text → one ≡ other)
    × (one ≡ other → (repository ≡ other_repository) × (text ≡ other_text))
same_groups {one} {other} {repository} {text} {other_repository} {other_text} is other_is utf8 other_utf8 = (
  (λ same texts. sym is ∙ ap₂ (λ r t. record { repository = r; folded = chars t }) same texts ∙ other_is),
  λ same. (
    ap (λ (g : Group). g.repository) (is ∙ same ∙ sym other_is),
    same_bytes text other_text utf8 other_utf8 (ap (λ (g : Group). g.folded) (is ∙ same ∙ sym other_is)),
  ),
)

-- the text that is stored for a group's name
pub kept_name : {g : Group} {repository text : List ℕ} → record { repository = repository; folded = chars text } ≡ g → IsUtf8 text
    → text ≡ name_bytes g
kept_name {g} {repository} {text} is utf8 = sym (encodes-chars text utf8) ∙ ap (λ (h : Group). name_bytes h) is

-- the characters of that text
pub spelled_name : {g : Group} {repository text : List ℕ} → record { repository = repository; folded = chars text } ≡ g → IsUtf8 text
    → chars (name_bytes g) ≡ g.folded
spelled_name {g} {repository} {text} is utf8 = ap chars (sym (kept_name is utf8)) ∙ ap (λ (h : Group). h.folded) is
