-- Comparing texts with or without case, one prefix after another.
use Rattle.std.proofs.Common.{◌≡◌, ◌↔◌, ℕ, List, [], ◌∷◌, ◌++◌, length, refl, ap, sym, ◌∙◌}
use Rattle.std.proofs.Common.{append-nil}
use Rattle.std.specs.Prelude.{Some, None}
use Rattle.std.specs.Char.{to_ascii_lowercase}
use Rattle.std.specs.List.{flat_map}
use Rattle.std.proofs.lemmas.List.{map-append, length-map}
use Rattle.wf_value.specs.ScalarValue.{scalar_text}
use Rattle.wf_value.proofs.Bytes.{same_parts}
use Rattle.wf_expr.specs.Comparison.{folded, IsRestAfter}
use Rattle.wf_expr.specs.TemplateValue.{Values, piece_text, template_value}
use Rattle.wf_expr.specs.declared.case.Case.{Case}
use Rattle.wf_expr.specs.declared.case.Case.TheVariants.{Sensitive, Insensitive}
use Rattle.wf_expr.specs.declared.piece.Piece.{Piece}
use Rattle.wf_expr.specs.declared.piece.Piece.TheVariants.{Plain, Braced}

folded-append : (case : Case) (xs ys : List ℕ) → folded case (xs ++ ys) ≡ folded case xs ++ folded case ys
folded-append Sensitive xs ys = refl
folded-append Insensitive xs ys = map-append to_ascii_lowercase xs ys

length-folded : (case : Case) (xs : List ℕ) → length (folded case xs) ≡ length xs
length-folded Sensitive xs = refl
length-folded Insensitive xs = length-map xs to_ascii_lowercase

prefixes : (case : Case) (prefix head more rest text : List ℕ) → text ≡ head ++ rest → length head ≡ length prefix
    → folded case (prefix ++ more) ≡ folded case text → (folded case prefix ≡ folded case head) × (folded case more ≡ folded case rest)
prefixes case prefix head more rest text is h e =
    same_parts (folded case prefix) (folded case head) (folded case more) (folded case rest)
    (length-folded case prefix ∙ (sym h ∙ sym (length-folded case head)))
    (sym (folded-append case prefix more) ∙ (e ∙ (ap (folded case) is ∙ folded-append case head rest)))

pub other-prefix : (case : Case) (prefix text head rest : List ℕ) → text ≡ head ++ rest → length head ≡ length prefix
    → (folded case head ≡ folded case prefix → ⊥) → IsRestAfter case prefix text None
other-prefix case prefix text head rest is h n more =
    (λ e. n (sym (prefixes case prefix head more rest text is h e).0), λ a. absurd a)

pub same-prefix : (case : Case) (prefix text head rest : List ℕ) → text ≡ head ++ rest → length head ≡ length prefix
    → folded case head ≡ folded case prefix → IsRestAfter case prefix text (Some rest)
same-prefix case prefix text head rest is h s more = (
  λ e. (prefixes case prefix head more rest text is h e).1,
  λ e. folded-append case prefix more
      ∙ (ap (λ f. f ++ folded case more) (sym s)
      ∙ (ap (λ r. folded case head ++ r) e ∙ (sym (folded-append case head rest) ∙ ap (folded case) (sym is)))),
)

-- W holds if and only if the texts of the pieces make up the text
abbrev pub IsLeft : {X : Type 0} → Case → (X → List ℕ) → List X → List ℕ → Type 0 → Type 0
IsLeft case text_of pieces text W = (folded case (flat_map text_of pieces) ≡ folded case text) ↔ W

-- the text of the value is that of the pieces, also for a single piece
pub value-text : (values : Values) (pieces : List Piece) → scalar_text (template_value values pieces) ≡ flat_map (piece_text values) pieces
value-text values [] = refl
value-text values (Plain text ∷ ps) = refl
value-text values (Braced operands ∷ []) = sym (append-nil _)
value-text values (Braced operands ∷ p ∷ ps) = refl
