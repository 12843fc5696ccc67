-- The tokens of a combination's text, pair by pair.
use Rattle.std.specs.Prelude.{◌≡◌, ℕ, List, [], ◌∷◌, ◌++◌, refl}
use Rattle.std.specs.List.{flat_map}
use Rattle.std.proofs.Common.{sym, ap, ap₂, ◌∙◌, append_assoc}
use Rattle.json.specs.Token.{Token, begin_object, end_object, key}
use Rattle.json.specs.Print.{print}
use Rattle.json.specs.Tree.{json_tokens, members_tokens}
use Rattle.serde_json.specs.Data.{object}
use Rattle.serde_json.specs.Written.{outline, members_outline}
use Rattle.serde_json.proofs.Texts.{print-outline}
use Rattle.wf_value.specs.declared.scalar.Scalar.{Scalar}
use Rattle.run_plan.specs.ReplyText.{scalar_json, pairs_json, combo_text}

abbrev pub Pair : Type 0
Pair = List ℕ × Scalar

abbrev pub pair_tokens : Pair → List Token
pair_tokens p = key p.0 ∷ json_tokens (outline (scalar_json p.1))

-- the opening bracket and the pairs
abbrev pub opened : List Pair → List Token
opened ps = begin_object ∷ flat_map pair_tokens ps

members_of_pairs : (ps : List Pair) → members_tokens (members_outline (pairs_json ps)) ≡ flat_map pair_tokens ps ++ end_object ∷ []
members_of_pairs [] = refl
members_of_pairs (p ∷ ps) =
    let value = json_tokens (outline (scalar_json p.1)) in
    let joined = append_assoc value (flat_map pair_tokens ps) (end_object ∷ []) in
    ap (λ ts. key p.0 ∷ (value ++ ts)) (members_of_pairs ps) ∙ sym (ap (λ ts. key p.0 ∷ ts) joined)

text_of_opened : (ps : List Pair) → print (opened ps ++ end_object ∷ []) ≡ combo_text ps
text_of_opened ps = ap (λ ts. print (begin_object ∷ ts)) (sym (members_of_pairs ps)) ∙ print-outline (object (pairs_json ps))

-- what is written from the start is the combination's text
pub text_of_written : (ps : List Pair) (before text : List ℕ) (tokens : List Token) → before ≡ [] → tokens ≡ opened ps ++ end_object ∷ []
    → text ≡ before ++ print tokens → text ≡ combo_text ps
text_of_written ps before text tokens none written printed = printed ∙ ap₂ (λ b ts. b ++ print ts) none written ∙ text_of_opened ps
