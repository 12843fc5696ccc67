-- The text of a label that is one plain text is the same in every context.
use Rattle.std.specs.Prelude.{◌≡◌, ℕ, ◌+◌, ◌<◌, ◌≤◌, List, [], ◌∷◌, ◌++◌, length}
use Rattle.std.proofs.Common.{ap, get_or, sym, take, ◌∙◌}
use Rattle.std.proofs.lemmas.Grind.{take_at_read}
use Rattle.std.proofs.lemmas.List.{map-append, take_all}
use Rattle.wf_expr.specs.TemplateValue.{Values, template_value}
use Rattle.wf_expr.specs.declared.piece.Piece.{Piece}
use Rattle.wf_value.specs.ScalarValue.{scalar_text}
use Rattle.table_model.specs.LegContext.{label_texts}
use Rattle.table_bindings.specs.PlainLabels.{AreTheTexts}

-- the labels so far, and one more
pub one_more_text : (labels : List (List Piece)) (i : ℕ) (label : List Piece) (texts now : List (List ℕ)) (text : List ℕ)
    → i < length labels → label ≡ get_or labels i label → now ≡ texts ++ text ∷ [] → AreTheTexts (take i labels) texts
    → ((values : Values) → scalar_text (template_value values label) ≡ text) → AreTheTexts (take (i + 1) labels) now
one_more_text labels i label texts now text within at is so_far says values =
    let more : take (i + 1) labels ≡ take i labels ++ label ∷ [] =
    (take_at_read labels i label within).1 ∙ ap (λ l. take i labels ++ l ∷ []) (sym at) in
    ap (label_texts values) more
    ∙ map-append (λ l. scalar_text (template_value values l)) (take i labels) (label ∷ [])
    ∙ ap (λ ts. ts ++ scalar_text (template_value values label) ∷ []) (so_far values)
    ∙ ap (λ t. texts ++ t ∷ []) (says values)
    ∙ sym is

pub all_texts : (labels : List (List Piece)) (i : ℕ) (texts : List (List ℕ)) → length labels ≤ i → AreTheTexts (take i labels) texts
    → AreTheTexts labels texts
all_texts labels i texts ended so_far values = ap (label_texts values) (sym (take_all i labels ended)) ∙ so_far values
