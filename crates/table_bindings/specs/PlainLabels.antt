-- Labels that are plain text.
use Rattle.std.specs.Prelude.{◌≡◌, ℕ, List}
use Rattle.wf_expr.specs.TemplateValue.{Values}
use Rattle.wf_expr.specs.declared.piece.Piece.{Piece}
use Rattle.table_model.specs.LegContext.{label_texts}

-- the labels have these texts in every context
abbrev pub AreTheTexts : List (List Piece) → List (List ℕ) → Type 0
AreTheTexts labels texts = (values : Values) → label_texts values labels ≡ texts
