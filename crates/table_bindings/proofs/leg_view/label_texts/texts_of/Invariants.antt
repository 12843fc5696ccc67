use Rattle.std.proofs.Common.{◌≡◌, take}
use Rattle.table_model.specs.LegContext.{context_of, label_texts}
use Rattle.table_bindings.proofs.leg_view.label_texts.texts_of.Given as goal

-- the texts of the labels so far
abbrev pub invariant-loop-label : goal.invariant-loop-label
invariant-loop-label l = l.texts.items ≡ label_texts (context_of l.context) (take l.label-index l.labels)
