use Rattle.std.proofs.Common.{take}
use Rattle.table_bindings.specs.PlainLabels.{AreTheTexts}
use Rattle.table_bindings.proofs.plain_labels.plain_texts.Given as goal

-- the texts of the labels so far
abbrev pub invariant-loop-label : goal.invariant-loop-label
invariant-loop-label l = AreTheTexts (take l.label-index l.labels) l.texts.items
