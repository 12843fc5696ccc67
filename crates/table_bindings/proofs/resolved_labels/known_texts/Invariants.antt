use Rattle.std.proofs.Common.{◌≡◌, take}
use Rattle.std.specs.Prelude.{map}
use Rattle.table_bindings.specs.KnownLabels.{otherwise_text, short_text}
use Rattle.table_bindings.proofs.resolved_labels.known_texts.Given as goal

-- what is kept of the labels so far
abbrev pub invariant-loop-label : goal.invariant-loop-label
invariant-loop-label l = l.texts.items ≡ map (λ label. short_text (otherwise_text label)) (take l.label-index l.labels)
