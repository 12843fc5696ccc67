use Rattle.std.proofs.Common.{◌≡◌, map, take}
use Rattle.table_views.specs.Texts.{quoted}
use Rattle.table_views.proofs.change_lines.quoted_labels.Given as goal

-- the labels so far
abbrev pub invariant-loop-label : goal.invariant-loop-label
invariant-loop-label l = l.texts.items ≡ map quoted (take l.label-index l.labels)
