use Rattle.std.specs.Prelude.{◌≡◌, ℕ, List, false}
use Rattle.std.specs.List.{list_any}
use Rattle.std.specs.Str.{str_eq_ignore_ascii_case}
use Rattle.std.proofs.Common.{take}
use Rattle.table_bindings.specs.KnownLabels.{short_text}
use Rattle.table_bindings.proofs.resolved_labels.has_text.Given as goal

-- none so far is the text
abbrev pub invariant-loop-label : goal.invariant-loop-label
invariant-loop-label l =
    (whole : List ℕ) → short_text whole ≡ short_text l.wanted
    → list_any (λ label. str_eq_ignore_ascii_case label whole) (take l.label-index l.labels) ≡ false
