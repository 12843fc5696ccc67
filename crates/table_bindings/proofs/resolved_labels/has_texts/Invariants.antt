use Rattle.std.specs.Prelude.{◌≡◌, ℕ, List, true}
use Rattle.std.specs.List.{list_all}
use Rattle.std.proofs.Common.{take}
use Rattle.table_model.specs.Fitting.{has_label}
use Rattle.table_bindings.specs.KnownLabels.{AreAlike}
use Rattle.table_bindings.proofs.resolved_labels.has_texts.Given as goal

-- all so far are among the labels
abbrev pub invariant-loop-text : goal.invariant-loop-text
invariant-loop-text l =
    (whole : List (List ℕ)) → AreAlike whole l.wanted → list_all (has_label l.labels) (take l.text-index whole) ≡ true
