use Rattle.std.proofs.Common.{◌≡◌, ◌++◌, take}
use Rattle.std.specs.Prelude.{codes, string_bytes}
use Rattle.std.specs.List.{flat_map}
use Rattle.table_model.specs.ViewText.{leg_text}
use Rattle.run_table.proofs.view_text.push_leg_words.Given as goal

-- the legs so far have been added, each after a comma
abbrev pub invariant-loop-leg : goal.invariant-loop-leg
invariant-loop-leg l =
    string_bytes l.text ≡ string_bytes l.initial.text ++ flat_map (λ x. codes "," ++ leg_text x.phase) (take l.leg-index l.others)
