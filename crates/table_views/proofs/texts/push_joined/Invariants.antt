use Rattle.std.proofs.Common.{◌≡◌, ◌++◌, take}
use Rattle.std.specs.Prelude.{string_bytes}
use Rattle.std.specs.List.{flat_map}
use Rattle.table_views.proofs.Joined.{after_comma}
use Rattle.table_views.proofs.texts.push_joined.Given as goal

-- the texts so far have been added, each after a comma
abbrev pub invariant-loop-item : goal.invariant-loop-item
invariant-loop-item l = string_bytes l.text ≡ string_bytes l.initial.text ++ flat_map after_comma (take l.item-index l.others)
