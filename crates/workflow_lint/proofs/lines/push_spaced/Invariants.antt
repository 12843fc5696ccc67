use Rattle.std.proofs.Common.{◌≡◌, ◌++◌, take}
use Rattle.std.specs.Prelude.{string_bytes}
use Rattle.std.specs.List.{flat_map}
use Rattle.wf_value.specs.SpacedText.{spaced}
use Rattle.workflow_lint.proofs.lines.push_spaced.Given as goal

-- the ids so far are appended
abbrev pub invariant-loop-id : goal.invariant-loop-id
invariant-loop-id l = string_bytes l.text ≡ string_bytes l.initial.text ++ flat_map spaced (take l.id-index l.ids)
