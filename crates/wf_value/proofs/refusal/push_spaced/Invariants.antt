use Rattle.std.proofs.Common.{◌≡◌, ◌++◌, take}
use Rattle.std.specs.Prelude.{string_bytes}
use Rattle.std.specs.List.{flat_map}
use Rattle.wf_value.specs.SpacedText.{spaced}
use Rattle.wf_value.proofs.refusal.push_spaced.Given as goal

-- the texts so far are appended
abbrev pub invariant-loop-text : goal.invariant-loop-text
invariant-loop-text l = string_bytes l.target ≡ string_bytes l.initial.target ++ flat_map spaced (take l.text-index l.texts)
