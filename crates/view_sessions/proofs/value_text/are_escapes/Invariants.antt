use Rattle.std.proofs.Common.{◌≡◌, drop}
use Rattle.view_sessions.specs.Values.{are_escapes}
use Rattle.view_sessions.proofs.value_text.are_escapes.Given as goal

-- what was looked at has none but escapes
abbrev pub invariant-loop-index : goal.invariant-loop-index
invariant-loop-index l = are_escapes (drop l.index l.value) ≡ are_escapes l.value
