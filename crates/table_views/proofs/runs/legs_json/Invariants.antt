use Rattle.std.proofs.Common.{◌≡◌, map, take}
use Rattle.table_views.specs.RunLines.{leg_json}
use Rattle.table_views.proofs.runs.legs_json.Given as goal

-- the texts of the legs so far
abbrev pub invariant-loop-leg : goal.invariant-loop-leg
invariant-loop-leg l = l.texts.items ≡ map leg_json (take l.leg-index l.legs)
