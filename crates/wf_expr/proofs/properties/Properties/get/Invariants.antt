use Rattle.std.proofs.Common.{◌≡◌, drop}
use Rattle.wf_expr.specs.Properties.{value_at}
use Rattle.wf_expr.proofs.properties.Properties.get.Given as goal

-- the current tree has, for the remaining names, the value of the whole path
abbrev pub invariant-loop-name : goal.invariant-loop-name
invariant-loop-name l = value_at l.tree (drop l.name-index l.path) ≡ value_at l.self l.path
