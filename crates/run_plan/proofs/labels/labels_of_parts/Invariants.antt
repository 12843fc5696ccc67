use Rattle.std.proofs.Common.{◌≡◌}
use Rattle.std.specs.Prelude.{map}
use Rattle.run_plan.proofs.labels.labels_of_parts.Given as goal

-- the parts so far are copied
abbrev pub invariant-loop-part : goal.invariant-loop-part
invariant-loop-part l = l.labels.items ≡ map (λ p. p.now) l.yielded
