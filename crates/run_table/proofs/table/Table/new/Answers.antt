use Rattle.std.proofs.Common.{subst, sym}
use Rattle.table_model.specs.Sound.{IsSound}
use Rattle.run_table.proofs.StepKeeps.{empty_is_sound}
use Rattle.run_table.proofs.table.Table.new.Goals as goal

pub invariant_of-result : goal.invariant_of-result
invariant_of-result c = subst (λ t. IsSound t) (sym c.new.ensures) empty_is_sound
