use Rattle.std.proofs.Common.{subst}
use Rattle.table_model.specs.Sound.{IsSound}
use Rattle.run_table.proofs.table.TableTryCopy.copy.Goals as goal
use Rattle.wf_value.proofs.PassedOn.{same_Ok}

pub invariant_of-result : goal.invariant_of-result
invariant_of-result c = subst (λ t. IsSound t) (same_Ok _ _ c.in_ok-copy.ensures) c.self.invariant
