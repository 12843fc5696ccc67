-- Examples of the conditions that look at no result, computed from the definition: `cancelled()`, `!cancelled()` and `false`.
use Rattle.std.proofs.Common.{Some, ◌≡◌, [], ◌∷◌, true, false, refl}
use Rattle.wf_value.specs.declared.condition.Condition.TheVariants as condition
use Rattle.wf_value.specs.declared.outcome.JobResult.TheVariants as job
use Rattle.needs_graph.specs.Needs.{condition_value}

cancelled_while_stopping : condition_value condition.Cancelled (Some job.Success ∷ []) true ≡ true
cancelled_while_stopping = refl

cancelled_only_while_stopping : condition_value condition.Cancelled (Some job.Cancelled ∷ []) false ≡ false
cancelled_only_while_stopping = refl

not_cancelled_while_stopping : condition_value condition.NotCancelled (Some job.Success ∷ []) true ≡ false
not_cancelled_while_stopping = refl

not_cancelled_whatever_the_results : condition_value condition.NotCancelled (Some job.Failure ∷ Some job.Cancelled ∷ []) false ≡ true
not_cancelled_whatever_the_results = refl

never_after_a_success : condition_value condition.Never (Some job.Success ∷ []) false ≡ false
never_after_a_success = refl

never_while_stopping : condition_value condition.Never [] true ≡ false
never_while_stopping = refl
