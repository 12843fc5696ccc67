-- Examples of results, conclusions and conditions, computed from the definitions.
use Rattle.std.proofs.Common.{Some, ◌≡◌, [], ◌∷◌, Bool, true, false, refl}
use Rattle.wf_value.specs.declared.condition.Condition.TheVariants as condition
use Rattle.wf_value.specs.declared.outcome.Outcome.{Outcome}
use Rattle.wf_value.specs.declared.outcome.Outcome.TheVariants as outcome
use Rattle.wf_value.specs.declared.outcome.JobResult.TheVariants as job
use Rattle.needs_graph.specs.Needs.{gathered, conclusion_of, condition_value}
use Rattle.needs_graph.specs.declared.ended.LegEnd.{LegEnd}

-- a leg, and whether its failure is ignored
abbrev leg : Outcome → Bool → LegEnd
leg o passed_over = record { outcome = o; continue_on_error = passed_over }

no_legs : gathered [] ≡ job.Success
no_legs = refl

failure_counts : gathered (leg outcome.Success false ∷ leg outcome.Failure false ∷ []) ≡ job.Failure
failure_counts = refl

failure_is_passed_over : gathered (leg outcome.Success false ∷ leg outcome.Failure true ∷ []) ≡ job.Success
failure_is_passed_over = refl

failure_before_cancelled : gathered (leg outcome.Cancelled false ∷ leg outcome.Failure false ∷ []) ≡ job.Failure
failure_before_cancelled = refl

cancelled_counts : gathered (leg outcome.Failure true ∷ leg outcome.Cancelled true ∷ []) ≡ job.Cancelled
cancelled_counts = refl

skipped_counts_as_success : conclusion_of (job.Success ∷ job.Skipped ∷ []) ≡ outcome.Success
skipped_counts_as_success = refl

run_failure_before_cancelled : conclusion_of (job.Cancelled ∷ job.Failure ∷ job.Skipped ∷ []) ≡ outcome.Failure
run_failure_before_cancelled = refl

run_cancelled : conclusion_of (job.Success ∷ job.Cancelled ∷ []) ≡ outcome.Cancelled
run_cancelled = refl

success_wants_all : condition_value condition.Success (Some job.Success ∷ Some job.Failure ∷ []) false ≡ false
success_wants_all = refl

success_without_ancestors : condition_value condition.Success [] false ≡ true
success_without_ancestors = refl

skipped_is_no_success : condition_value condition.Success (Some job.Skipped ∷ []) false ≡ false
skipped_is_no_success = refl

failure_wants_one : condition_value condition.Failure (Some job.Success ∷ Some job.Failure ∷ []) false ≡ true
failure_wants_one = refl

failure_not_while_stopping : condition_value condition.Failure (Some job.Failure ∷ []) true ≡ false
failure_not_while_stopping = refl

success_not_while_stopping : condition_value condition.Success (Some job.Success ∷ []) true ≡ false
success_not_while_stopping = refl

always_while_stopping : condition_value condition.Always (Some job.Failure ∷ []) true ≡ true
always_while_stopping = refl
