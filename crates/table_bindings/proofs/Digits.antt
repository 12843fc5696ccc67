-- The facts of a leg, with the digits of its run's id, number and attempt.
use Rattle.std.specs.Prelude.{◌≡◌, ℕ, List, Option}
use Rattle.std.specs.Fmt.{decimal}
use Rattle.std.proofs.Common.{ap, ◌∙◌}
use Rattle.wf_value.specs.declared.outcome.JobResult.{JobResult}
use Rattle.definitions.specs.SmallText.{Admitted}
use Rattle.run_plan.specs.declared.planned.PlannedJob.{PlannedJob}
use Rattle.table_model.specs.LegContext.{LegFacts}

abbrev pub facts : Admitted → List ℕ → List ℕ → List ℕ → PlannedJob → ℕ → List (List ℕ × Option JobResult) → LegFacts
facts event id number attempt job leg needs =
    record { event = event; run_id = id; run_number = number; run_attempt = attempt; job = job; leg = leg; needs = needs }

pub told_in_digits : (event : Admitted) (id number attempt : ℕ) (id_text number_text attempt_text : List ℕ) (job : PlannedJob) (leg : ℕ)
    (needs : List (List ℕ × Option JobResult)) (identity : LegFacts) → id_text ≡ decimal id → number_text ≡ decimal number
    → attempt_text ≡ decimal attempt → facts event (decimal id) (decimal number) (decimal attempt) job leg needs ≡ identity
    → facts event id_text number_text attempt_text job leg needs ≡ identity
told_in_digits event id number attempt id_text number_text attempt_text job leg needs identity is_id is_number is_attempt is =
    ap (λ x. facts event x number_text attempt_text job leg needs) is_id
    ∙ ap (λ y. facts event (decimal id) y attempt_text job leg needs) is_number
    ∙ ap (λ z. facts event (decimal id) (decimal number) z job leg needs) is_attempt ∙ is
