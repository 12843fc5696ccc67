-- The tests for repeated commands decide equality.
use Rattle.std.specs.Prelude.{◌≡◌, ℕ, List, refl}
use Rattle.std.specs.Bool.{Decides}
use Rattle.std.specs.Cmp.Lexicographic.{pointwise}
use Rattle.std.specs.Str.{bytes_eq}
use Rattle.std.proofs.Common.{ap, ◌∙◌}
use Rattle.std.proofs.lemmas.Bool.Decides.{Decides-and, Decides-eqb, Decides-like}
use Rattle.std.proofs.lemmas.Slice.Eq.{bytes_eq-Decides, slice_eq-Decides}
use Rattle.wf_value.specs.declared.outcome.Outcome.{Outcome}
use Rattle.wf_value.specs.declared.outcome.Outcome.TheVariants as outcome
use Rattle.run_plan.specs.declared.command.Claim.{Claim}
use Rattle.run_plan.specs.declared.command.Done.{Done}
use Rattle.run_plan.specs.LastCommand.{same_claims, same_outcomes, same_reports}

labels_decide : (a b : List (List ℕ)) → Decides (pointwise bytes_eq a b) (a ≡ b)
labels_decide a b = slice_eq-Decides bytes_eq-Decides a b (pointwise bytes_eq a b) refl

outcomes_decide : (a b : Outcome) → Decides (same_outcomes a b) (a ≡ b)
outcomes_decide outcome.Success outcome.Success = (λ h. refl, λ h. refl)
outcomes_decide outcome.Failure outcome.Failure = (λ h. refl, λ h. refl)
outcomes_decide outcome.Cancelled outcome.Cancelled = (λ h. refl, λ h. refl)
outcomes_decide outcome.Success outcome.Failure = (λ h. absurd (cc), λ h. absurd (cc))
outcomes_decide outcome.Success outcome.Cancelled = (λ h. absurd (cc), λ h. absurd (cc))
outcomes_decide outcome.Failure outcome.Success = (λ h. absurd (cc), λ h. absurd (cc))
outcomes_decide outcome.Failure outcome.Cancelled = (λ h. absurd (cc), λ h. absurd (cc))
outcomes_decide outcome.Cancelled outcome.Success = (λ h. absurd (cc), λ h. absurd (cc))
outcomes_decide outcome.Cancelled outcome.Failure = (λ h. absurd (cc), λ h. absurd (cc))

claim_by : (a b : Claim) → a.runner ≡ b.runner → a.number ≡ b.number → a.labels ≡ b.labels → a ≡ b
claim_by a b runner number labels =
    let of : List ℕ → ℕ → List (List ℕ) → Claim = λ r n l. record { runner = r; number = n; labels = l } in
    ap (λ r. of r a.number a.labels) runner ∙ ap (λ n. of b.runner n a.labels) number ∙ ap (λ l. of b.runner b.number l) labels

pub claims_decide : (a b : Claim) → Decides (same_claims a b) (a ≡ b)
claims_decide a b =
    Decides-like _ (λ h. claim_by a b h.0.0 h.0.1 h.1) (λ h. ((ap (λ c. c.runner) h, ap (λ c. c.number) h), ap (λ c. c.labels) h))
    (Decides-and _ _ (Decides-and _ _ (bytes_eq-Decides a.runner b.runner) (Decides-eqb a.number b.number))
    (labels_decide a.labels b.labels))

report_by : (a b : Done) → a.runner ≡ b.runner → a.number ≡ b.number → a.lease ≡ b.lease → a.result ≡ b.result → a ≡ b
report_by a b runner number lease outcome =
    let of : List ℕ → ℕ → ℕ → Outcome → Done = λ r n l o. record { runner = r; number = n; lease = l; result = o } in
    ap (λ r. of r a.number a.lease a.result) runner ∙ ap (λ n. of b.runner n a.lease a.result) number
    ∙ ap (λ l. of b.runner b.number l a.result) lease ∙ ap (λ o. of b.runner b.number b.lease o) outcome

pub reports_decide : (a b : Done) → Decides (same_reports a b) (a ≡ b)
reports_decide a b =
    Decides-like _ (λ h. report_by a b h.0.0.0 h.0.0.1 h.0.1 h.1)
    (λ h. (((ap (λ d. d.runner) h, ap (λ d. d.number) h), ap (λ d. d.lease) h), ap (λ d. d.result) h))
    (Decides-and _ _
    (Decides-and _ _ (Decides-and _ _ (bytes_eq-Decides a.runner b.runner) (Decides-eqb a.number b.number)) (Decides-eqb a.lease b.lease))
    (outcomes_decide a.result b.result))
