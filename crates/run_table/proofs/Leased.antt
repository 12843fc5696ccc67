-- The effect of a lease on a table, put together from the calls that make it.
use Rattle.std.specs.Prelude.{◌≡◌, ℕ, ◌+◌, List, Some}
use Rattle.std.proofs.Common.{ap, subst, sym, ◌∙◌}
use Rattle.run_plan.specs.declared.command.Claim.{Claim as Claimed}
use Rattle.run_plan.specs.declared.last_command.ClaimReply.TheVariants as given
use Rattle.run_plan.specs.declared.reply.Lease.{Lease as Leased}
use Rattle.run_plan.specs.declared.reply.Reply.{Reply}
use Rattle.run_plan.specs.declared.reply.Reply.TheVariants as reply
use Rattle.table_model.specs.Forgotten.{ForgottenRuns}
use Rattle.table_model.specs.Runs.{with_leg, leased_leg, RunState}
use Rattle.table_model.specs.declared.sites.LegSite.{LegSite}
use Rattle.table_model.specs.Settling.{settled}
use Rattle.table_model.specs.Step.{claiming_runner, kept_lease_at, lease_at, leasing, outcome}
use Rattle.table_model.specs.TableState.{RunnerState, TableState, with_runner}

abbrev made : ForgottenRuns → ℕ → List RunState → List RunnerState → Leased → TableState × Reply
made forgotten last runs runners lease_reply =
    (record { last_lease = last; forgotten = forgotten; runs = runs; runners = runners }, reply.Lease lease_reply)

pub leased_table : (last : ℕ) (forgotten : ForgottenRuns) (runs : List RunState) (runners : List RunnerState) (now : TableState) (claim : Claimed) (p : LegSite)
    (lease got : ℕ) (lease_reply : Leased) (runner : RunnerState) (put : List RunnerState) (moved rest : List RunState)
    → record { last_lease = last; forgotten = forgotten; runs = runs; runners = runners } ≡ now → lease ≡ last + 1 → got ≡ lease → lease_at runs p lease ≡ lease_reply
    → claiming_runner claim (Some lease) (given.Lease (kept_lease_at runs p lease)) ≡ runner → with_runner runners runner ≡ put
    → moved ≡ with_leg p (λ _. leased_leg lease) runs → rest ≡ settled moved
    → outcome (leasing now claim p) ≡ (record { last_lease = got; forgotten = forgotten; runs = rest; runners = put }, reply.Lease lease_reply)
leased_table last forgotten runs runners now claim p lease got lease_reply runner put moved rest is-now is-lease is-got is-lease_reply is-runner is-put
    is-moved is-rest =
    let P : TableState → Type 0 = λ t. outcome (leasing t claim p) ≡ made forgotten got rest put lease_reply in
    subst P is-now
    (ap (λ n. made forgotten n (settled (with_leg p (λ _. leased_leg n) runs))
    (with_runner runners (claiming_runner claim (Some n) (given.Lease (kept_lease_at runs p n)))) (lease_at runs p n)) (sym is-lease)
    ∙ ap (λ (t : Leased). made forgotten lease (settled (with_leg p (λ _. leased_leg lease) runs))
    (with_runner runners (claiming_runner claim (Some lease) (given.Lease (kept_lease_at runs p lease)))) t) is-lease_reply
    ∙ ap (λ r. made forgotten lease (settled (with_leg p (λ _. leased_leg lease) runs)) (with_runner runners r) lease_reply) is-runner
    ∙ ap (λ rs. made forgotten lease (settled (with_leg p (λ _. leased_leg lease) runs)) rs lease_reply) is-put
    ∙ ap (λ ms. made forgotten lease ms put lease_reply) (ap settled (sym is-moved) ∙ sym is-rest)
    ∙ ap (λ n. made forgotten n rest put lease_reply) (sym is-got))
