-- A claim that no leg fits leaves the runs of a sound table unchanged: no rule applies, so they are at a fixpoint
-- already.
use Rattle.std.proofs.Common.{◌≡◌, ℕ, List, None, ap, sym, ◌∙◌}
use Rattle.std.specs.Prelude.{option_and_then}
use Rattle.run_plan.specs.declared.command.Claim.{Claim as Claimed}
use Rattle.run_plan.specs.declared.last_command.ClaimReply.TheVariants as given
use Rattle.run_plan.specs.declared.reply.Reply.{Reply}
use Rattle.run_plan.specs.declared.reply.Reply.TheVariants as reply
use Rattle.table_model.specs.Settling.{rule_at, settled}
use Rattle.table_model.specs.Forgotten.{ForgottenRuns}
use Rattle.table_model.specs.Runs.{RunState}
use Rattle.settling_laws.proofs.Rests.{settled_at_rest}
use Rattle.table_model.specs.Sound.{IsSound}
use Rattle.table_model.specs.Step.{claiming_runner, outcome, serving_nothing}
use Rattle.table_model.specs.TableState.{RunnerState, TableState, with_runner}

abbrev table_of : ℕ → ForgottenRuns → List RunState → List RunnerState → TableState
table_of last forgotten runs runners = record { last_lease = last; forgotten = forgotten; runs = runs; runners = runners }

abbrev answer_with : ℕ → ForgottenRuns → List RunState → List RunnerState → TableState × Reply
answer_with last forgotten runs runners = (table_of last forgotten runs runners, reply.Nothing)

pub served_nothing : (t : TableState) (claim : Claimed) (last : ℕ) (forgotten : ForgottenRuns) (runs : List RunState) (runners new : List RunnerState)
    (runner : RunnerState) → IsSound t → table_of last forgotten runs runners ≡ t
    → claiming_runner claim None given.Nothing ≡ runner → with_runner runners runner ≡ new
    → outcome (serving_nothing t claim) ≡ answer_with last forgotten runs new
served_nothing t claim last forgotten runs runners new runner sound view is put =
    let kept = claiming_runner claim None given.Nothing in
    let rests : settled t.runs ≡ t.runs = settled_at_rest t.runs (ap (option_and_then (rule_at t.runs)) sound.no_rule_applies) in
    ap (λ (u : List RunState). answer_with t.last_lease t.forgotten u (with_runner t.runners kept)) rests
    ∙ ap (λ (x : TableState). answer_with x.last_lease x.forgotten x.runs (with_runner x.runners kept)) (sym view)
    ∙ ap (λ (x : RunnerState). answer_with last forgotten runs (with_runner runners x)) is
    ∙ ap (λ (l : List RunnerState). answer_with last forgotten runs l) put
