use Rattle.std.proofs.Common.{◌∙◌, ◌++◌, ℕ, List, ap, ap₂}
use Rattle.std.specs.Prelude.{string_bytes}
use Rattle.table_model.specs.Runs.{RunState}
use Rattle.table_model.specs.TableState.{RunnerState}
use Rattle.table_views.specs.LegCounting.{leg_lines}
use Rattle.table_views.specs.RunCounting.{run_lines}
use Rattle.table_views.specs.TableMetrics.{forgotten_lines, ready_lines, runner_lines}
use Rattle.table_views.proofs.SoFar.{after}
use Rattle.table_views.proofs.table_metrics.push_table_metrics.Goals as goal

pub returns : goal.returns
returns c =
    let t = c.args.table.now in
    let kept = c.kept_runs-runs.ensures.runs in
    let old = string_bytes c.args.text.now in
    let runs = string_bytes c.push_runs.new.text in
    let legs = string_bytes c.push_legs.new.text in
    let ready = string_bytes c.push_ready.new.text in
    let runners = string_bytes c.push_runners.new.text in
    after old runners (string_bytes c.push_forgotten.new.text) _ (forgotten_lines t.forgotten.through t.runs)
    (after old ready runners _ (runner_lines t.runners)
    (after old legs ready _ (ready_lines t.runs)
    (after old runs legs (run_lines t.runs) (leg_lines t.runs)
    (c.in_ok-push_runs.ensures ∙ ap (λ (rs : List RunState). old ++ run_lines rs) (c.as_slice.ensures.runs ∙ kept))
    (c.in_ok-push_legs.ensures ∙ ap (λ (rs : List RunState). runs ++ leg_lines rs) (c.as_slice-2.ensures.runs ∙ kept)))
    (c.in_ok-push_ready.ensures ∙ ap (λ (rs : List RunState). legs ++ ready_lines rs) kept))
    (c.in_ok-push_runners.ensures ∙ ap (λ (rs : List RunnerState). ready ++ runner_lines rs) c.runners.ensures.runners))
    (c.in_ok-push_forgotten.ensures
    ∙ ap₂ (λ (n : ℕ) (rs : List RunState). runners ++ forgotten_lines n rs) c.through.ensures.through c.runs.ensures.runs)
