-- The lease that a runner of a sound table holds is that of exactly one leg, on which the runner is at work.
use Rattle.std.specs.Prelude.{◌≡◌, ℕ, List, true, Some, None, Option, option_and_then, refl}
use Rattle.std.proofs.Common.{ap, sym, ◌∙◌}
use Rattle.std.proofs.lemmas.Option.{same_Some}
use Rattle.table_model.specs.Sound.{IsSound}
use Rattle.table_model.specs.TableState.{RunnerState, TableState, holds_this, runner_named}
use Rattle.table_model.specs.Fitting.{OnlyAtWork, is_at_work}
use Rattle.table_model.specs.Runs.{leg_at, LegState}
use Rattle.run_table.proofs.ReportKeeps.{holds_it}
use Rattle.run_table.proofs.RunnerPut.{stood}

pub held_at_work : (t : TableState) (name : List ℕ) (runner : RunnerState) (lease : ℕ) → IsSound t
    → runner_named t.runners name ≡ Some runner → runner.holds ≡ Some lease → OnlyAtWork t.runs lease
held_at_work t name runner lease s named holds p leg at has =
    let there = stood t.runners name in
    let (q, work, is, gives, works) = s.held_is_at_work there.place runner lease (there.was ∙ named) holds in
    let same = s.leases_differ p q leg work lease at is has gives in
    ap (λ (l : LegState). is_at_work l.phase) (same_Some leg work (sym at ∙ ap (leg_at t.runs) same ∙ is)) ∙ works

pub this_at_work : (t : TableState) (name : List ℕ) (lease : ℕ) → IsSound t → holds_this lease (runner_named t.runners name) ≡ true
    → OnlyAtWork t.runs lease
this_at_work t name lease s holds = by (runner_named t.runners name) refl (holds_it lease (runner_named t.runners name) holds)
  where
    by : (o : Option RunnerState) → runner_named t.runners name ≡ o → option_and_then (λ x. x.holds) o ≡ Some lease → OnlyAtWork t.runs lease
    by None is e = cc
    by (Some runner) is e = held_at_work t name runner lease s is e
