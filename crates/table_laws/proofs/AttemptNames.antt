-- The attempts of runs, after one of them enters its next attempt and the runs settle.
use Rattle.std.specs.Prelude.{◌≡◌, ℕ, ◌+◌, ◌≤◌, List, Some, option_map}
use Rattle.std.specs.Option.{option_map_or}
use Rattle.std.proofs.Common.{arith, ap, inl, inr, ◌∙◌}
use Rattle.table_model.specs.Holders.{run_of}
use Rattle.table_model.specs.Runs.{again, run_at, with_run, RunState}
use Rattle.table_model.specs.Settling.{settled}
use Rattle.table_model.proofs.Changed.{at_another, at_changed}
use Rattle.table_model.proofs.RunFits.{RunsFit}
use Rattle.settling_laws.proofs.SettlingKeeps.{settling_settles}
use Rattle.table_model.specs.Step.{entered_again}
use Rattle.table_model.specs.TableState.{TableState}
use Rattle.run_table.proofs.EnteredAgain.{entered_again_settles}
use Rattle.table_laws.specs.Names.{attempt_of}
use Rattle.table_laws.proofs.GroupsKept.{Grows, grows_on, stays_grows}
use Rattle.table_laws.proofs.Parked.{here_or_elsewhere}
use Rattle.table_model.specs.declared.holder.Holder.{Holder}

module _ (t : TableState) (r : ℕ) (x : RunState) (there : run_at t.runs r ≡ Some x) (fit : RunsFit t.runs) where
  abbrev now : List RunState
  now = with_run r again t.runs

  abbrev reached : List RunState
  reached = settled (entered_again t r).runs

  pub entered_fits : RunsFit (entered_again t r).runs
  entered_fits = (entered_again_settles t r fit).stay.fit

  pub entry_grows : Grows (entered_again t r).runs reached
  entry_grows = stays_grows (entered_again t r).runs reached (settling_settles (entered_again t r).runs entered_fits).stay

  pub again_grows : Grows now reached
  again_grows =
      grows_on now (entered_again t r).runs reached (stays_grows now (entered_again t r).runs (entered_again_settles t r fit).stay) entry_grows

  pub attempt_before : (h : Holder) → run_of h ≡ r → attempt_of t.runs h ≡ x.attempt
  attempt_before h same =
      ap (λ (k : ℕ). option_map_or (λ x. x.attempt) (run_at t.runs k) 1) same ∙ ap (λ o. option_map_or (λ x. x.attempt) o 1) there

  pub attempt_then : (h : Holder) → run_of h ≡ r → attempt_of reached h ≡ x.attempt + 1
  attempt_then h same =
      again_grows.same_attempts h ∙ ap (λ (k : ℕ). option_map_or (λ x. x.attempt) (run_at now k) 1) same
      ∙ ap (λ o. option_map_or (λ x. x.attempt) o 1) (at_changed r again t.runs ∙ ap (option_map again) there)

  pub attempt_elsewhere : (h : Holder) → (run_of h ≡ r → ⊥) → attempt_of reached h ≡ attempt_of t.runs h
  attempt_elsewhere h other =
      again_grows.same_attempts h ∙ ap (λ o. option_map_or (λ x. x.attempt) o 1) (at_another r again t.runs (run_of h) other)

  pub again_rises : (h : Holder) → attempt_of t.runs h ≤ attempt_of reached h
  again_rises h =
      elim (here_or_elsewhere r h) [
        | inl here ↦
            let before : attempt_of t.runs h ≡ x.attempt = attempt_before h here.0 in
            let now : attempt_of reached h ≡ x.attempt + 1 = attempt_then h here.0 in
            omega (arith, before, now)
        | inr elsewhere ↦
            let same : attempt_of reached h ≡ attempt_of t.runs h = attempt_elsewhere h elsewhere.0 in omega (arith, same)
      ]
