-- The first site where a rule applies is found in the runs that are due.
use Rattle.std.specs.Prelude.{◌≡◌, ℕ, ◌<◌, ◌≤◌, List, length, true, Option, Some, None, is_some}
use Rattle.std.proofs.Common.{arith, sym, ◌∙◌, inl, inr}
use Rattle.std.proofs.lemmas.Bool.{cases_lt, true≢false}
use Rattle.table_model.specs.inner.Resuming.{NoneBefore, apply_at}
use Rattle.table_model.specs.Runs.{RunState}
use Rattle.table_model.specs.Settling.{first_site}
use Rattle.table_model.specs.inner.WithinRun.{first_in_run}
use Rattle.table_model.specs.declared.sites.RuleSite.{RuleSite}
use Rattle.settling_laws.proofs.Firsts.{found_at, none_found}
use Rattle.settling_laws.proofs.Walks.{first_place_by_run}

module _ (runs : List RunState) where
  -- no rule applies before the next run that is due
  pub rest_until : (from r : ℕ) → NoneBefore (first_in_run runs) runs from
      → ((i : ℕ) → from ≤ i → i < r → apply_at (first_in_run runs) runs i ≡ None) → NoneBefore (first_in_run runs) runs r
  rest_until from r before between k lt =
      elim (cases_lt k from) [
        | inl early ↦ before k early
        | inr late ↦ between k late lt
      ]

  -- the search of a run finds a site
  pub site_found : (r : ℕ) (o : Option RuleSite) → NoneBefore (first_in_run runs) runs r → o ≡ apply_at (first_in_run runs) runs r
      → is_some o ≡ true → o ≡ first_site runs
  site_found r None before is some = absurd (true≢false (sym some))
  site_found r (Some p) before is some = sym (first_place_by_run runs ∙ found_at (first_in_run runs) runs r p before (sym is))

  pub none_left : (from : ℕ) → NoneBefore (first_in_run runs) runs from → ((i : ℕ) → from ≤ i → apply_at (first_in_run runs) runs i ≡ None)
      → None ≡ first_site runs
  none_left from before none =
      sym (first_place_by_run runs
      ∙ none_found (first_in_run runs) runs (length runs) (rest_until from (length runs) before (λ i le lt. none i le)) (omega arith))
