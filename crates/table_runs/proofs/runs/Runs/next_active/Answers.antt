use Rattle.std.specs.Prelude.{List}
use Rattle.std.proofs.Common.{arith, ap, sym, ◌∙◌, inl, inr}
use Rattle.std.proofs.lemmas.Bool.{cases_lt}
use Rattle.table_model.specs.inner.ActiveRuns.{is_active}
use Rattle.table_model.specs.Runs.{RunState}
use Rattle.settling_laws.specs.inner.RunFacts.{is_so_at}
use Rattle.table_runs.specs.declared.runs.Runs.TheInside.{Inside}
use Rattle.table_runs.proofs.MarkedRuns.{if_none, if_some, past_is_not_so, unmarked_is_not_so}
use Rattle.table_runs.proofs.runs.Runs.next_active.Goals as goal

pub returns-clause-between : goal.returns-clause-between
returns-clause-between c =
    if_some c.next_below.result _ _
    (λ r unmarked i from to.
    ap (λ (xs : List RunState). is_so_at is_active xs i) (sym c.self.view_is)
    ∙ sym (ap (λ (w : Inside). is_so_at is_active w.rows.runs i) c.self-inside.view_is)
    ∙ unmarked_is_not_so is_active (c.self-inside.inside.0.0).runs.items _ c.self-inside.invariant.0.active i (unmarked i from to))
    c.next_below.ensures.between

pub returns-clause-none : goal.returns-clause-none
returns-clause-none c =
    if_none c.next_below.result _ _
    (λ unmarked i from.
    elim (cases_lt i c.len.result) [
      | inl within ↦
          ap (λ (xs : List RunState). is_so_at is_active xs i) (sym c.self.view_is)
          ∙ sym (ap (λ (w : Inside). is_so_at is_active w.rows.runs i) c.self-inside.view_is)
          ∙ unmarked_is_not_so is_active (c.self-inside.inside.0.0).runs.items _ c.self-inside.invariant.0.active i (unmarked i from within)
      | inr past ↦ past_is_not_so is_active c.args.self.now i (omega (arith, past, c.len.ensures.len))
    ])
    c.next_below.ensures.none
