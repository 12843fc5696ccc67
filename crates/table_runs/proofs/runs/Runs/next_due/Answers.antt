use Rattle.std.specs.Prelude.{List}
use Rattle.std.proofs.Common.{arith, ap, sym, ◌∙◌, inl, inr}
use Rattle.std.proofs.lemmas.Bool.{cases_lt}
use Rattle.table_model.specs.inner.Resuming.{apply_at}
use Rattle.table_model.specs.Runs.{RunState}
use Rattle.table_model.specs.inner.WithinRun.{first_in_run}
use Rattle.table_runs.proofs.MarkedRuns.{if_none, if_some, past_rests, unmarked_rests}
use Rattle.table_runs.proofs.runs.Runs.next_due.Goals as goal

pub returns-clause-between : goal.returns-clause-between
returns-clause-between c =
    if_some c.next_below.result _ _
    (λ r unmarked i from to.
    ap (λ (xs : List RunState). apply_at (first_in_run xs) xs i) (sym c.self.view_is)
    ∙ unmarked_rests c.self.inside.rows.runs _ c.self.invariant.1 i (unmarked i from to))
    c.next_below.ensures.between

pub returns-clause-none : goal.returns-clause-none
returns-clause-none c =
    if_none c.next_below.result _ _
    (λ unmarked i from.
    elim (cases_lt i c.len.result) [
      | inl within ↦
          ap (λ (xs : List RunState). apply_at (first_in_run xs) xs i) (sym c.self.view_is)
          ∙ unmarked_rests c.self.inside.rows.runs _ c.self.invariant.1 i (unmarked i from within)
      | inr past ↦ past_rests c.args.self.now i (omega (arith, past, c.len.ensures.len))
    ])
    c.next_below.ensures.none
