use Rattle.std.specs.Prelude.{◌≡◌, IfOk, IfSome, List, MatchOption, Option, Some, None, Result, Ok, Err}
use Rattle.std.proofs.Common.{subst, sym}
use Rattle.wf_value.specs.declared.refusal.Refusal.{Refusal}
use Rattle.table_model.specs.AsPlanned.{AreAsPlanned}
use Rattle.table_model.specs.Forgotten.{ForgottenRuns}
use Rattle.table_model.specs.Groups.{HasOneEach}
use Rattle.table_model.specs.Parts.{AreRunsOf, RunParts}
use Rattle.table_model.specs.Runs.{RunState}
use Rattle.table_model.proofs.Numbered.{same_runs}
use Rattle.table_runs.specs.inner.RowsKept.{RowState}
use Rattle.table_runs.specs.inner.Seating.{AreStored}
use Rattle.table_runs.proofs.runs.Runs.of_parts.Goals as goal

-- the runs of the parts are those of the rows, if no group has two holders of a kind
of_the_rows : (forgotten : ForgottenRuns) (parts : List RunParts) (rows : List RunState) → AreRunsOf forgotten parts rows → AreAsPlanned rows
    → (r : Result (Option (List RunState)) Refusal)
    → IfOk r (λ found. MatchOption found (HasOneEach rows → ⊥) (λ runs. (runs ≡ rows) × HasOneEach rows))
    → IfOk r (λ found. MatchOption found ((runs : List RunState) → AreRunsOf forgotten parts runs → AreAsPlanned runs → HasOneEach runs → ⊥)
    (λ runs. AreRunsOf forgotten parts runs × AreAsPlanned runs × HasOneEach runs))
of_the_rows forgotten parts rows its planned (Ok None) not =
    λ runs are as_planned one. not (subst HasOneEach (same_runs forgotten parts runs rows are its) one)
of_the_rows forgotten parts rows its planned (Ok (Some runs)) are = (
  subst (AreRunsOf forgotten parts) (sym are.0) its,
  subst AreAsPlanned (sym are.0) planned,
  subst HasOneEach (sym are.0) are.1,
)
of_the_rows forgotten parts rows its planned (Err e) are = tt

pub of_rows-requires : goal.of_rows-requires
of_rows-requires c = record {
  empty = c.in_ok-rows.ensures.entries;
  stored = subst (λ (o : Option RowState). IfSome o (λ rows. AreStored rows c.rows_of.new.book)) c.in-Some.is c.in_ok-rows.ensures.stored;
}

pub returns-clause-of : goal.returns-clause-of
returns-clause-of c =
    let forgotten = c.args.forgotten.now in
    let parts = c.args.parts.now in
    let rows = c.in-Some.rows in
    let its = subst (λ (o : Option RowState). IfSome o (λ rows. AreRunsOf forgotten parts rows.runs)) c.in-Some.is c.in_ok-rows.ensures.runs in
    let planned = subst
    (λ (o : Option RowState). MatchOption o ((runs : List RunState) → AreRunsOf forgotten parts runs → AreAsPlanned runs → ⊥)
    (λ rows. AreAsPlanned rows.runs)) c.in-Some.is c.in_ok-rows.ensures.planned in
    of_the_rows forgotten parts rows.runs its planned c.of_rows.result c.of_rows.ensures.of

pub returns-in_default-clause-of : goal.returns-in_default-clause-of
returns-in_default-clause-of c = λ runs are planned one.
    subst
    (λ (o : Option RowState). MatchOption o ((runs : List RunState) → AreRunsOf c.args.forgotten.now c.args.parts.now runs → AreAsPlanned runs → ⊥)
    (λ rows. AreAsPlanned rows.runs)) c.in_default.is c.in_ok-rows.ensures.planned runs are planned
