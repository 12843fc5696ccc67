use Rattle.std.proofs.Common.{ℕ, ◌≤◌, sym, subst}
use Rattle.std.specs.List.{AllByRecursion}
use Rattle.stored_tables.specs.Stored.{stored_runner}
use Rattle.table_model.specs.TableState.{RunnerState}
use Rattle.table_model.specs.Forgotten.{ForgottenRuns}
use Rattle.table_text.specs.Tables.{forgotten, runner}
use Rattle.table_text.specs.inner.Writing.{KeptHasBytes, RunHasBytes}
use Rattle.table_text.proofs.TableKnown.{AreTaken, runners_have_bytes, runs_have_bytes, table_bytes, table_takes}
use Rattle.table_text.proofs.push_table.push_table.Goals as goal

pub push_list-requires : goal.push_list-requires
push_list-requires c =
    subst (AllByRecursion RunHasBytes) (sym c.runs-runs.ensures.runs) (runs_have_bytes c.args.value.now.runs c.runs-runs.ensures.storable)

pub push_list-requires-2 : goal.push_list-requires-2
push_list-requires-2 c =
    subst (AllByRecursion (λ (r : RunnerState). KeptHasBytes r.last)) (sym c.runners-runners.ensures.runners)
    (runners_have_bytes c.args.value.now c.last_lease.ensures.sound
    (subst AreTaken c.runs-runs.ensures.runs c.in_ok-push_list.ensures.takes))

pub returns-clause-takes : goal.returns-clause-takes
returns-clause-takes c =
    table_takes c.args.value.now (subst (λ (n : ℕ). n ≤ 999999999) c.last_lease.ensures.lease c.last_lease.ensures.most)
    (subst (λ (g : ForgottenRuns). forgotten.Takes g) c.forgotten.ensures.forgotten c.in_ok-push_forgotten.ensures.takes)
    c.runs-runs.ensures.storable.few_runs
    (subst AreTaken c.runs-runs.ensures.runs c.in_ok-push_list.ensures.takes) c.requires
    (subst (AllByRecursion (λ (r : RunnerState). runner.Takes (stored_runner r))) c.runners-runners.ensures.runners
    c.in_ok-push_list-2.ensures.takes) c.runners-runners.ensures.rise

pub returns-clause-bytes : goal.returns-clause-bytes
returns-clause-bytes c =
    table_bytes c.args.value.now _ _ _ _ _ _ _ _ _ _ _ c.in_ok-push_word.ensures.bytes c.in_ok-push_forgotten.ensures.bytes
    c.in_ok-push_word-2.ensures.bytes
    c.in_ok-push_list.ensures.bytes
    c.in_ok-push_word-3.ensures.bytes c.in_ok-push_list-2.ensures.bytes c.last_lease.ensures.lease c.forgotten.ensures.forgotten
    c.runs-runs.ensures.runs
    c.runners-runners.ensures.runners
