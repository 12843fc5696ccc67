use Rattle.std.proofs.Common.{ℕ, ◌≤◌, sym, subst}
use Rattle.std.specs.List.{AllByRecursion}
use Rattle.stored_tables.specs.Stored.{stored_runner}
use Rattle.table_model.specs.TableState.{RunnerState}
use Rattle.table_model.specs.Forgotten.{ForgottenRuns}
use Rattle.table_text.specs.Tables.{forgotten, runner}
use Rattle.table_text.specs.inner.Writing.{KeptHasBytes, RunHasBytes}
use Rattle.table_text.proofs.TableKnown.{AreTaken, runners_have_bytes, runs_have_bytes, table_takes}
use Rattle.encoding_laws.proofs.tables.table_fits.Goals as goal

pub all_fit-requires : goal.all_fit-requires
all_fit-requires c =
    subst (AllByRecursion RunHasBytes) (sym c.runs-runs.ensures.runs) (runs_have_bytes c.args.value.now.runs c.runs-runs.ensures.storable)

pub all_fit-requires-2 : goal.all_fit-requires-2
all_fit-requires-2 c =
    subst (AllByRecursion (λ (r : RunnerState). KeptHasBytes r.last)) (sym c.runners-runners.ensures.runners)
    (runners_have_bytes c.args.value.now c.last_lease.ensures.sound
    (subst AreTaken c.runs-runs.ensures.runs c.all_fit.ensures))

pub returns-clause-takes : goal.returns-clause-takes
returns-clause-takes c =
    table_takes c.args.value.now (subst (λ (n : ℕ). n ≤ 999999999) c.last_lease.ensures.lease c.last_lease.ensures.most)
    (subst (λ (g : ForgottenRuns). forgotten.Takes g) c.forgotten.ensures.forgotten c.forgotten_fits.ensures)
    c.runs-runs.ensures.storable.few_runs
    (subst AreTaken c.runs-runs.ensures.runs c.all_fit.ensures) c.requires
    (subst (AllByRecursion (λ (r : RunnerState). runner.Takes (stored_runner r))) c.runners-runners.ensures.runners
    c.all_fit-2.ensures) c.runners-runners.ensures.rise
