use Rattle.std.proofs.Common.{sym, subst}
use Rattle.std.specs.List.{AllByRecursion}
use Rattle.table_model.specs.inner.Cells.{JobCells}
use Rattle.table_model.proofs.Found.{each_of_map}
use Rattle.command_encodings.specs.Commands.{admit}
use Rattle.table_text.specs.Tables.{job}
use Rattle.table_text.specs.inner.Writing.{JobHasBytes}
use Rattle.table_text.proofs.TableKnown.{all_seen, run_takes}
use Rattle.encoding_laws.proofs.tables.RunFits.fits.Goals as goal

pub all_fit-requires : goal.all_fit-requires
all_fit-requires c =
    each_of_map JobHasBytes (λ (j : JobCells). j.state) c.jobs.result.now
    (subst (AllByRecursion JobHasBytes) (sym c.jobs.ensures) c.requires.1)

pub returns : goal.returns
returns c =
    run_takes c.args.self.now c.requires (subst admit.Takes c.prepared.ensures c.admit_fits.ensures)
    (subst (AllByRecursion job.Takes) c.jobs.ensures
    (all_seen job.Takes (λ (j : JobCells). j.state) c.jobs.result.now c.all_fit.ensures))
