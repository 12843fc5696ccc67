use Rattle.std.proofs.Common.{sym, subst}
use Rattle.std.specs.List.{AllByRecursion}
use Rattle.table_text.specs.Tables.{leg}
use Rattle.table_text.specs.inner.Writing.{HasByte}
use Rattle.encoding_laws.proofs.Facts.{job_takes}
use Rattle.encoding_laws.proofs.tables.JobFits.fits.Goals as goal

pub all_fit-requires : goal.all_fit-requires
all_fit-requires c = subst (AllByRecursion HasByte) (sym c.legs.ensures) c.requires.1

pub returns : goal.returns
returns c = job_takes c.args.self.now.state c.requires (subst (AllByRecursion leg.Takes) c.legs.ensures c.all_fit.ensures)
