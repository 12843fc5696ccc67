use Rattle.gated_journal.proofs.CutOff.{nothing_read}
use Rattle.gated_journal.proofs.laws.an_area_that_is_cut_off_reads_as_nothing.Goals as goal

pub returns : goal.returns
returns c = nothing_read
