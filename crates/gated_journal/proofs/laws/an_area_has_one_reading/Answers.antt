use Rattle.gated_journal.proofs.OneReading.{one_reading}
use Rattle.gated_journal.proofs.laws.an_area_has_one_reading.Goals as goal

pub returns : goal.returns
returns c = one_reading
