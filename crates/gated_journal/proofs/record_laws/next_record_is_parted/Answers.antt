use Rattle.gated_journal.proofs.Parting.{parts_more}
use Rattle.gated_journal.proofs.record_laws.next_record_is_parted.Goals as goal

pub returns : goal.returns
returns c = parts_more
