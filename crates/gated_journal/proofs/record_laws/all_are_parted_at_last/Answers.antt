use Rattle.gated_journal.proofs.Parting.{all_parted}
use Rattle.gated_journal.proofs.record_laws.all_are_parted_at_last.Goals as goal

pub returns : goal.returns
returns c = all_parted
