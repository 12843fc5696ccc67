use Rattle.gated_journal.proofs.ClosedGate.{same_reading}
use Rattle.gated_journal.proofs.laws.nothing_counts_after_a_closed_gate.Goals as goal

pub returns : goal.returns
returns c = same_reading
