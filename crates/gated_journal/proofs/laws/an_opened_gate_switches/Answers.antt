use Rattle.gated_journal.proofs.TwoAreas.{open_switches}
use Rattle.gated_journal.proofs.laws.an_opened_gate_switches.Goals as goal

pub returns : goal.returns
returns c = λ len side old new head next bodies others recovers would newer torn. open_switches len side head bodies old new next others
    recovers would newer torn
