use Rattle.gated_journal.proofs.TwoAreas.{shut_beside}
use Rattle.gated_journal.proofs.laws.the_only_open_area_is_active.Goals as goal

pub returns : goal.returns
returns c = λ len side disk head bodies. shut_beside len side head bodies disk disk
