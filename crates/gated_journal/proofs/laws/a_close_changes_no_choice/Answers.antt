use Rattle.gated_journal.proofs.TwoAreas.{close_keeps}
use Rattle.gated_journal.proofs.laws.a_close_changes_no_choice.Goals as goal

pub returns : goal.returns
returns c = λ len side old new head bodies. close_keeps len side head bodies old new
