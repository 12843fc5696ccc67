use Rattle.gated_journal.proofs.TwoAreas.{put_keeps}
use Rattle.gated_journal.proofs.laws.a_put_changes_no_choice.Goals as goal

pub returns : goal.returns
returns c = λ len at count side old new head bodies. put_keeps len side head bodies old new at count
