use Rattle.std.proofs.Common.{refl, length}
use Rattle.gated_journal.specs.Appends.{record_of}
use Rattle.definitions.specs.Area.{opened}
use Rattle.gated_journal.proofs.TwoAreas.{append_keeps}
use Rattle.gated_journal.proofs.laws.an_append_changes_no_choice.Goals as goal

pub returns : goal.returns
returns c = λ len side gate old new head bodies body recovers short inside.
    append_keeps len side head bodies old new gate (length (opened head bodies)) (record_of body) body recovers refl refl short inside
