use Rattle.group_name.proofs.Folding.{text_of_string}
use Rattle.group_name.proofs.bound_group.text_by.Goals as goal

pub returns-clause-utf8 : goal.returns-clause-utf8
returns-clause-utf8 g c = text_of_string c.loop-piece.text c.new.result c.new.ensures
