use Rattle.label_lists.proofs.SameLabels.{told}
use Rattle.label_lists.proofs.label_list.LabelListPartialEq.eq.Goals as goal

pub returns : goal.returns
returns c = rw (← c.self.view_is, ← c.other.view_is) (told c.same.result c.self.inside.labels c.other.inside.labels c.same.ensures)
