use Rattle.std.proofs.Common.{subst}
use Rattle.label_lists.specs.inner.Known.{KnownState, HasEachOnce}
use Rattle.label_lists.proofs.SameLabels.{each_once}
use Rattle.label_lists.proofs.known_lists.KnownLists.len.Goals as goal

pub returns-clause-once : goal.returns-clause-once
returns-clause-once c = subst (λ (k : KnownState). HasEachOnce k.lists) c.self.view_is (each_once c.self.inside.lists.keys c.len.ensures.unique)
