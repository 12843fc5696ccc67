use Rattle.std.proofs.Common.{IsTrue}
use Rattle.definitions.specs.Rising.{names_rise}
use Rattle.matrix_expand.specs.inner.Numbered.{axes_of}
use Rattle.matrix_expand.proofs.Legs.{names_rise-axes}
use Rattle.matrix_expand.proofs.Merging.{ok_gives}
use Rattle.matrix_expand.proofs.expansion.number_variables.Goals as goal

pub returns-else-originals-eq0-clause-in_order : goal.returns-else-originals-eq0-clause-in_order
returns-else-originals-eq0-clause-in_order c =
    ok_gives (λ v. v.items) c.axes.result (axes_of c.args.variables.now) (λ axes. IsTrue (names_rise axes)) c.axes.ensures
    (names_rise-axes c.args.variables.now c.requires.in_order)
