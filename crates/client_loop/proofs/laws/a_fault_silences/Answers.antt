use Rattle.client_loop.specs.Slots.{by_port}
use Rattle.client_loop.proofs.Happening.{silent_on, stuck_on, stuck_silent}
use Rattle.client_loop.proofs.laws.a_fault_silences.Goals as goal

pub returns-clause-enters_nothing : goal.returns-clause-enters_nothing
returns-clause-enters_nothing g c = λ hooks old new next failed happens.
    let silent = silent_on (by_port hooks g.P.Protocol.rules g.Q.Protocol.rules) old new next failed happens in (silent.failed, silent.history)

pub returns-clause-stays : goal.returns-clause-stays
returns-clause-stays g c = λ hooks index old new next stuck happens.
    stuck_on (by_port hooks g.P.Protocol.rules g.Q.Protocol.rules) index old new next stuck happens

pub returns-clause-silent : goal.returns-clause-silent
returns-clause-silent g c = λ hooks index old new stuck happens.
    stuck_silent (by_port hooks g.P.Protocol.rules g.Q.Protocol.rules) index old new stuck happens
