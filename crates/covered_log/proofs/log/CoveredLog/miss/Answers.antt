use Rattle.std.proofs.Common.{arith}
use Rattle.covered_log.specs.Lines.{Missed}
use Rattle.covered_log.proofs.LogLemmas.{log_loses}
use Rattle.covered_log.proofs.log.CoveredLog.miss.Goals as goal

pub invariant_of-self : goal.invariant_of-self
invariant_of-self c =
    rw (c.lose.ensures, c.miss.ensures)
    (log_loses c.self.inside.kept c.self.inside.entries c.self.inside.entries c.self.inside.told Missed c.self.invariant (omega arith))
