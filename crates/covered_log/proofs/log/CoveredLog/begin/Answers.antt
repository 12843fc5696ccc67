use Rattle.std.proofs.Common.{◌≡◌, arith}
use Rattle.std.specs.Prelude.{string_bytes}
use Rattle.covered_log.specs.KeptState.{with_text}
use Rattle.covered_log.specs.Lines.{Begins, line_of}
use Rattle.covered_log.proofs.LogLemmas.{log_keeps, log_loses, of_given}
use Rattle.covered_log.proofs.log.CoveredLog.begin.Goals as goal

pub invariant_of-self : goal.invariant_of-self
invariant_of-self c =
    rw (c.in_err-keep.ensures.err, c.begin.ensures)
    (log_loses c.self.inside.kept c.self.inside.entries c.self.inside.entries c.self.inside.told
    (Begins c.args.at c.args.table.now c.args.view.now) c.self.invariant (omega arith))

pub invariant_of-self-2 : goal.invariant_of-self-2
invariant_of-self-2 c =
    let kept : c.keep.new.self ≡ with_text c.self.inside.kept (line_of c.self.inside.entries (Begins c.args.at c.args.table.now c.args.view.now)) =
    of_given string_bytes (λ text. c.keep.new.self ≡ with_text c.self.inside.kept text) c.attempt_line-line.result
    (line_of c.self.inside.entries (Begins c.args.at c.args.table.now c.args.view.now)) c.attempt_line-line.ensures c.in_ok-keep.ensures.ok in
    rw (kept, c.begin.ensures)
    (log_keeps c.self.inside.kept c.self.inside.entries c.self.inside.entries c.self.inside.told
    (Begins c.args.at c.args.table.now c.args.view.now) c.self.invariant (omega arith))
