use Rattle.std.proofs.Common.{◌≡◌, ◌+◌, length, ap, refl, arith}
use Rattle.std.specs.Prelude.{string_bytes}
use Rattle.covered_log.specs.KeptState.{with_text}
use Rattle.covered_log.specs.Lines.{Entered, line_of}
use Rattle.covered_log.specs.LogState.{LogState}
use Rattle.covered_log.proofs.LogLemmas.{entries_of-few, log_keeps, log_loses, of_given}
use Rattle.covered_log.proofs.log.CoveredLog.enter.Goals as goal

pub overflow_add-self : goal.overflow_add-self
overflow_add-self c =
    let count : length c.self.inside.told ≡ length c.args.self.now.changes = ap (λ (s : LogState). length s.changes) c.self.view_is in
    omega (arith, count, c.requires, c.self.invariant.counted, entries_of-few c.self.inside.told)

pub invariant_of-self : goal.invariant_of-self
invariant_of-self c =
    rw (c.in_err-keep.ensures.err, c.enter.ensures)
    (log_loses c.self.inside.kept c.self.inside.entries (c.self.inside.entries + 1) c.self.inside.told
    (Entered c.args.at c.args.command.now c.args.reply.now) c.self.invariant refl)

pub invariant_of-self-2 : goal.invariant_of-self-2
invariant_of-self-2 c =
    let kept : c.keep.new.self ≡ with_text c.self.inside.kept (line_of c.self.inside.entries (Entered c.args.at c.args.command.now c.args.reply.now)) =
    of_given string_bytes (λ text. c.keep.new.self ≡ with_text c.self.inside.kept text) c.entry_line-line.result
    (line_of c.self.inside.entries (Entered c.args.at c.args.command.now c.args.reply.now)) c.entry_line-line.ensures c.in_ok-keep.ensures.ok in
    rw (kept, c.enter.ensures)
    (log_keeps c.self.inside.kept c.self.inside.entries (c.self.inside.entries + 1) c.self.inside.told
    (Entered c.args.at c.args.command.now c.args.reply.now) c.self.invariant refl)
