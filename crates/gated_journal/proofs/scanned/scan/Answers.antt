use Rattle.std.proofs.Common.{rules, inl, inr}
use Rattle.gated_journal.specs.ScannedHead.{head_of}
use Rattle.gated_journal.proofs.CutOff.{cut_off}
use Rattle.gated_journal.proofs.Scans.{nothing_without_prefix, nothing_without_end}
use Rattle.gated_journal.proofs.scanned.scan.Goals as goal

pub returns-in_err-head-clause-none : goal.returns-in_err-head-clause-none
returns-in_err-head-clause-none c = λ _. nothing_without_prefix c.args.area.now (c.in_err-head.ensures.none (search rules))

pub returns-in_err-end-clause-none : goal.returns-in_err-end-clause-none
returns-in_err-end-clause-none c = λ _.
    nothing_without_end c.args.area.now (head_of c.in_ok-head.head) c.in_ok-head.suffix.now c.in_ok-head.ensures.some
    (c.in_err-end.ensures.none (search rules))

pub returns-in_err-head-clause-cut : goal.returns-in_err-head-clause-cut
returns-in_err-head-clause-cut c = λ _. inl (c.in_err-head.ensures.cut (search rules))

pub returns-in_err-end-clause-cut : goal.returns-in_err-end-clause-cut
returns-in_err-end-clause-cut c = λ _.
    inr (cut_off c.args.area.now (head_of c.in_ok-head.head) c.in_ok-head.suffix.now c.in_ok-head.ensures.some
    (c.in_err-end.ensures.cut (search rules)))
