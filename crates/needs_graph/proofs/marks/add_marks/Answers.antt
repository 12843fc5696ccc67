use Rattle.std.proofs.Common.{◌≡◌, ◌<◌, ◌∙◌, length, sym, arith}
use Rattle.needs_graph.proofs.MarkSteps.{either_none, either_all, added_more}
use Rattle.needs_graph.proofs.marks.add_marks.Goals as goal

pub loop-i-init : goal.loop-i-init
loop-i-init c = sym (either_none c.args.marks.now)

pub loop-i-preserved : goal.loop-i-preserved
loop-i-preserved c =
    let same : length c.loop-i.marks ≡ length c.args.marks.now = omega arith in
    let in_marks : c.loop-i.i < length c.args.marks.now = omega arith in
    let in_others : c.loop-i.i < length c.args.others.now = omega arith in
    added_more c.args.marks.now c.args.others.now c.loop-i.marks c.loop-i.i c.loop-i.invariant in_marks in_others

pub returns : goal.returns
returns c = c.loop-i.invariant ∙ either_all c.args.marks.now c.args.others.now c.loop-i.i (omega arith)
