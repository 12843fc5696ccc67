use Rattle.std.proofs.Common.{Ok, ap, inl, inr, arith}
use Rattle.std.proofs.lemmas.List.{take_rest}
use Rattle.matrix_expand.proofs.Merging.{joined_end}
use Rattle.matrix_expand.proofs.entry.merge.Goals as goal
use Rattle.matrix_expand.proofs.entry.merge.Goals.{then-loop-i-test+else-j-right, else-loop-i-test}

pub returns : goal.returns
returns c =
    ap Ok (joined_end c.args.left.now c.args.right.now c.loop-i.entries.items c.push_all.new.entries.items c.push_all-2.new.entries.items _
    _ c.loop-i.i c.loop-i.j
    (elim c.loop-i-test.branch [ then-loop-i-test+else-j-right w ↦ inr (omega arith) | else-loop-i-test w ↦ inl (omega arith) ])
    c.loop-i.invariant.all (take_rest c.args.left.now c.loop-i.i) (take_rest c.args.right.now c.loop-i.j) c.in_ok-push_all.ensures
    c.in_ok-push_all-2.ensures)
