use Rattle.std.proofs.Common.{◌<◌, length, ap, sym, ◌∙◌, Ok, arith}
use Rattle.needs_graph.proofs.OwnIds.{more_own, more_other, all_own}
use Rattle.needs_graph.proofs.graph.own_ids.Goals as goal
use Rattle.needs_graph.proofs.graph.own_ids.Goals.{then-contains+in_ok-copy+in_ok-push, else-contains}

pub loop-index-preserved : goal.loop-index-preserved
loop-index-preserved c =
    let jobs = c.args.jobs.now in
    let rows = c.args.reached.now in
    let index = c.loop-index.index in
    let in_jobs : index < length jobs = omega arith in
    let in_rows : index < length rows = omega arith in
    elim c.if-contains.branch [
      | then-contains+in_ok-copy+in_ok-push w ↦
          let e = more_own jobs rows index c.index-jobs-index.result c.index-reached-index.result in_jobs in_rows c.index-jobs-index.is
          c.index-reached-index.is (cc) in
          cc (w.in_ok-push.ensures.items, w.in_ok-copy.ensures.gives, c.loop-index.invariant)
      | else-contains w ↦
          let e = more_other jobs rows index c.index-jobs-index.result c.index-reached-index.result in_jobs in_rows c.index-jobs-index.is
          c.index-reached-index.is (cc) in
          cc (c.loop-index.invariant)
    ]

pub returns : goal.returns
returns c = ap Ok (sym (all_own c.args.jobs.now c.args.reached.now c.loop-index.index (omega arith)) ∙ sym c.loop-index.invariant)
