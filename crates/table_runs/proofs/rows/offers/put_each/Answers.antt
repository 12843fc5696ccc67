use Rattle.std.proofs.Common.{arith}
use Rattle.std.proofs.lemmas.Option.{slice_get_within}
use Rattle.table_bindings.proofs.LabelNumbers.{one_more_put, puts_more}
use Rattle.table_runs.proofs.rows.offers.put_each.Goals as goal

pub put-requires : goal.put-requires
put-requires c =
    let number = c.number_at-number.result in
    c.loop-l.invariant.1.places number c.args.r (c.requires c.loop-l.l number c.number_at-number.ensures)

pub loop-l-preserved : goal.loop-l-preserved
loop-l-preserved c =
    let numbers = c.args.numbers.now in
    let r = c.args.r in
    let to = c.args.to in
    let old = c.loop-l.lists in
    let new = c.put.new.lists in (
      one_more_put r to old new c.put.ensures.others numbers c.loop-l.l c.number_at-number.result c.number_at-number.ensures
          c.put.ensures.itself c.loop-l.invariant.0,
      puts_more r to c.args.lists.now old new c.loop-l.invariant.1 c.put.ensures.others,
    )

pub returns-clause-all : goal.returns-clause-all
returns-clause-all c = λ l n at. c.loop-l.invariant.0 l n (omega (arith, slice_get_within c.args.numbers.now l n at)) at
