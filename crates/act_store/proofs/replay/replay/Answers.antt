use Rattle.std.proofs.Common.{rules, subst}
use Rattle.std.specs.Prelude.{Option}
use Rattle.table_model.specs.TableState.{TableState}
use Rattle.act_store.specs.inner.Replayed.{IsCarried}
use Rattle.act_store.proofs.Replaying.{at_broken, at_end, one_more}
use Rattle.act_store.proofs.replay.replay.Goals as goal

pub returns-in-None-clause-replayed : goal.returns-in-None-clause-replayed
returns-in-None-clause-replayed c =
    let l = c.loop-body in
    let body = c.in-Some.body.now in
    at_broken c.args.layout c.args.records.now l.rest.now c.args.first l.table l.invariant body c.in-Some.suffix.now c.in-Some.ensures.some
    (subst (λ (o : Option TableState). IsCarried c.args.layout body l.table o) c.in-None.is c.in_ok-next.ensures.carried)

pub returns-clause-replayed : goal.returns-clause-replayed
returns-clause-replayed c =
    let l = c.loop-body in
    at_end c.args.layout c.args.records.now l.rest.now c.args.first l.table l.invariant (c.record_at.ensures.none (search rules))

pub loop-body-preserved : goal.loop-body-preserved
loop-body-preserved c =
    let l = c.loop-body in
    let body = c.in-Some.body.now in
    one_more c.args.layout c.args.records.now l.rest.now c.args.first l.table l.invariant body c.in-Some.suffix.now c.in-Some-2.next
    c.in-Some.ensures.some (subst (λ (o : Option TableState). IsCarried c.args.layout body l.table o) c.in-Some-2.is c.in_ok-next.ensures.carried)
