use Rattle.std.proofs.Common.{◌∙◌, arith, rules}
use Rattle.client_loop.proofs.PendingPart.{next_part, none_pending, some_pending}
use Rattle.client_loop.proofs.sending.none_pending.Goals as goal

pub returns-then-is_under : goal.returns-then-is_under
returns-then-is_under g c =
    let s = c.args.store.now in
    some_pending c.args.number s.covered c.loop-position.position s.history c.is_under.result c.loop-position.invariant c.is_under.ensures (search rules)

pub loop-position-preserved : goal.loop-position-preserved
loop-position-preserved g c =
    let s = c.args.store.now in
    c.loop-position.invariant ∙ next_part c.args.number c.loop-position.position s.history c.is_under.result c.is_under.ensures (search rules)

pub returns : goal.returns
returns g c =
    let s = c.args.store.now in
    none_pending c.args.number s.covered c.loop-position.position s.history c.loop-position.invariant (search (rules, arith))
