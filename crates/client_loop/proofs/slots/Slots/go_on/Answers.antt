use Rattle.std.proofs.Common.{[], ◌-◌, arith}
use Rattle.client_loop.specs.Clients.{IsOver, SlotHears, SlotState}
use Rattle.client_loop.specs.Conversation.{Conversation}
use Rattle.client_loop.proofs.PortSlots.{client_hook, client_runner, changes_hook, changes_runner, runner_below, same_hook, same_runner}
use Rattle.client_loop.proofs.slots.Slots.go_on.Goals as goal

pub returns-then-index-len-clause-heard : goal.returns-then-index-len-clause-heard
returns-then-index-len-clause-heard g c = λ so.
    let s = c.self.inside in
    changes_hook (λ (follows : Conversation → Type 0) (was now : SlotState). SlotHears follows c.args.index [] c.args.store.now c.go_on.new.store was now)
    g.P.Protocol.rules g.Q.Protocol.rules c.args.index s.hooks.items s.runners.items c.go_on.new.self c.args.self.now c.self.view_is (omega (arith, c.if-index-len.true, c.len.ensures)) c.index_mut.result.now c.index_mut.ensures.value
    (c.go_on.ensures.heard so)

pub returns-else-index-len-clause-heard : goal.returns-else-index-len-clause-heard
returns-else-index-len-clause-heard g c = λ so.
    let s = c.self.inside in
    changes_runner (λ (follows : Conversation → Type 0) (was now : SlotState). SlotHears follows c.args.index [] c.args.store.now c.go_on-else-index-len.new.store was now)
    g.P.Protocol.rules g.Q.Protocol.rules c.args.index s.hooks.items s.runners.items c.go_on-else-index-len.new.self c.args.self.now c.self.view_is c.requires c.len-else-index-len.result (omega (arith, c.len-else-index-len.ensures)) (omega (arith, c.if-index-len.false, c.len.ensures, c.len-else-index-len.ensures)) c.index_mut-else-index-len.result.now c.index_mut-else-index-len.ensures.value
    (c.go_on-else-index-len.ensures.heard so)

pub returns-then-index-len-clause-same : goal.returns-then-index-len-clause-same
returns-then-index-len-clause-same g c = λ so.
    let s = c.self.inside in
    (same_hook s.hooks.items s.runners.items c.args.self.now c.self.view_is c.args.index (omega (arith, c.if-index-len.true, c.len.ensures)) c.index_mut.result.now c.go_on.new.self c.index_mut.ensures.value (c.go_on.ensures.same so).0, (c.go_on.ensures.same so).1)

pub returns-else-index-len-clause-same : goal.returns-else-index-len-clause-same
returns-else-index-len-clause-same g c = λ so.
    let s = c.self.inside in
    (same_runner s.hooks.items s.runners.items c.args.self.now c.self.view_is (c.args.index - c.len-else-index-len.result) (runner_below s.hooks.items s.runners.items c.args.self.now c.self.view_is c.args.index c.requires c.len-else-index-len.result (omega (arith, c.len-else-index-len.ensures)) (omega (arith, c.if-index-len.false, c.len.ensures, c.len-else-index-len.ensures))) c.index_mut-else-index-len.result.now c.go_on-else-index-len.new.self c.index_mut-else-index-len.ensures.value (c.go_on-else-index-len.ensures.same so).0, (c.go_on-else-index-len.ensures.same so).1)

pub returns-then-index-len-clause-over : goal.returns-then-index-len-clause-over
returns-then-index-len-clause-over g c = λ so.
    let s = c.self.inside in
    client_hook IsOver s.hooks.items s.runners.items c.args.self.now c.self.view_is c.args.index (omega (arith, c.if-index-len.true, c.len.ensures)) c.index_mut.result.now c.index_mut.ensures.value
    (c.go_on.ensures.over so)

pub returns-else-index-len-clause-over : goal.returns-else-index-len-clause-over
returns-else-index-len-clause-over g c = λ so.
    let s = c.self.inside in
    client_runner IsOver s.hooks.items s.runners.items c.args.self.now c.self.view_is c.args.index c.requires c.len-else-index-len.result (omega (arith, c.len-else-index-len.ensures)) (omega (arith, c.if-index-len.false, c.len.ensures, c.len-else-index-len.ensures)) c.index_mut-else-index-len.result.now c.index_mut-else-index-len.ensures.value
    (c.go_on-else-index-len.ensures.over so)
