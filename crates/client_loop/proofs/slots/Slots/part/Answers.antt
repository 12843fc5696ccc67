use Rattle.std.proofs.Common.{◌-◌, ℕ, List, arith}
use Rattle.client_loop.specs.Clients.{OwesNothing, SlotParts, SlotState}
use Rattle.client_loop.specs.Conversation.{Conversation}
use Rattle.client_loop.proofs.PortSlots.{client_hook, client_runner, runner_below, same_hook, same_runner, with_hook, with_runner}
use Rattle.client_loop.proofs.slots.Slots.part.Goals as goal

pub returns-then-index-len-clause-parted : goal.returns-then-index-len-clause-parted
returns-then-index-len-clause-parted g c = λ so.
    let s = c.self.inside in
    with_hook (λ (bytes : List ℕ) (follows : Conversation → Type 0) (was now : SlotState). SlotParts follows bytes was now)
    g.P.Protocol.rules g.Q.Protocol.rules c.args.index s.hooks.items s.runners.items c.part.new.self c.args.self.now c.self.view_is (omega (arith, c.if-index-len.true, c.len.ensures)) c.index_mut.result.now c.index_mut.ensures.value
    (c.part.ensures.parted so)

pub returns-else-index-len-clause-parted : goal.returns-else-index-len-clause-parted
returns-else-index-len-clause-parted g c = λ so.
    let s = c.self.inside in
    with_runner (λ (bytes : List ℕ) (follows : Conversation → Type 0) (was now : SlotState). SlotParts follows bytes was now)
    g.P.Protocol.rules g.Q.Protocol.rules c.args.index s.hooks.items s.runners.items c.part-else-index-len.new.self c.args.self.now c.self.view_is c.requires c.len-else-index-len.result (omega (arith, c.len-else-index-len.ensures)) (omega (arith, c.if-index-len.false, c.len.ensures, c.len-else-index-len.ensures)) c.index_mut-else-index-len.result.now c.index_mut-else-index-len.ensures.value
    (c.part-else-index-len.ensures.parted so)

pub returns-then-index-len-clause-same : goal.returns-then-index-len-clause-same
returns-then-index-len-clause-same g c = λ so.
    let s = c.self.inside in
    same_hook s.hooks.items s.runners.items c.args.self.now c.self.view_is c.args.index (omega (arith, c.if-index-len.true, c.len.ensures)) c.index_mut.result.now c.part.new.self c.index_mut.ensures.value (c.part.ensures.same so)

pub returns-else-index-len-clause-same : goal.returns-else-index-len-clause-same
returns-else-index-len-clause-same g c = λ so.
    let s = c.self.inside in
    same_runner s.hooks.items s.runners.items c.args.self.now c.self.view_is (c.args.index - c.len-else-index-len.result) (runner_below s.hooks.items s.runners.items c.args.self.now c.self.view_is c.args.index c.requires c.len-else-index-len.result (omega (arith, c.len-else-index-len.ensures)) (omega (arith, c.if-index-len.false, c.len.ensures, c.len-else-index-len.ensures))) c.index_mut-else-index-len.result.now c.part-else-index-len.new.self c.index_mut-else-index-len.ensures.value (c.part-else-index-len.ensures.same so)

pub returns-then-index-len-clause-owes : goal.returns-then-index-len-clause-owes
returns-then-index-len-clause-owes g c = λ so.
    let s = c.self.inside in
    client_hook OwesNothing s.hooks.items s.runners.items c.args.self.now c.self.view_is c.args.index (omega (arith, c.if-index-len.true, c.len.ensures)) c.index_mut.result.now c.index_mut.ensures.value
    (c.part.ensures.owes so)

pub returns-else-index-len-clause-owes : goal.returns-else-index-len-clause-owes
returns-else-index-len-clause-owes g c = λ so.
    let s = c.self.inside in
    client_runner OwesNothing s.hooks.items s.runners.items c.args.self.now c.self.view_is c.args.index c.requires c.len-else-index-len.result (omega (arith, c.len-else-index-len.ensures)) (omega (arith, c.if-index-len.false, c.len.ensures, c.len-else-index-len.ensures)) c.index_mut-else-index-len.result.now c.index_mut-else-index-len.ensures.value
    (c.part-else-index-len.ensures.owes so)
