use Rattle.std.proofs.Common.{◌<◌, arith, length}
use Rattle.client_loop.specs.Clients.{SlotLeaves, SlotState}
use Rattle.client_loop.specs.Conversation.{Conversation}
use Rattle.client_loop.proofs.PortSlots.{changes_hook, changes_runner}
use Rattle.client_loop.proofs.slots.Slots.leave.Goals as goal

pub returns-then-index-len : goal.returns-then-index-len
returns-then-index-len g c =
    let s = c.self.inside in
    let below : c.args.index < length s.hooks.items = omega (arith, c.if-index-len.true, c.len.ensures) in
    changes_hook (λ (follows : Conversation → Type 0) (was now : SlotState). SlotLeaves was now)
    g.P.Protocol.rules g.Q.Protocol.rules c.args.index s.hooks.items s.runners.items c.leave.new.self c.args.self.now c.self.view_is below c.index_mut.result.now c.index_mut.ensures.value
    c.leave.ensures

pub returns-else-index-len : goal.returns-else-index-len
returns-else-index-len g c =
    let s = c.self.inside in
    changes_runner (λ (follows : Conversation → Type 0) (was now : SlotState). SlotLeaves was now)
    g.P.Protocol.rules g.Q.Protocol.rules c.args.index s.hooks.items s.runners.items c.leave-else-index-len.new.self c.args.self.now c.self.view_is c.requires c.len-else-index-len.result (omega (arith, c.len-else-index-len.ensures)) (omega (arith, c.if-index-len.false, c.len.ensures, c.len-else-index-len.ensures)) c.index_mut-else-index-len.result.now c.index_mut-else-index-len.ensures.value
    c.leave-else-index-len.ensures
