use Rattle.std.proofs.Common.{◌-◌, ◌<◌, arith, length}
use Rattle.client_loop.specs.Clients.{SlotJoins, SlotState, wire_of}
use Rattle.client_loop.specs.Conversation.{Conversation}
use Rattle.client_loop.proofs.PortSlots.{HasStatus, at_hook, at_runner, has_status, changes_hook, changes_runner, runner_below, same_hook, same_runner}
use Rattle.client_loop.proofs.slots.Slots.join.Goals as goal

pub returns-then-index-len-clause-joined : goal.returns-then-index-len-clause-joined
returns-then-index-len-clause-joined g c = λ so.
    let s = c.self.inside in
    let below : c.args.index < length s.hooks.items = omega (arith, c.if-index-len.true, c.len.ensures) in
    changes_hook (λ (follows : Conversation → Type 0) (was now : SlotState). SlotJoins (wire_of g.S.Stream.remaining g.S.Stream.contents c.args.stream) was now)
    g.P.Protocol.rules g.Q.Protocol.rules c.args.index s.hooks.items s.runners.items c.join.new.self c.args.self.now c.self.view_is below c.index_mut.result.now c.index_mut.ensures.value
    (c.join.ensures.joined so)

pub returns-then-index-len-clause-taken : goal.returns-then-index-len-clause-taken
returns-then-index-len-clause-taken g c = λ so.
    let s = c.self.inside in (
      at_hook HasStatus s.hooks.items s.runners.items c.args.self.now c.self.view_is c.args.index (omega (arith, c.if-index-len.true, c.len.ensures)) c.index_mut.result.now c.index_mut.ensures.value (has_status _ (c.join.ensures.taken so).0),
      same_hook s.hooks.items s.runners.items c.args.self.now c.self.view_is c.args.index (omega (arith, c.if-index-len.true, c.len.ensures)) c.index_mut.result.now c.join.new.self c.index_mut.ensures.value (c.join.ensures.taken so).1,
    )

pub returns-else-index-len-clause-joined : goal.returns-else-index-len-clause-joined
returns-else-index-len-clause-joined g c = λ so.
    let s = c.self.inside in
    changes_runner (λ (follows : Conversation → Type 0) (was now : SlotState). SlotJoins (wire_of g.S.Stream.remaining g.S.Stream.contents c.args.stream) was now)
    g.P.Protocol.rules g.Q.Protocol.rules c.args.index s.hooks.items s.runners.items c.join-else-index-len.new.self c.args.self.now c.self.view_is c.requires c.len-else-index-len.result (omega (arith, c.len-else-index-len.ensures)) (omega (arith, c.if-index-len.false, c.len.ensures, c.len-else-index-len.ensures)) c.index_mut-else-index-len.result.now c.index_mut-else-index-len.ensures.value
    (c.join-else-index-len.ensures.joined so)

pub returns-else-index-len-clause-taken : goal.returns-else-index-len-clause-taken
returns-else-index-len-clause-taken g c = λ so.
    let s = c.self.inside in (
      at_runner HasStatus s.hooks.items s.runners.items c.args.self.now c.self.view_is c.args.index c.requires c.len-else-index-len.result (omega (arith, c.len-else-index-len.ensures)) (omega (arith, c.if-index-len.false, c.len.ensures, c.len-else-index-len.ensures)) c.index_mut-else-index-len.result.now c.index_mut-else-index-len.ensures.value (has_status _ (c.join-else-index-len.ensures.taken so).0),
      same_runner s.hooks.items s.runners.items c.args.self.now c.self.view_is (c.args.index - c.len-else-index-len.result) (runner_below s.hooks.items s.runners.items c.args.self.now c.self.view_is c.args.index c.requires c.len-else-index-len.result (omega (arith, c.len-else-index-len.ensures)) (omega (arith, c.if-index-len.false, c.len.ensures, c.len-else-index-len.ensures))) c.index_mut-else-index-len.result.now c.join-else-index-len.new.self c.index_mut-else-index-len.ensures.value (c.join-else-index-len.ensures.taken so).1,
    )
