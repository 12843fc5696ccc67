use Rattle.std.proofs.Common.{◌-◌, ℕ, arith, take}
use Rattle.client_loop.specs.Clients.{IsSilent, SlotHears, SlotState}
use Rattle.client_loop.specs.Conversation.{Conversation}
use Rattle.client_loop.proofs.PortSlots.{client_hook, client_runner, none_then, runner_below, same_hook, same_runner, some_hook, some_runner}
use Rattle.client_loop.proofs.slots.Slots.hear_from.Goals as goal

pub returns-then-index-len-clause-heard : goal.returns-then-index-len-clause-heard
returns-then-index-len-clause-heard g c =
    let s = c.self.inside in
    some_hook (λ (n : ℕ) (follows : Conversation → Type 0) (was now : SlotState). SlotHears follows c.args.index (take n c.hear_from.new.buffer.items) c.args.store.now c.hear_from.new.store was now)
    g.P.Protocol.rules g.Q.Protocol.rules c.args.index s.hooks.items s.runners.items c.hear_from.new.self c.args.self.now c.self.view_is (omega (arith, c.if-index-len.true, c.len.ensures)) c.index_mut.result.now c.index_mut.ensures.value
    c.hear_from.result c.hear_from.ensures.heard

pub returns-else-index-len-clause-heard : goal.returns-else-index-len-clause-heard
returns-else-index-len-clause-heard g c =
    let s = c.self.inside in
    some_runner (λ (n : ℕ) (follows : Conversation → Type 0) (was now : SlotState). SlotHears follows c.args.index (take n c.hear_from-else-index-len.new.buffer.items) c.args.store.now c.hear_from-else-index-len.new.store was now)
    g.P.Protocol.rules g.Q.Protocol.rules c.args.index s.hooks.items s.runners.items c.hear_from-else-index-len.new.self c.args.self.now c.self.view_is c.requires c.len-else-index-len.result (omega (arith, c.len-else-index-len.ensures)) (omega (arith, c.if-index-len.false, c.len.ensures, c.len-else-index-len.ensures)) c.index_mut-else-index-len.result.now c.index_mut-else-index-len.ensures.value
    c.hear_from-else-index-len.result c.hear_from-else-index-len.ensures.heard

pub returns-then-index-len-clause-none : goal.returns-then-index-len-clause-none
returns-then-index-len-clause-none g c =
    let s = c.self.inside in
    none_then c.hear_from.result _ _ (λ so. (same_hook s.hooks.items s.runners.items c.args.self.now c.self.view_is c.args.index (omega (arith, c.if-index-len.true, c.len.ensures)) c.index_mut.result.now c.hear_from.new.self c.index_mut.ensures.value so.0, so.1))
    c.hear_from.ensures.none

pub returns-else-index-len-clause-none : goal.returns-else-index-len-clause-none
returns-else-index-len-clause-none g c =
    let s = c.self.inside in
    none_then c.hear_from-else-index-len.result _ _ (λ so. (same_runner s.hooks.items s.runners.items c.args.self.now c.self.view_is (c.args.index - c.len-else-index-len.result) (runner_below s.hooks.items s.runners.items c.args.self.now c.self.view_is c.args.index c.requires c.len-else-index-len.result (omega (arith, c.len-else-index-len.ensures)) (omega (arith, c.if-index-len.false, c.len.ensures, c.len-else-index-len.ensures))) c.index_mut-else-index-len.result.now c.hear_from-else-index-len.new.self c.index_mut-else-index-len.ensures.value so.0, so.1))
    c.hear_from-else-index-len.ensures.none

pub returns-then-index-len-clause-silent : goal.returns-then-index-len-clause-silent
returns-then-index-len-clause-silent g c =
    let s = c.self.inside in
    none_then c.hear_from.result _ _ (client_hook IsSilent s.hooks.items s.runners.items c.args.self.now c.self.view_is c.args.index (omega (arith, c.if-index-len.true, c.len.ensures)) c.index_mut.result.now c.index_mut.ensures.value)
    c.hear_from.ensures.silent

pub returns-else-index-len-clause-silent : goal.returns-else-index-len-clause-silent
returns-else-index-len-clause-silent g c =
    let s = c.self.inside in
    none_then c.hear_from-else-index-len.result _ _ (client_runner IsSilent s.hooks.items s.runners.items c.args.self.now c.self.view_is c.args.index c.requires c.len-else-index-len.result (omega (arith, c.len-else-index-len.ensures)) (omega (arith, c.if-index-len.false, c.len.ensures, c.len-else-index-len.ensures)) c.index_mut-else-index-len.result.now c.index_mut-else-index-len.ensures.value)
    c.hear_from-else-index-len.ensures.silent
