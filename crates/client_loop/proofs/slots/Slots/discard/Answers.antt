use Rattle.std.proofs.Common.{◌-◌, ℕ, arith}
use Rattle.client_loop.specs.Clients.{IsDrained, SlotDiscards, SlotState}
use Rattle.client_loop.specs.Conversation.{Conversation}
use Rattle.client_loop.proofs.PortSlots.{client_hook, client_runner, none_then, runner_below, same_hook, same_runner, some_hook, some_runner}
use Rattle.client_loop.proofs.slots.Slots.discard.Goals as goal

pub returns-then-index-len-clause-discarded : goal.returns-then-index-len-clause-discarded
returns-then-index-len-clause-discarded g c =
    let s = c.self.inside in
    some_hook (λ (n : ℕ) (follows : Conversation → Type 0) (was now : SlotState). SlotDiscards was now)
    g.P.Protocol.rules g.Q.Protocol.rules c.args.index s.hooks.items s.runners.items c.discard.new.self c.args.self.now c.self.view_is (omega (arith, c.if-index-len.true, c.len.ensures)) c.index_mut.result.now c.index_mut.ensures.value
    c.discard.result c.discard.ensures.discarded

pub returns-else-index-len-clause-discarded : goal.returns-else-index-len-clause-discarded
returns-else-index-len-clause-discarded g c =
    let s = c.self.inside in
    some_runner (λ (n : ℕ) (follows : Conversation → Type 0) (was now : SlotState). SlotDiscards was now)
    g.P.Protocol.rules g.Q.Protocol.rules c.args.index s.hooks.items s.runners.items c.discard-else-index-len.new.self c.args.self.now c.self.view_is c.requires c.len-else-index-len.result (omega (arith, c.len-else-index-len.ensures)) (omega (arith, c.if-index-len.false, c.len.ensures, c.len-else-index-len.ensures)) c.index_mut-else-index-len.result.now c.index_mut-else-index-len.ensures.value
    c.discard-else-index-len.result c.discard-else-index-len.ensures.discarded

pub returns-then-index-len-clause-none : goal.returns-then-index-len-clause-none
returns-then-index-len-clause-none g c =
    let s = c.self.inside in
    none_then c.discard.result _ _ (λ so. same_hook s.hooks.items s.runners.items c.args.self.now c.self.view_is c.args.index (omega (arith, c.if-index-len.true, c.len.ensures)) c.index_mut.result.now c.discard.new.self c.index_mut.ensures.value so)
    c.discard.ensures.none

pub returns-else-index-len-clause-none : goal.returns-else-index-len-clause-none
returns-else-index-len-clause-none g c =
    let s = c.self.inside in
    none_then c.discard-else-index-len.result _ _ (λ so. same_runner s.hooks.items s.runners.items c.args.self.now c.self.view_is (c.args.index - c.len-else-index-len.result) (runner_below s.hooks.items s.runners.items c.args.self.now c.self.view_is c.args.index c.requires c.len-else-index-len.result (omega (arith, c.len-else-index-len.ensures)) (omega (arith, c.if-index-len.false, c.len.ensures, c.len-else-index-len.ensures))) c.index_mut-else-index-len.result.now c.discard-else-index-len.new.self c.index_mut-else-index-len.ensures.value so)
    c.discard-else-index-len.ensures.none

pub returns-then-index-len-clause-silent : goal.returns-then-index-len-clause-silent
returns-then-index-len-clause-silent g c =
    let s = c.self.inside in
    none_then c.discard.result _ _ (client_hook IsDrained s.hooks.items s.runners.items c.args.self.now c.self.view_is c.args.index (omega (arith, c.if-index-len.true, c.len.ensures)) c.index_mut.result.now c.index_mut.ensures.value)
    c.discard.ensures.silent

pub returns-else-index-len-clause-silent : goal.returns-else-index-len-clause-silent
returns-else-index-len-clause-silent g c =
    let s = c.self.inside in
    none_then c.discard-else-index-len.result _ _ (client_runner IsDrained s.hooks.items s.runners.items c.args.self.now c.self.view_is c.args.index c.requires c.len-else-index-len.result (omega (arith, c.len-else-index-len.ensures)) (omega (arith, c.if-index-len.false, c.len.ensures, c.len-else-index-len.ensures)) c.index_mut-else-index-len.result.now c.index_mut-else-index-len.ensures.value)
    c.discard-else-index-len.ensures.silent
