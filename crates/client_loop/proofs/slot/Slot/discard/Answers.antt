use Rattle.std.proofs.Common.{◌≡◌, ◌∙◌, Bool, List, ap, subst, sym}
use Rattle.std.specs.Prelude.{IfSome, Option, Some, map}
use Rattle.client_loop.specs.Clients.{ClientState, IsDrained, SlotState, with_client}
use Rattle.client_loop.proofs.PortSlots.{none_then, some_then}
use Rattle.client_loop.proofs.slot.Slot.discard.Goals as goal

pub returns-clause-discarded : goal.returns-clause-discarded
returns-clause-discarded g c =
    let earlier : List ClientState = map (λ (x : ClientState × Bool). x.0) c.self.inside.earlier.items in
    let client : ClientState = c.in-Some.client in
    let here : c.args.self.now.client ≡ Some client = ap (λ (s : SlotState). s.client) (sym c.self.view_is) ∙ c.in-Some.is in
    some_then c.discard.result _ _ (λ n discarded. (client, c.discard.new.self, here, ap (λ (s : SlotState). with_client s c.discard.new.self) c.self.view_is, discarded)) c.discard.ensures.discarded

pub returns-clause-none : goal.returns-clause-none
returns-clause-none g c =
    let earlier : List ClientState = map (λ (x : ClientState × Bool). x.0) c.self.inside.earlier.items in
    let client : ClientState = c.in-Some.client in
    let here : c.args.self.now.client ≡ Some client = ap (λ (s : SlotState). s.client) (sym c.self.view_is) ∙ c.in-Some.is in
    none_then c.discard.result _ _ (λ same. ap (λ (o : Option ClientState). record { earlier = earlier; client = o }) (ap (λ (x : ClientState). Some x) same ∙ sym c.in-Some.is) ∙ c.self.view_is) c.discard.ensures.none

pub returns-clause-silent : goal.returns-clause-silent
returns-clause-silent g c =
    let client : ClientState = c.in-Some.client in
    let here : c.args.self.now.client ≡ Some client = ap (λ (s : SlotState). s.client) (sym c.self.view_is) ∙ c.in-Some.is in
    none_then c.discard.result _ _ (λ so. subst (λ (o : Option ClientState). IfSome o IsDrained) (sym here) (λ _. so)) c.discard.ensures.silent
