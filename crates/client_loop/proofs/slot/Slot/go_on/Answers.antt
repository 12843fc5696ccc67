use Rattle.std.proofs.Common.{◌≡◌, ◌∙◌, Bool, List, ap, sym}
use Rattle.std.specs.Prelude.{Some, map}
use Rattle.client_loop.specs.Clients.{ClientState, SlotState, with_client}
use Rattle.client_loop.proofs.slot.Slot.go_on.Goals as goal

pub returns-clause-heard : goal.returns-clause-heard
returns-clause-heard g c = λ so.
    let earlier : List ClientState = map (λ (x : ClientState × Bool). x.0) c.self.inside.earlier.items in
    let client : ClientState = c.in-Some.client in
    let here : c.args.self.now.client ≡ Some client = ap (λ (s : SlotState). s.client) (sym c.self.view_is) ∙ c.in-Some.is in
    (client, c.go_on.new.self, here, ap (λ (s : SlotState). with_client s c.go_on.new.self) c.self.view_is, c.go_on.ensures)
