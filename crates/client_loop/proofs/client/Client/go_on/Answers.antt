use Rattle.std.proofs.Common.{◌≡◌, ◌∙◌, [], ap, false, refl, subst}
use Rattle.client_loop.specs.Clients.{ClientHears, ClientState, wire_of}
use Rattle.client_loop.specs.Conversation.{Follows}
use Rattle.std.proofs.KnownBytes.{Consumes-nil}
use Rattle.client_loop.proofs.client.Client.go_on.Goals as goal

pub returns : goal.returns
returns g c =
    let f = c.self.inside in
    let remaining = g.S.Stream.remaining in
    let contents = g.S.Stream.contents in
    let s : ClientState = record { now = f.session; released = f.released.value; wire = wire_of remaining contents f.stream; began = wire_of remaining contents f.began.value } in
    let live : f.session.over ≡ false = ap (λ (o : ClientState). o.now.over) c.self.view_is ∙ c.requires in
    let new : ClientState = record s { now = c.hear.new.self } in
    subst (λ (o : ClientState). ClientHears (Follows g.P.Protocol.rules) c.args.number [] c.args.store.now c.hear.new.store o new) c.self.view_is (record {
      live = live;
      now = c.hear.new.self;
      wire = s.wire;
      read = Consumes-nil s.wire.remaining;
      kept = refl;
      is = refl;
      hears = c.hear.ensures.heard live;
      follows_is = c.hear.ensures.follows;
    })
