use Rattle.std.proofs.Common.{◌≢◌, [], ap, subst, sym}
use Rattle.client_loop.specs.Clients.{ClientParts, ClientState, Wire, wire_of}
use Rattle.client_loop.specs.Conversation.{Conversation, Follows}
use Rattle.client_loop.proofs.client.Client.part.Goals as goal

pub returns : goal.returns
returns g c =
    let f = c.self.inside in
    let remaining = g.S.Stream.remaining in
    let contents = g.S.Stream.contents in
    let s : ClientState = record { now = f.session; released = f.released.value; wire = wire_of remaining contents f.stream; began = wire_of remaining contents f.began.value } in
    let w : Wire = wire_of remaining contents c.part.new.stream in
    let parts = c.part.ensures.parted in
    let new : ClientState = record s { now = c.part.new.self; wire = w } in (
      parts.0,
      subst (λ (o : ClientState). ClientParts (Follows g.P.Protocol.rules) parts.0 o new) c.self.view_is (record {
        unparted = c.part.ensures.unparted;
        some = subst (λ (o : ClientState). o.now.withheld ≢ []) (sym c.self.view_is) c.requires;
        wire = w;
        wrote = parts.2;
        kept = c.part.ensures.kept;
        is = ap (λ (x : Conversation). record s { now = x; wire = w }) parts.1;
        follows_is = subst (Follows g.P.Protocol.rules) parts.1 c.part.ensures.follows;
      }),
    )
