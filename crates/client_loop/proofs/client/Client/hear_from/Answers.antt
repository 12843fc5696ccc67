use Rattle.std.proofs.Common.{◌≡◌, ◌∙◌, ap, false, refl, subst, take}
use Rattle.client_loop.specs.Clients.{ClientHears, ClientState, Wire, wire_of}
use Rattle.client_loop.specs.Conversation.{Follows}
use Rattle.client_loop.proofs.client.Client.hear_from.Goals as goal

pub returns-clause-heard : goal.returns-clause-heard
returns-clause-heard g c =
    let f = c.self.inside in
    let remaining = g.S.Stream.remaining in
    let contents = g.S.Stream.contents in
    let s : ClientState = record { now = f.session; released = f.released.value; wire = wire_of remaining contents f.stream; began = wire_of remaining contents f.began.value } in
    let live : f.session.over ≡ false = ap (λ (o : ClientState). o.now.over) c.self.view_is ∙ c.requires in
    let w : Wire = wire_of remaining contents c.read.new.self in
    let piece = take c.in-Some.count c.read.new.buffer.items in
    let new : ClientState = record s { now = c.hear.new.self; wire = w } in
    subst (λ (o : ClientState). ClientHears (Follows g.P.Protocol.rules) c.args.number piece c.args.store.now c.hear.new.store o new) c.self.view_is (record {
      live = live;
      now = c.hear.new.self;
      wire = w;
      read = c.in-Some.ensures.bytes;
      kept = c.read.ensures.kept;
      is = refl;
      hears = c.hear.ensures.heard live;
      follows_is = c.hear.ensures.follows;
    })
