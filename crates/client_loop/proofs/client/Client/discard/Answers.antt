use Rattle.std.proofs.Common.{◌≡◌, ◌∙◌, ap, refl, subst, take, true}
use Rattle.std.specs.Prelude.{IfSome}
use Rattle.client_loop.specs.Clients.{ClientDiscards, ClientState, Wire, wire_of}
use Rattle.client_loop.proofs.PortSlots.{some_then}
use Rattle.client_loop.proofs.client.Client.discard.Goals as goal

pub returns-clause-discarded : goal.returns-clause-discarded
returns-clause-discarded g c =
    let f = c.self.inside in
    let remaining = g.S.Stream.remaining in
    let contents = g.S.Stream.contents in
    let s : ClientState = record { now = f.session; released = f.released.value; wire = wire_of remaining contents f.stream; began = wire_of remaining contents f.began.value } in
    let over : f.session.over ≡ true = ap (λ (o : ClientState). o.now.over) c.self.view_is ∙ c.requires in
    let w : Wire = wire_of remaining contents c.read.new.self in
    let new : ClientState = record s { wire = w } in
    subst (λ (o : ClientState). IfSome c.read.result (λ n. ClientDiscards o new)) c.self.view_is
    (some_then c.read.result _ _ (λ n consumed. record {
      over = over;
      piece = take n c.read.new.buffer.items;
      wire = w;
      read = consumed;
      kept = c.read.ensures.kept;
      is = refl;
    }) c.read.ensures.bytes)
