use Rattle.std.proofs.Common.{◌≡◌, ◌≤◌, ◌∙◌, List, ℕ, ap, length, subst, take}
use Rattle.std.specs.Io.KnownBytes.{Appends}
use Rattle.client_loop.specs.Clients.{ClientSends, ClientState, Wire, sent_of, wire_of}
use Rattle.client_loop.specs.Conversation.{Conversation, Follows}
use Rattle.client_loop.proofs.client.Client.send_to.Goals as goal

pub returns : goal.returns
returns g c =
    let f = c.self.inside in
    let remaining = g.S.Stream.remaining in
    let contents = g.S.Stream.contents in
    let s : ClientState = record { now = f.session; released = f.released.value; wire = wire_of remaining contents f.stream; began = wire_of remaining contents f.began.value } in
    let n = c.write-count.result in
    let w : Wire = wire_of remaining contents c.write-count.new.self in
    let t : Conversation = sent_of f.session n in
    let own : c.withheld.result.now ≡ f.session.withheld = c.withheld.ensures in
    let sent : c.send.new.self ≡ t = c.send.ensures.sent in
    let new : ClientState = record s { now = c.send.new.self; released = c.of.result.value; wire = w } in
    subst (λ (o : ClientState). ClientSends (Follows g.P.Protocol.rules) n o new) c.self.view_is (record {
      unparted = ap (λ (o : ClientState). o.now.parted) c.self.view_is ∙ c.requires;
      within = subst (λ (l : List ℕ). n ≤ length l) own c.write-count.ensures.bound;
      wire = w;
      wrote = subst (λ (l : List ℕ). Appends s.wire.contents w.contents (take n l)) own c.write-count.ensures.bytes;
      kept = c.write-count.ensures.kept;
      is = ap (λ (x : Conversation). record s { now = c.send.new.self; released = x; wire = w }) c.of.ensures
          ∙ ap (λ (x : Conversation). record s { now = x; released = x; wire = w }) sent;
      follows_is = subst (Follows g.P.Protocol.rules) sent c.send.ensures.follows;
    })
