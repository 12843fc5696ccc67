use Rattle.std.proofs.Common.{◌≡◌, ◌++◌, ◌∙◌, List, ℕ, ap, arith, drop, length, length-drop, take, append_assoc, take-append-drop}
use Rattle.client_loop.specs.Conversation.{Conversation}
use Rattle.client_loop.proofs.HeldPieces.{at_sent}
use Rattle.client_loop.proofs.PendingPart.{none_after}
use Rattle.client_loop.proofs.session.Session.send.Goals as goal

pub invariant_of-self : goal.invariant_of-self
invariant_of-self g c =
    let s = c.self.inside in
    let n = c.args.n in
    let old : Conversation = record { received = s.received; requests = s.count; exchanges = s.exchanges; sent = s.sent; withheld = s.out.items; more = s.more; over = s.over; parted = s.farewell } in
    let left : c.take_first_off.new.bytes.items ≡ drop n s.out.items = c.take_first_off.ensures in
    at_sent g.P.Protocol.rules old c.add.new.self c.take_first_off.new.bytes.items s.held s.cut _
    (ap (λ (l : List ℕ). l ++ c.take_first_off.new.bytes.items) c.add.ensures ∙ ap (λ (l : List ℕ). (s.sent ++ take n s.out.items) ++ l) left
    ∙ append_assoc s.sent (take n s.out.items) (drop n s.out.items) ∙ ap (λ (l : List ℕ). s.sent ++ l) (take-append-drop n s.out.items))
    (let e = ap length left in let f = length-drop n s.out.items in omega arith) (none_after c.is_empty.result c.take_first_off.new.bytes.items c.as_slice.result.now c.as_slice.ensures.value c.is_empty.ensures) c.self.invariant
