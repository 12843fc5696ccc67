use Rattle.std.proofs.Common.{◌≡◌, Ok, ap, get_or, rules, sym}
use Rattle.act_store.specs.declared.entry.Entry.{Entry}
use Rattle.act_desk.proofs.Following.{other_reply}
use Rattle.act_desk.proofs.settle.find_reply.Goals.{then-not-same-via-then-not-same, then-not-same-via-else-not-same+then-not-same-2}
use Rattle.act_desk.proofs.settle.find_reply.Goals as goal

pub returns-then-not-same-clause-other : goal.returns-then-not-same-clause-other
returns-then-not-same-clause-other c =
    let asked = c.args.asked.now in
    let one = c.index-asked-at.result in
    let reply = c.in-Ok.reply in
    let is_one : get_or asked c.args.at one ≡ one = search rules in
    let is_ok : one.answer ≡ Ok reply = search rules in
    other_reply c.args.seat c.args.at asked one reply c.args.entry.now c.requires.within is_one is_ok
    (λ is. elim c.then-not-same.branch [
      | then-not-same-via-then-not-same w ↦ cc (w.if-not-same.ensures.1 (sym (ap (λ (e : Entry). e.command) is)))
      | then-not-same-via-else-not-same+then-not-same-2 w ↦ cc (w.if-not-same-2.ensures.1 (sym (ap (λ (e : Entry). e.reply) is)))
    ])
