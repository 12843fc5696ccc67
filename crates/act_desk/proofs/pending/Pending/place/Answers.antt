use Rattle.std.proofs.Common.{◌≤◌, ◌-◌, ◌<◌, arith, length, subst}
use Rattle.std.proofs.lemmas.Option.{slice_get_within}
use Rattle.act_desk.specs.Events.{entries_in}
use Rattle.act_desk.specs.Shown.{Awaited}
use Rattle.act_desk.proofs.pending.Pending.place.Goals as goal

pub returns-clause-within : goal.returns-clause-within
returns-clause-within g c =
    let p = c.self.inside in
    let within : p.receipt.place - 1 < length (entries_in p.prefix) = slice_get_within (entries_in p.prefix) (p.receipt.place - 1) _ c.self.invariant.1 in
    let le : p.receipt.place ≤ length (entries_in p.prefix) = omega arith in
    subst (λ (a : Awaited). a.place ≤ length (entries_in a.seen)) c.self.view_is le
