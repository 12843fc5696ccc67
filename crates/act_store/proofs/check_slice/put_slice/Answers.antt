use Rattle.std.proofs.Common.{rules, arith, ◌+◌, ◌≤◌, take, subst, length-take-le}
use Rattle.definitions.specs.Disk.{Holds}
use Rattle.gated_journal.specs.TwoAreas.{other, start_of}
use Rattle.act_store.proofs.Snapshots.{slice_on}
use Rattle.act_store.proofs.check_slice.put_slice.Goals as goal

pub returns-clause-held : goal.returns-clause-held
returns-clause-held g c = λ honest long held.
    let disk = g.D.Disk in
    let b = c.args.begun.now in
    let to = c.min-to.result in
    let less : b.put ≤ to = search (rules, arith) in
    subst (λ l. Holds (disk.seen c.put.new.disk) (start_of c.args.areas.len (other c.args.areas.side) + 1) l)
    (slice_on b.head_and_text.items c.deref.result.now b.put to less (search rules))
    (c.in_ok-put.ensures.grown (take b.put b.head_and_text.items) honest
    (omega (arith, length-take-le b.put b.head_and_text.items c.requires.put)) long held)
