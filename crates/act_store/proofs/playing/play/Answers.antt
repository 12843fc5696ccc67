use Rattle.std.proofs.Common.{arith}
use Rattle.act_store.proofs.Plays.{PlayLeaves, play_leaves}
use Rattle.act_store.proofs.playing.play.Given.{Over}
use Rattle.act_store.proofs.playing.play.Goals as goal

leaves : (g : Over) (c : goal.Else-prove g)
    → PlayLeaves g.D.Disk.honest g.D.Disk.moment g.D.Disk.fault_count g.D.Disk.images_since g.D.Disk.images c.args.store.now
    c.take_all-answers.new.store
leaves g c =
    let disk = g.D.Disk in
    let all = c.take_all-answers in
    play_leaves disk.honest disk.moment disk.fault_count disk.images_since disk.images g.met.D.Disk.only_now (λ v. v.items) all.result
    c.args.store.now all.new.store c.args.steps.now all.ensures c.covered-first.ensures.within
    c.covered-last.ensures.promise

pub returns-clause-any_moment : goal.returns-clause-any_moment
returns-clause-any_moment g c = (leaves g c).any_moment

pub returns-clause-recovers : goal.returns-clause-recovers
returns-clause-recovers g c = (leaves g c).recovers

pub returns-clause-grows : goal.returns-clause-grows
returns-clause-grows g c = (leaves g c).grows

pub returns-clause-honest : goal.returns-clause-honest
returns-clause-honest g c = (leaves g c).stays_honest

pub prove-unreachable-requires : goal.prove-unreachable-requires
prove-unreachable-requires g c =
    let disk = g.D.Disk in
    let all = c.take_all-answers in
    let left = play_leaves disk.honest disk.moment disk.fault_count disk.images_since disk.images g.met.D.Disk.only_now (λ v. v.items)
    all.result c.args.store.now all.new.store c.args.steps.now all.ensures c.covered-first.ensures.within
    c.covered-last.ensures.promise in
    omega (arith, left.grows.covers, c.covered-first.ensures.value, c.covered-last.ensures.value)
