use Rattle.std.proofs.Common.{inr}
use Rattle.client_loop.proofs.laws.a_crash_ends_one_life.Goals as goal

pub returns : goal.returns
returns g c = λ hooks s image table promised is_honest left recovers.
    let some = promised.recovers is_honest image left in
    record { legal = promised.legal; count = some.count; from = some.from; within = some.within; found = inr (image, some.recovers, recovers) }
