use Rattle.table_bindings.specs.inner.LabelNumbers.{OnlyPuts}
use Rattle.table_runs.proofs.OffersList.{LegsOfferUpTo}
use Rattle.table_runs.proofs.rows.offers.offer_legs.Given as goal
use Rattle.std.proofs.Common.{true}

-- the run is marked for the lists of the ready legs so far
abbrev pub invariant-loop-l : goal.invariant-loop-l
invariant-loop-l l = LegsOfferUpTo l.lists l.numbers l.r l.j l.legs l.l × OnlyPuts l.r true l.fn.lists l.lists
