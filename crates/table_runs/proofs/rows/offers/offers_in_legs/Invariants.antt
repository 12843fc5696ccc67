use Rattle.table_bindings.specs.inner.LabelNumbers.{leg_offers}
use Rattle.table_runs.proofs.OffersList.{NonePasses}
use Rattle.table_runs.proofs.rows.offers.offers_in_legs.Given as goal

-- no ready leg so far has the number
abbrev pub invariant-loop-l : goal.invariant-loop-l
invariant-loop-l l = NonePasses (leg_offers l.numbers l.number l.j) l.legs l.l
