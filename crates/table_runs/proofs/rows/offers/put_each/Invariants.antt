use Rattle.std.proofs.Common.{◌≡◌, ◌<◌, ℕ, Some, slice_get}
use Rattle.label_lists.specs.Lists.{may_offer}
use Rattle.table_bindings.specs.inner.LabelNumbers.{OnlyPuts}
use Rattle.table_runs.proofs.rows.offers.put_each.Given as goal

-- the run is marked or unmarked for the numbers so far
abbrev pub invariant-loop-l : goal.invariant-loop-l
invariant-loop-l l =
    ((k n : ℕ) → k < l.l → slice_get l.numbers k ≡ Some n → may_offer l.lists n l.r ≡ l.to) × OnlyPuts l.r l.to l.fn.lists l.lists
