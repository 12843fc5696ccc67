use Rattle.std.proofs.Common.{◌≡◌, ℕ, Some, length, option_and_then, slice_get}
use Rattle.label_lists.specs.Lists.{OnlyGrows}
use Rattle.table_bindings.specs.LabelNumbers.{IsListOf, kept_texts}
use Rattle.table_bindings.proofs.label_numbers.enter_legs.Given as goal

-- the numbers so far are those of the legs so far
abbrev pub invariant-loop-l : goal.invariant-loop-l
invariant-loop-l l =
    (length l.legs.items ≡ l.l)
    × ((k n : ℕ) → slice_get l.legs.items k ≡ Some n → IsListOf l.lists l.r (option_and_then kept_texts (slice_get l.labels k)) n)
    × OnlyGrows l.fn.lists l.lists
