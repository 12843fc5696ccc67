use Rattle.std.proofs.Common.{◌≡◌, ℕ, length}
use Rattle.std.specs.Prelude.{Some, slice_get}
use Rattle.stored_tables.specs.Stored.{RunnerParts}
use Rattle.stored_tables.specs.TableOf.{IsRunnerAs}
use Rattle.table_model.specs.TableState.{RunnerState}
use Rattle.stored_tables.proofs.leased.Leased.runners.Given as goal

-- the runners so far, each of the parts at its index
abbrev pub invariant-loop-k : goal.invariant-loop-k
invariant-loop-k l =
    (length l.runners.items ≡ l.k) × ((i : ℕ) (x : RunnerState) → slice_get l.runners.items i ≡ Some x
    → (part : RunnerParts) → slice_get l.parts i ≡ Some part → IsRunnerAs l.self.last l.self.runs.now part x)
