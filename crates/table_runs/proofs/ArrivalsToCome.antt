-- How many arrivals are to come once a run is added, or begins its next attempt.
use Rattle.std.specs.Prelude.{◌≡◌, ◌≤◌, ◌+◌, ◌++◌, ◌∷◌, ℕ, zero, suc, List, [], sum_by, Some, slice_get, slice_set}
use Rattle.std.proofs.Common.{arith, ap}
use Rattle.std.proofs.lemmas.List.Sums.{sum_by-append, sum_by-cons}
use Rattle.std.proofs.lemmas.Option.{same_Some}
use Rattle.table_bindings.specs.GroupKeys.{arrivals_of}
use Rattle.table_bindings.specs.declared.bindings.RunBindings.{RunBindings}
use Rattle.table_runs.specs.inner.GroupsKept.{arrivals_to_come}

abbrev its_arrivals : RunBindings → ℕ
its_arrivals kept = arrivals_of kept.keys

sum_set : {X : Type 0} (f : X → ℕ) (xs : List X) (i : ℕ) (x y : X) → slice_get xs i ≡ Some x
    → sum_by f (slice_set xs i y) + f x ≡ sum_by f xs + f y
sum_set f [] i x y at = cc
sum_set f (z ∷ xs) zero x y at =
    let same : f z ≡ f x = ap f (same_Some z x at) in omega (arith, sum_by-cons f z xs, sum_by-cons f y xs, same)
sum_set f (z ∷ xs) (suc i) x y at =
    omega (arith, sum_by-cons f z xs, sum_by-cons f z (slice_set xs i y), sum_set f xs i x y at)

sum_has : {X : Type 0} (f : X → ℕ) (xs : List X) (i : ℕ) (x : X) → slice_get xs i ≡ Some x → f x ≤ sum_by f xs
sum_has f [] i x at = cc
sum_has f (z ∷ xs) zero x at = let same : f z ≡ f x = ap f (same_Some z x at) in omega (arith, sum_by-cons f z xs, same)
sum_has f (z ∷ xs) (suc i) x at = omega (arith, sum_by-cons f z xs, sum_has f xs i x at)

-- those of a run are among all
pub its_share : (kept : List RunBindings) (r : ℕ) (was : RunBindings) → slice_get kept r ≡ Some was
    → arrivals_of was.keys ≤ arrivals_to_come kept
its_share kept r was at = sum_has its_arrivals kept r was at

-- memory is taken for those of the run that is added
pub expected_added : (kept : List RunBindings) (b : RunBindings) (before after : ℕ) → after ≡ before + arrivals_of b.keys
    → arrivals_to_come kept ≤ before → arrivals_to_come (kept ++ b ∷ []) ≤ after
expected_added kept b before after more enough =
    omega (arith, more, enough, sum_by-append its_arrivals kept (b ∷ []), sum_by-cons its_arrivals b [])

-- and for those of the next attempt, in place of those of the last
pub expected_again : (kept : List RunBindings) (r : ℕ) (was b : RunBindings) (before between after : ℕ) → slice_get kept r ≡ Some was
    → between ≡ before + arrivals_of b.keys → between ≤ after + arrivals_of was.keys → arrivals_to_come kept ≤ before
    → arrivals_to_come (slice_set kept r b) ≤ after
expected_again kept r was b before between after at more fewer enough =
    omega (arith, more, fewer, enough, sum_set its_arrivals kept r was b at)

-- those that will not come are fewer
pub fewer_to_come : (kept : List RunBindings) (r : ℕ) (was now : RunBindings) (n : ℕ) → slice_get kept r ≡ Some was
    → arrivals_of now.keys + n ≡ arrivals_of was.keys → arrivals_to_come (slice_set kept r now) + n ≡ arrivals_to_come kept
fewer_to_come kept r was now n at fewer = omega (arith, fewer, sum_set its_arrivals kept r was now at)
