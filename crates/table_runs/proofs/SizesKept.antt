-- How the size of the runs changes as a run is added or replaced, and its bound.
use Rattle.std.specs.Prelude.{◌≡◌, ℕ, zero, suc, ◌+◌, ◌*◌, ◌<◌, ◌≤◌, List, [], ◌∷◌, ◌++◌, length, sum_by, slice_set}
use Rattle.std.specs.List.{AllByRecursion}
use Rattle.std.proofs.Common.{arith, ap, get_or, sym, subst}
use Rattle.std.proofs.lemmas.List.{length-set}
use Rattle.std.proofs.lemmas.List.Sums.{get_or-le-sum_by, sum_by-cons, sum_by-set, sum_by_push}
use Rattle.definitions.specs.Limits.{max_runs}
use Rattle.table_model.specs.Changes.{changed}
use Rattle.table_model.specs.Runs.{RunState}
use Rattle.table_runs.specs.StoredSizes.{IsSizeOf, IsSmall, max_run_size, run_size}
use Rattle.table_model.specs.declared.change.Change.{Change}
use Rattle.table_runs.proofs.StoredSizes.{small_changed, small_size}

-- ---- lists of runs within their limits

all_more : {X : Type 0} (P : X → Type 0) (xs : List X) (y : X) → AllByRecursion P xs → P y → AllByRecursion P (xs ++ y ∷ [])
all_more P [] y all one = (one, tt)
all_more P (x ∷ xs) y all one = (all.0, all_more P xs y all.1 one)

all_put : {X : Type 0} (P : X → Type 0) (xs : List X) (i : ℕ) (y : X) → AllByRecursion P xs → P y → AllByRecursion P (slice_set xs i y)
all_put P [] i y all one = tt
all_put P (x ∷ xs) zero y all one = (one, all.1)
all_put P (x ∷ xs) (suc i) y all one = (all.0, all_put P xs i y all.1 one)

pub small_at : (runs : List RunState) (r : ℕ) (x : RunState) → r < length runs → x ≡ get_or runs r x → AllByRecursion IsSmall runs → IsSmall x
small_at [] r x within is all = absurd (omega (arith, within))
small_at (z ∷ zs) zero x within is all = subst IsSmall (sym is) all.0
small_at (z ∷ zs) (suc r) x within is all = small_at zs r x (omega (arith, within)) is all.1

sizes_most : (runs : List RunState) → AllByRecursion IsSmall runs → sum_by run_size runs ≤ length runs * max_run_size
sizes_most [] all = omega arith
sizes_most (x ∷ xs) all =
    let sum = sum_by-cons run_size x xs in
    let one = small_size x all.0 in
    let rest = sizes_most xs all.1 in
    omega (arith, sum, one, rest)

-- ---- the size

pub size_most : (runs : List RunState) (size : ℕ) → IsSizeOf runs size → length runs ≤ max_runs → size ≤ max_runs * max_run_size
size_most runs size of few = omega (arith, of.is, sizes_most runs of.small, few)

-- a run is added
pub size_more : (runs : List RunState) (run : RunState) (size one : ℕ) → one ≡ run_size run → IsSmall run → IsSizeOf runs size
    → IsSizeOf (runs ++ run ∷ []) (size + one)
size_more runs run size one is small of = record {
  is = omega (arith, of.is, is, sum_by_push run_size runs run);
  small = all_more IsSmall runs run of.small small;
}

-- a run is replaced
pub size_put : (runs : List RunState) (r : ℕ) (x y : RunState) (size total : ℕ) → r < length runs → x ≡ get_or runs r x → IsSmall y
    → total + run_size x ≡ size + run_size y → IsSizeOf runs size → IsSizeOf (slice_set runs r y) total
size_put runs r x y size total within is small sizes of = record {
  is = omega (arith, of.is, sizes, sum_by-set run_size runs r y x within, ap run_size is);
  small = all_put IsSmall runs r y of.small small;
}

-- and it has no more than all
pub size_within : (runs : List RunState) (r : ℕ) (x : RunState) (size one : ℕ) → r < length runs → x ≡ get_or runs r x → one ≡ run_size x
    → IsSizeOf runs size → one ≤ size
size_within runs r x size one within is sized of =
    omega (arith, of.is, sized, ap run_size is, get_or-le-sum_by run_size runs r x within)

-- a run is changed
pub size_changed : (runs : List RunState) (r : ℕ) (x y : RunState) (change : Change) (size more : ℕ) → r < length runs → x ≡ get_or runs r x
    → y ≡ changed change x → run_size (changed change x) ≡ run_size x + more → IsSizeOf runs size → IsSizeOf (slice_set runs r y) (size + more)
size_changed runs r x y change size more within is next sizes of =
    size_put runs r x y size (size + more) within is
    (subst IsSmall (sym next) (small_changed change x (small_at runs r x within is of.small)))
    (omega (arith, sizes, ap run_size next)) of

pub change_fits : (runs : List RunState) (r : ℕ) (x y : RunState) (change : Change) (size more : ℕ) → r < length runs → x ≡ get_or runs r x
    → y ≡ changed change x → run_size (changed change x) ≡ run_size x + more → IsSizeOf runs size → length runs ≤ max_runs
    → size + more ≤ max_runs * max_run_size
change_fits runs r x y change size more within is next sizes of few =
    size_most (slice_set runs r y) (size + more) (size_changed runs r x y change size more within is next sizes of)
    (omega (arith, few, length-set runs r y))
