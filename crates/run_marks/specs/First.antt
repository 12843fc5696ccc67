-- The first number that is at least k and passes a test.
use Rattle.std.specs.Prelude.{◌≡◌, ℕ, ◌≤◌, ◌<◌, Bool, true, false, Option, Some, None}

abbrev pub IsFirstFrom : (ℕ → Bool) → ℕ → Option ℕ → Type 0
IsFirstFrom has k None = (i : ℕ) → k ≤ i → has i ≡ false
IsFirstFrom has k (Some r) = (k ≤ r) × (has r ≡ true) × ((i : ℕ) → k ≤ i → i < r → has i ≡ false)
