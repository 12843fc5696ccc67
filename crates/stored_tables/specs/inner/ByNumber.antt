-- Look-ups by a number that some things have, such as legs by their leases.
use Rattle.std.specs.Prelude.{◌≡◌, ◌⊎◌, ℕ, true, is_some, MatchOption, Option, Some}

-- what is found has the number, and if nothing is found then nothing has it
abbrev pub Finds : {P : Type 0} → (P → Option ℕ) → ℕ → Option P → Type 0
Finds number_of n found = MatchOption found ((p : _) → number_of p ≡ Some n → ⊥) (λ p. number_of p ≡ Some n)

-- After an insertion, what is found was found before or is new, and every look-up that succeeded before still succeeds.
pub record Adds {P : Type 0} (before after : ℕ → Option P) (is_new : P → ℕ → Type 0) : Type 0 where
  pub old_or_new : (n : ℕ) (p : P) → after n ≡ Some p → (before n ≡ Some p) ⊎ is_new p n
  pub keeps : (n : ℕ) → is_some (before n) ≡ true → is_some (after n) ≡ true
  pub finds_new : (n : ℕ) (p : P) → is_new p n → is_some (after n) ≡ true
